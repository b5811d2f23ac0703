-- Rings of odd size: 1 + 1 is not 0; and if the ring is a lawful field, no number but 0 is its own negative.
use Rattle.std.proofs.Common.{◌≡◌, ℕ, ◌%◌, ◌<◌, true, ◌⊎◌, List, sym, ap, ◌∙◌, ap₂, inl, inr, mod-eq_of_lt, arith}
use Rattle.theory.specs.Meaning.{Meaning, Laws, Lawful}
use Rattle.theory.specs.Operation.{Operation}
use Rattle.theory.proofs.Fields.{product_zero, sum_cancel, zero_divisors}
use Rattle.theory.proofs.Lists.{Has, Distinct, images, length_images, has_images, images_has, distinct_images}
use Rattle.theory.proofs.Pairing.{Partners, Paired, paired}
use Rattle.theory.proofs.PowerLaws.{one_below}

addition : Meaning → Operation ℕ
addition m = record { neutral = 0; join = m.sum; spent = λ a. true; element = λ a. a }

-- x + x is x times 1 + 1
double : (m : Meaning) → Laws m → (x : ℕ) → x < m.size → m.sum x x ≡ m.product x (m.sum 1 1)
double m laws x below = sym (laws.product_sum x 1 1 ∙ ap₂ m.sum (laws.product_one x below) (laws.product_one x below))

-- In a ring of odd size 1 + 1 is not 0: were it 0, each x had the partner 1 − x, and the size were even.
pub two_not_zero : (m : Meaning) → Laws m → m.size % 2 ≡ 1 → m.sum 1 1 ≡ 0 → ⊥
unfolding addition
two_not_zero m laws odd zero-two = even (paired (addition m) laws.sum_comm laws.sum_assoc 1 codes distinct partners)
  where
    codes : List ℕ
    codes = images (λ (i : ℕ). i) m.size

    distinct : Distinct codes
    distinct = distinct_images (λ (i : ℕ). i) m.size (λ i j h g e. omega arith)

    below : (x : ℕ) → Has x codes → x < m.size
    below x h = let found = images_has (λ (i : ℕ). i) m.size x h in omega (arith, found.1, found.2)

    twice : (x : ℕ) → x < m.size → m.sum x x ≡ 0
    twice x h = double m laws x h ∙ ap (m.product x) zero-two ∙ product_zero m laws x

    one_less : (x : ℕ) → m.sum x (m.sum 1 (m.negative x)) ≡ 1
    one_less x =
        ap (m.sum x) (laws.sum_comm 1 (m.negative x)) ∙ sym (laws.sum_assoc x (m.negative x) 1)
        ∙ ap (λ y. m.sum y 1) (laws.sum_negative x) ∙ laws.sum_comm 0 1 ∙ laws.sum_zero 1 (one_below m laws)

    partners : Partners (addition m) 1 codes
    partners = record {
      partner = λ x h.
          let y = m.sum 1 (m.negative x) in (
            y,
            has_images (λ (i : ℕ). i) m.size y (laws.sum_below 1 (m.negative x)),
            one_less x,
            λ e. absurd (omega (arith, sym (twice x (below x h)) ∙ ap (m.sum x) e ∙ one_less x)),
          );
      unique = λ x y z hx hy hz ey ez. sum_cancel m laws x y z (below y hy) (below z hz) (ey ∙ sym ez);
    }

    even : Paired (addition m) 1 codes → ⊥
    even (k, count, all) = omega (arith, sym (length_images (λ (i : ℕ). i) m.size) ∙ count, odd)

-- a code above 0 is not its own negative
pub negative_differs : (m : Meaning) → Laws m → Lawful m → m.size % 2 ≡ 1 → (x : ℕ) → 0 < x → x < m.size → m.negative x ≡ x → ⊥
negative_differs m laws lawful odd x low high e =
    from (zero_divisors m laws lawful x (m.sum 1 1) (sym (double m laws x high) ∙ ap (m.sum x) (sym e) ∙ laws.sum_negative x))
  where
    from : (x % m.size ≡ 0) ⊎ (m.sum 1 1 % m.size ≡ 0) → ⊥
    from (inl z) = omega (arith, mod-eq_of_lt high, z)
    from (inr z) = two_not_zero m laws odd (sym (mod-eq_of_lt (laws.sum_below 1 1)) ∙ z)
