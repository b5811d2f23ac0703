-- Euler's criterion in lawful fields of odd size, and Fermat's theorem.
-- The codes above 0 are paired so that each pair has the product b: all of them, or all but the two roots of b.
use Rattle.std.proofs.Common.{◌≡◌, ℕ, suc, ◌-◌, ◌*◌, ◌/◌, ◌%◌, ◌<◌, ◌⊎◌, List, length, sym, refl, ap, ◌∙◌, subst, ap₂, inl, inr, arith}
use native.Mathlib.Decide.{ℕ_discrete}
use Rattle.theory.specs.Meaning.{Meaning, Laws, Lawful}
use Rattle.theory.specs.Operation.{multiplication}
use Rattle.theory.specs.Power.{power}
use Rattle.theory.proofs.Bounded.{bounded}
use Rattle.theory.proofs.Codes.{product_remainder_right}
use Rattle.theory.proofs.Fields.{product_zero, product_cancel, product_positive, product_negative, product_negatives, negative_product, negative_positive, negative_injective, divide, two_roots}
use Rattle.theory.proofs.Lists.{Has, Distinct, without, length_without, without_has, has_without, without_gone, distinct_without, images, length_images, has_images, images_has, distinct_images}
use Rattle.theory.proofs.Odd.{negative_differs}
use Rattle.theory.proofs.Pairing.{joined, joined_without, Partners, Paired, paired}
use Rattle.theory.proofs.PowerLaws.{one_below, remainder_below, power_below, power_suc, power_of_one, power_mul, power_two}

-- The codes above 0.
nonzero : Meaning → List ℕ
nonzero m = images suc (m.size - 1)

length_nonzero : (m : Meaning) → length (nonzero m) ≡ m.size - 1
unfolding nonzero
length_nonzero m = length_images suc (m.size - 1)

distinct_nonzero : (m : Meaning) → Distinct (nonzero m)
unfolding nonzero
distinct_nonzero m = distinct_images suc (m.size - 1) (λ i j h g e. omega arith)

nonzero_has : (m : Meaning) (x : ℕ) → Has x (nonzero m) → (0 < x) × (x < m.size)
unfolding nonzero
nonzero_has m x h = let found = images_has suc (m.size - 1) x h in omega (arith, found.1, found.2)

has_nonzero : (m : Meaning) (x : ℕ) → 0 < x → x < m.size → Has x (nonzero m)
unfolding nonzero
has_nonzero m x low high =
    subst (λ y. Has y (images suc (m.size - 1))) (omega arith) (has_images suc (m.size - 1) (x - 1) (omega arith))

-- b has no root.
abbrev pub Rootless : Meaning → ℕ → Type 0
Rootless m b = (x : ℕ) → x < m.size → m.product x x ≡ b → ⊥

module _ (m : Meaning) (laws : Laws m) (lawful : Lawful m) where
  all : ℕ
  all = joined (multiplication m) (nonzero m)

  pairs_of : (b : ℕ) (xs : List ℕ) → Distinct xs → Partners (multiplication m) b xs → Paired (multiplication m) b xs
  pairs_of b xs distinct partners = paired (multiplication m) laws.product_comm laws.product_assoc b xs distinct partners

  -- codes above 0 with the same product with x are equal
  unique_in : (b : ℕ) (xs : List ℕ) → ((x : ℕ) → Has x xs → Has x (nonzero m)) → (x y z : ℕ) → Has x xs → Has y xs → Has z xs
      → m.product x y ≡ b → m.product x z ≡ b → y ≡ z
  unique_in b xs inside x y z hx hy hz ey ez =
      let bx = nonzero_has m x (inside x hx) in
      product_cancel m laws lawful x y z bx.0 bx.1 (nonzero_has m y (inside y hy)).1 (nonzero_has m z (inside z hz)).1
      (ey ∙ sym ez)

  -- the number whose product with x is b, where b is not 0
  quotient : (b x : ℕ) → 0 < b → b < m.size → Has x (nonzero m) → (y : ℕ) × Has y (nonzero m) × (m.product x y ≡ b)
  quotient b x low high h = (y.0, has_nonzero m y.0 positive y.1, y.2)
    where
      y : (c : ℕ) × (c < m.size) × (m.product x c ≡ b)
      y = divide m laws lawful x b (nonzero_has m x h).0 (nonzero_has m x h).1 high

      positive : 0 < y.0
      positive =
          let other : y.0 ≡ 0 → ⊥ = λ e. absurd (omega (arith, sym y.2 ∙ ap (m.product x) e ∙ product_zero m laws x)) in
          omega arith

  -- where b has no root, the product of all is the power (size − 1) / 2 of b
  all_rootless : (b : ℕ) → 0 < b → b < m.size → Rootless m b → all ≡ power m b ((m.size - 1) / 2)
  unfolding all
  all_rootless b low high none = from (pairs_of b (nonzero m) (distinct_nonzero m) partners)
    where
      partners : Partners (multiplication m) b (nonzero m)
      partners = record {
        partner = λ x h.
            let y = quotient b x low high h in
            (y.0, y.1, y.2, λ e. none x (nonzero_has m x h).1 (ap (m.product x) e ∙ y.2));
        unique = unique_in b (nonzero m) (λ x h. h);
      }

      from : Paired (multiplication m) b (nonzero m) → joined (multiplication m) (nonzero m) ≡ power m b ((m.size - 1) / 2)
      from (k, count, total) =
          let half : k ≡ (m.size - 1) / 2 = omega (arith, sym (length_nonzero m) ∙ count) in total ∙ ap (power m b) half

  -- where b is the square of x, it is the negative of that power
  module _ (odd : m.size % 2 ≡ 1) (x : ℕ) (low : 0 < x) (high : x < m.size) where
    abbrev b : ℕ
    b = m.product x x

    abbrev minus : ℕ
    minus = m.negative x

    first_root : Has x (nonzero m)
    first_root = has_nonzero m x low high

    second_root : Has minus (without x (nonzero m) first_root)
    second_root =
        has_without x (nonzero m) first_root minus (negative_differs m laws lawful odd x low high)
        (has_nonzero m minus (negative_positive m laws x low high) (laws.negative_below x))

    abbrev others : List ℕ
    others = without minus (without x (nonzero m) first_root) second_root

    others_inside : (z : ℕ) → Has z others → Has z (nonzero m)
    others_inside z h = without_has x (nonzero m) first_root z (without_has minus _ second_root z h)

    others_first : (z : ℕ) → Has z others → z ≡ x → ⊥
    others_first z h e =
        without_gone x (nonzero m) first_root (distinct_nonzero m)
        (subst (λ y. Has y (without x (nonzero m) first_root)) e (without_has minus _ second_root z h))

    others_distinct_but : Distinct (without x (nonzero m) first_root)
    others_distinct_but = distinct_without x (nonzero m) first_root (distinct_nonzero m)

    others_second : (z : ℕ) → Has z others → z ≡ minus → ⊥
    others_second z h e =
        without_gone minus _ second_root others_distinct_but (subst (λ y. Has y others) e h)

    -- the partner of one of the others is one of them, and not itself
    others_closed : (z : ℕ) → Has z others → (y : ℕ) → Has y (nonzero m) → m.product z y ≡ b → Has y others
    others_closed z h y inside e =
        has_without minus _ second_root y
        (λ f. others_second z h (cancel minus (second_inside) (ap (m.product z) (sym f) ∙ e ∙ sym (product_negatives m laws x x))))
        (has_without x (nonzero m) first_root y
        (λ f. others_first z h (cancel x first_root (ap (m.product z) (sym f) ∙ e))) inside)
      where
        second_inside : Has minus (nonzero m)
        second_inside = without_has x (nonzero m) first_root minus second_root

        cancel : (r : ℕ) → Has r (nonzero m) → m.product z r ≡ m.product r r → z ≡ r
        cancel r hr same =
            product_cancel m laws lawful r z r (nonzero_has m r hr).0 (nonzero_has m r hr).1
            (nonzero_has m z (others_inside z h)).1 (nonzero_has m r hr).1 (laws.product_comm r z ∙ same)

    others_no_root : (z : ℕ) → Has z others → m.product z z ≡ b → ⊥
    others_no_root z h e = from (two_roots m laws lawful z x (nonzero_has m z (others_inside z h)).1 high e)
      where
        from : (z ≡ x) ⊎ (z ≡ minus) → ⊥
        from (inl f) = others_first z h f
        from (inr f) = others_second z h f

    square_low : 0 < b
    square_low = product_positive m laws lawful x x low high low high

    others_partners : Partners (multiplication m) b others
    others_partners = record {
      partner = λ z h.
          let y = quotient b z square_low (laws.product_below x x) (others_inside z h) in (
            y.0,
            others_closed z h y.0 y.1 y.2,
            y.2,
            λ e. others_no_root z h (ap (m.product z) e ∙ y.2),
          );
      unique = unique_in b others others_inside;
    }

    all_square : all ≡ m.negative (power m b ((m.size - 1) / 2))
    unfolding all
    all_square = from (pairs_of b others (distinct_without minus _ second_root others_distinct_but) others_partners)
      where
        from : Paired (multiplication m) b others
            → joined (multiplication m) (nonzero m) ≡ m.negative (power m b ((m.size - 1) / 2))
        from (k, count, total) = front ∙ ap m.negative (ap (power m b) half)
          where
            half : suc k ≡ (m.size - 1) / 2
            half =
                omega (arith, length_nonzero m, length_without x (nonzero m) first_root, length_without minus _ second_root, count)

            front : joined (multiplication m) (nonzero m) ≡ m.negative (power m b (suc k))
            front =
                joined_without (multiplication m) laws.product_comm laws.product_assoc x (nonzero m) first_root
                ∙ ap (m.product x)
                (joined_without (multiplication m) laws.product_comm laws.product_assoc minus _ second_root)
                ∙ sym (laws.product_assoc x minus (joined (multiplication m) others))
                ∙ ap₂ m.product (product_negative m laws x x) total ∙ negative_product m laws b (power m b k)
                ∙ ap m.negative (laws.product_comm b (power m b k) ∙ sym (power_suc m laws b k))

  -- Wilson: the product of all codes above 0 is −1.
  all_is : m.size % 2 ≡ 1 → all ≡ m.negative 1
  all_is odd =
      all_square odd 1 (omega arith) (one_below m laws)
      ∙ ap (λ y. m.negative (power m y ((m.size - 1) / 2))) (laws.product_one 1 (one_below m laws))
      ∙ ap m.negative (power_of_one m laws ((m.size - 1) / 2))

  -- the power (size − 1) / 2 of a square is 1
  pub euler_of_square : m.size % 2 ≡ 1 → (b : ℕ) → 0 < b → b < m.size → (x : ℕ) → m.product x x ≡ b
      → power m b ((m.size - 1) / 2) ≡ 1
  euler_of_square odd b low high x e =
      negative_injective m laws _ 1 (power_below m laws b half) (one_below m laws)
      (ap (λ y. m.negative (power m y half)) (sym square) ∙ sym (all_square odd r positive below) ∙ all_is odd)
    where
      half : ℕ
      half = (m.size - 1) / 2

      r : ℕ
      r = x % m.size

      below : r < m.size
      below = remainder_below m laws x

      square : m.product r r ≡ b
      square = laws.product_remainder x r ∙ product_remainder_right m laws x x ∙ e

      positive : 0 < r
      positive =
          let other : r ≡ 0 → ⊥ = λ z. absurd (omega (arith, sym square ∙ ap (m.product r) z ∙ product_zero m laws r)) in
          omega arith

  -- the power (size − 1) / 2 of a code without a root is −1
  pub euler_of_none : m.size % 2 ≡ 1 → (b : ℕ) → 0 < b → b < m.size → Rootless m b
      → power m b ((m.size - 1) / 2) ≡ m.negative 1
  euler_of_none odd b low high none = sym (all_rootless b low high none) ∙ all_is odd

  -- each code has a root or has none
  pub root_decide : (b : ℕ) → ((x : ℕ) × (x < m.size) × (m.product x x ≡ b)) ⊎ Rootless m b
  root_decide b = bounded (λ x. m.product x x ≡ b) (λ x. ℕ_discrete (m.product x x) b) m.size

  -- a code above 0 whose power (size − 1) / 2 is 1 has a root
  pub square_of_euler : m.size % 2 ≡ 1 → (b : ℕ) → 0 < b → b < m.size → power m b ((m.size - 1) / 2) ≡ 1
      → (x : ℕ) × (x < m.size) × (m.product x x ≡ b)
  square_of_euler odd b low high one = from (root_decide b)
    where
      from : ((x : ℕ) × (x < m.size) × (m.product x x ≡ b)) ⊎ Rootless m b → (x : ℕ) × (x < m.size) × (m.product x x ≡ b)
      from (inl found) = found
      from (inr none) =
          absurd
          (negative_differs m laws lawful odd 1 (omega arith) (one_below m laws) (sym (euler_of_none odd b low high none) ∙ one))

  -- Fermat: the power size − 1 of a code above 0 is 1
  pub fermat : m.size % 2 ≡ 1 → (a : ℕ) → 0 < a → a < m.size → power m a (m.size - 1) ≡ 1
  fermat odd a low high =
      ap (power m a) twice ∙ sym (power_mul m laws a 2 ((m.size - 1) / 2))
      ∙ ap (λ y. power m y ((m.size - 1) / 2)) (power_two m laws a)
      ∙ euler_of_square odd (m.product a a) (product_positive m laws lawful a a low high low high) (laws.product_below a a) a refl
    where
      twice : m.size - 1 ≡ 2 * ((m.size - 1) / 2)
      twice = omega (arith, odd, one_below m laws)
