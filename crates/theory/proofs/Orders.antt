-- Orders: the solutions of x^r = 1, coprime exponents, and numbers of prime order.
use Rattle.std.proofs.Common.{◌≡◌, ℕ, zero, suc, ◌-◌, ◌*◌, ◌<◌, ◌≤◌, ◌∷◌, sym, ap, ◌∙◌, mod-eq_of_lt, mul_comm, mul-le-mul_left, one-mul, mul-one, arith}
use native.Mathlib.Nat.{mul-sub}
use native.Mathlib.Decide.{ℕ_discrete}
use Rattle.theory.specs.Meaning.{Meaning, Laws, Lawful}
use Rattle.theory.specs.Numbers.{Prime, Coprime}
use Rattle.theory.specs.Power.{power, Order}
use Rattle.theory.proofs.Bounded.{bounded_some}
use Rattle.theory.proofs.Divisors.{Subtractive, euclid, divides_bound, prime_coprime}
use Rattle.theory.proofs.Fields.{product_zero, product_cancel, power_positive}
use Rattle.theory.proofs.Lists.{images, length_images, distinct_images, all_images}
use Rattle.theory.proofs.PowerLaws.{one_below, power_below, power_one, power_suc, power_add, power_mul, power_one_multiple}
use Rattle.theory.proofs.RootCount.{power_roots}

module _ (m : Meaning) (laws : Laws m) where
  -- where the powers x and y are 1, so is the power x − y
  pub power_difference : (h x y : ℕ) → y ≤ x → power m h x ≡ 1 → power m h y ≡ 1 → power m h (x - y) ≡ 1
  power_difference h x y order one-x one-y =
      sym (laws.product_one (power m h (x - y)) (power_below m laws h (x - y)))
      ∙ ap (m.product (power m h (x - y))) (sym one-y) ∙ sym (power_add m laws h (x - y) y)
      ∙ ap (power m h) (omega arith) ∙ one-x

  -- where the powers c·a and c·b are 1, and a and b are coprime, the power c is 1
  pub coprime_exponents : (a b : ℕ) → Coprime a b → (h c : ℕ) → power m h (c * a) ≡ 1 → power m h (c * b) ≡ 1 → power m h c ≡ 1
  coprime_exponents a b coprime h c one-a one_b =
      ap (power m h) (sym (mul-one c)) ∙ euclid (λ e. power m h (c * e) ≡ 1) keeps a b coprime one-a one_b
    where
      keeps : Subtractive (λ e. power m h (c * e) ≡ 1)
      keeps x y order one-x one-y = ap (power m h) (mul-sub c x y) ∙ power_difference h (c * x) (c * y) (mul-le-mul_left c order) one-x one-y

  -- a number other than 1 whose power at a prime r is 1 has order r
  pub prime_order : (r : ℕ) → Prime r → (x : ℕ) → x < m.size → (x ≡ 1 → ⊥) → power m x r ≡ 1 → Order m x r
  prime_order r prime x below other one = record {
    some = omega (arith, prime.above_one);
    one = one;
    least = λ k low high unit. other (lower k low high unit);
  }
    where
      lower : (k : ℕ) → 0 < k → k < r → power m x k ≡ 1 → x ≡ 1
      lower k low high unit =
          sym (mod-eq_of_lt below) ∙ sym (power_one m laws x)
          ∙ coprime_exponents r k (prime_coprime r k prime (λ d. absurd (omega (arith, divides_bound r k low d)))) x 1
          (ap (power m x) (one-mul r) ∙ one) (ap (power m x) (one-mul k) ∙ unit)

  -- what has a power equal to 1 is above 0
  pub unit_positive : (a k : ℕ) → 0 < k → power m a k ≡ 1 → 0 < a
  unit_positive a zero low one = absurd (omega arith)
  unit_positive zero (suc k) low one =
      absurd (omega (arith, sym one ∙ power_suc m laws 0 k ∙ product_zero m laws (power m 0 k)))
  unit_positive (suc a) (suc k) low one = omega arith

module _ (m : Meaning) (laws : Laws m) (lawful : Lawful m) where
  -- below its order, the powers of a number differ
  pub order_distinct : (z r : ℕ) → Order m z r → z < m.size → (i j : ℕ) → i < j → j < r → power m z i ≡ power m z j → ⊥
  order_distinct z r order below i j h g e = order.least (j - i) (omega arith) (omega arith) unit
    where
      unit : power m z (j - i) ≡ 1
      unit =
          product_cancel m laws lawful (power m z i) (power m z (j - i)) 1
          (power_positive m laws lawful z i (unit_positive m laws z r order.some order.one) below) (power_below m laws z i)
          (power_below m laws z (j - i)) (one_below m laws)
          (sym (power_add m laws z i (j - i)) ∙ ap (power m z) (omega arith) ∙ sym e
          ∙ sym (laws.product_one (power m z i) (power_below m laws z i)))

  -- the solutions of x^r = 1 are the powers of a number of order r
  pub order_powers : (z r : ℕ) → Order m z r → z < m.size → (x : ℕ) → x < m.size → power m x r ≡ 1
      → (j : ℕ) × (j < r) × (x ≡ power m z j)
  order_powers z r order below x below-x one =
      bounded_some (λ j. x ≡ power m z j) (λ j. ℕ_discrete x (power m z j)) r one_more
    where
      one_more : ((j : ℕ) → j < r → x ≡ power m z j → ⊥) → ⊥
      one_more none =
          omega (
            arith,
            length_images (power m z) r,
            power_roots m laws lawful r order.some (x ∷ images (power m z) r)
                (all_images (λ y. x ≡ y → ⊥) (power m z) r none, distinct_images (power m z) r (order_distinct z r order below)) (
                  (below-x, one),
                  all_images (λ y. (y < m.size) × (power m y r ≡ 1)) (power m z) r (λ j h. (power_below m laws z j, solution j)),
                ),
          )
        where
          solution : (j : ℕ) → power m (power m z j) r ≡ 1
          solution j =
              power_mul m laws z j r ∙ ap (power m z) (mul_comm j r) ∙ power_one_multiple m laws z r j order.one
