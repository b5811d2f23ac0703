-- Lawful fields: products that are 0, cancelling, inverses, and which numbers have the same square.
use Rattle.std.proofs.Common.{◌≡◌, ℕ, zero, suc, ◌%◌, ◌<◌, ◌⊎◌, sym, ap, ◌∙◌, ap₂, inl, inr, mod-eq_of_lt, arith}
use native.Mathlib.Decide.{ℕ_discrete}
use Rattle.theory.specs.Meaning.{Meaning, Laws, Lawful}
use Rattle.theory.specs.Operation.{pow}
use Rattle.theory.specs.Power.{power}
use Rattle.theory.proofs.Algebra.{mul_zero, neg_zero, neg_neg, neg_only, mul_neg, neg_mul_neg, add_cancel}
use Rattle.theory.proofs.Codes.{code, code_ring, code_injective, code_sum, code_zero, product_remainder_right, code_rules}
use Rattle.theory.proofs.PowerLaws.{size_positive, remainder_below, product_one_any, one_product, product_left_comm, power_below}

-- ---- any ring
module _ (m : Meaning) (laws : Laws m) where
  -- 0 times a number, and 0 added to a code
  pub product_zero : (a : ℕ) → m.product a 0 ≡ 0
  product_zero a =
      code_injective m laws _ _ (laws.product_below a 0) (size_positive m laws)
      (simp code_rules (mul_zero (code_ring m laws) (code m laws a)))

  pub zero_product : (a : ℕ) → m.product 0 a ≡ 0
  zero_product a = laws.product_comm 0 a ∙ product_zero a

  pub zero_sum : (a : ℕ) → a < m.size → m.sum 0 a ≡ a
  zero_sum a below = laws.sum_comm 0 a ∙ laws.sum_zero a below

  -- negatives: of 0, of a negative, and in a product
  pub negative_zero : m.negative 0 ≡ 0
  negative_zero =
      code_injective m laws _ _ (laws.negative_below 0) (size_positive m laws) (simp code_rules (neg_zero (code_ring m laws)))

  pub negative_negative : (a : ℕ) → a < m.size → m.negative (m.negative a) ≡ a
  negative_negative a below =
      code_injective m laws _ _ (laws.negative_below (m.negative a)) below
      (simp code_rules (neg_neg (code_ring m laws) (code m laws a)))

  -- the negative is the only code that gives 0 with a
  pub negative_only : (a b : ℕ) → b < m.size → m.sum a b ≡ 0 → b ≡ m.negative a
  negative_only a b below e =
      code_injective m laws _ _ below (laws.negative_below a)
      (simp code_rules
      (neg_only (code_ring m laws) (code m laws a) (code m laws b) (sym (code_sum m laws a b) ∙ ap (code m laws) e ∙ code_zero m laws)))

  -- codes with the same negative are equal
  pub negative_injective : (a b : ℕ) → a < m.size → b < m.size → m.negative a ≡ m.negative b → a ≡ b
  negative_injective a b low high e =
      sym (negative_negative a low) ∙ ap m.negative e ∙ negative_negative b high

  -- a negative factor makes the product negative, and two do not
  pub product_negative : (a b : ℕ) → m.product a (m.negative b) ≡ m.negative (m.product a b)
  product_negative a b =
      code_injective m laws _ _ (laws.product_below a (m.negative b)) (laws.negative_below (m.product a b))
      (simp code_rules (mul_neg (code_ring m laws) (code m laws a) (code m laws b)))

  pub negative_product : (a b : ℕ) → m.product (m.negative a) b ≡ m.negative (m.product a b)
  negative_product a b =
      laws.product_comm (m.negative a) b ∙ product_negative b a ∙ ap m.negative (laws.product_comm b a)

  pub product_negatives : (a b : ℕ) → m.product (m.negative a) (m.negative b) ≡ m.product a b
  product_negatives a b =
      code_injective m laws _ _ (laws.product_below (m.negative a) (m.negative b)) (laws.product_below a b)
      (simp code_rules (neg_mul_neg (code_ring m laws) (code m laws a) (code m laws b)))

  -- the negative of a code above 0 is above 0
  pub negative_positive : (a : ℕ) → 0 < a → a < m.size → 0 < m.negative a
  negative_positive a low high =
      let other : m.negative a ≡ 0 → ⊥ =
      λ e. absurd (omega (arith, sym (negative_negative a high) ∙ ap m.negative e ∙ negative_zero)) in
      omega arith

  -- a + b = a + c gives b = c, for codes
  pub sum_cancel : (a b c : ℕ) → b < m.size → c < m.size → m.sum a b ≡ m.sum a c → b ≡ c
  sum_cancel a b c low high e =
      code_injective m laws _ _ low high
      (add_cancel (code_ring m laws) (code m laws a) (code m laws b) (code m laws c)
      (sym (code_sum m laws a b) ∙ ap (code m laws) e ∙ code_sum m laws a c))

  -- an inverse below the size is unique
  pub inverse_unique : (a b c : ℕ) → b < m.size → c < m.size → m.product a b ≡ 1 → m.product a c ≡ 1 → b ≡ c
  inverse_unique a b c low high eb ec =
      sym (laws.product_one b low) ∙ ap (m.product b) (sym ec) ∙ product_left_comm m laws b a c
      ∙ sym (laws.product_assoc a b c) ∙ ap (λ x. m.product x c) eb ∙ one_product m laws c high

-- ---- lawful fields
module _ (m : Meaning) (laws : Laws m) (lawful : Lawful m) where
  -- a number that is not 0 modulo the size can be cancelled
  pub product_cancel_any : (a b c : ℕ) → (a % m.size ≡ 0 → ⊥) → m.product a b ≡ m.product a c → b % m.size ≡ c % m.size
  product_cancel_any a b c apart e = sym (back b) ∙ ap (m.product i.0) e ∙ back c
    where
      i : (x : ℕ) × (m.product (a % m.size) x ≡ 1)
      i = lawful (a % m.size) (omega arith) (remainder_below m laws a)

      unit : m.product i.0 a ≡ 1
      unit = laws.product_comm i.0 a ∙ sym (laws.product_remainder a i.0) ∙ i.1

      back : (x : ℕ) → m.product i.0 (m.product a x) ≡ x % m.size
      back x =
          sym (laws.product_assoc i.0 a x) ∙ ap (λ y. m.product y x) unit
          ∙ laws.product_comm 1 x ∙ product_one_any m laws x

  -- no zero divisors: a product is 0 only where a factor is 0 modulo the size
  pub zero_divisors : (a b : ℕ) → m.product a b ≡ 0 → (a % m.size ≡ 0) ⊎ (b % m.size ≡ 0)
  zero_divisors a b e = from (ℕ_discrete (a % m.size) 0)
    where
      from : Dec (a % m.size ≡ 0) → (a % m.size ≡ 0) ⊎ (b % m.size ≡ 0)
      from (yes z) = inl z
      from (no apart) =
          inr (product_cancel_any a b 0 apart (e ∙ sym (product_zero m laws a)) ∙ mod-eq_of_lt (size_positive m laws))

  positive_apart : (a : ℕ) → 0 < a → a < m.size → a % m.size ≡ 0 → ⊥
  positive_apart a low high e = omega (arith, e, mod-eq_of_lt high)

  -- the same for codes below the size
  pub product_cancel : (a b c : ℕ) → 0 < a → a < m.size → b < m.size → c < m.size → m.product a b ≡ m.product a c → b ≡ c
  product_cancel a b c low high below-b below-c e =
      sym (mod-eq_of_lt below-b) ∙ product_cancel_any a b c (positive_apart a low high) e ∙ mod-eq_of_lt below-c

  -- products and powers of codes above 0 are above 0
  pub product_positive : (a b : ℕ) → 0 < a → a < m.size → 0 < b → b < m.size → 0 < m.product a b
  product_positive a b low-a high-a low-b high-b =
      let other : m.product a b ≡ 0 → ⊥ = λ e. from (zero_divisors a b e) in
      omega arith
    where
      from : (a % m.size ≡ 0) ⊎ (b % m.size ≡ 0) → ⊥
      from (inl e) = positive_apart a low-a high-a e
      from (inr e) = positive_apart b low-b high-b e

  pub power_positive : (a k : ℕ) → 0 < a → a < m.size → 0 < power m a k
  unfolding pow
  power_positive a zero low high = omega arith
  power_positive a (suc k) low high =
      product_positive (power m a k) a (power_positive a k low high) (power_below m laws a k) low high

  -- a code above 0 has an inverse, which is above 0 and below the size
  pub inverse_below : (a : ℕ) → 0 < a → a < m.size → (b : ℕ) × (0 < b) × (b < m.size) × (m.product a b ≡ 1)
  inverse_below a low high = (b, positive, remainder_below m laws i.0, unit)
    where
      i : (x : ℕ) × (m.product a x ≡ 1)
      i = lawful a low high

      b : ℕ
      b = i.0 % m.size

      unit : m.product a b ≡ 1
      unit = product_remainder_right m laws a i.0 ∙ i.1

      positive : 0 < b
      positive =
          let other : b ≡ 0 → ⊥ = λ e. absurd (omega (arith, sym unit ∙ ap (m.product a) e ∙ product_zero m laws a)) in
          omega arith

  -- division: the number whose product with a is b
  pub divide : (a b : ℕ) → 0 < a → a < m.size → b < m.size → (c : ℕ) × (c < m.size) × (m.product a c ≡ b)
  divide a b low high below = (
    m.product i.0 b,
    laws.product_below i.0 b,
    (sym (laws.product_assoc a i.0 b) ∙ ap (λ x. m.product x b) i.3 ∙ one_product m laws b below),
  )
    where
      i : (x : ℕ) × (0 < x) × (x < m.size) × (m.product a x ≡ 1)
      i = inverse_below a low high

  -- numbers with the same square are equal or negatives of one another
  pub two_roots : (x y : ℕ) → x < m.size → y < m.size → m.product x x ≡ m.product y y → (x ≡ y) ⊎ (x ≡ m.negative y)
  two_roots x y below-x below-y e = from (ℕ_discrete (m.sum x y) 0)
    where
      s : ℕ
      s = m.sum x y

      -- x (x + y) = y (x + y)
      same : m.product s x ≡ m.product s y
      same =
          laws.product_comm s x ∙ laws.product_sum x x y ∙ ap₂ m.sum e (laws.product_comm x y)
          ∙ laws.sum_comm (m.product y y) (m.product y x) ∙ sym (laws.product_sum y x y) ∙ laws.product_comm y s

      from : Dec (s ≡ 0) → (x ≡ y) ⊎ (x ≡ m.negative y)
      from (yes z) = inr (negative_only m laws y x below-x (laws.sum_comm y x ∙ z))
      from (no apart) = inl (product_cancel s x y (omega arith) (laws.sum_below x y) below-x below-y same)
