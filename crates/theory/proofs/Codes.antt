-- The codes of a meaning that keeps the laws are a commutative ring, and what is proved of that ring is so of the codes.
use Rattle.std.proofs.Common.{◌≡◌, ℕ, zero, suc, ◌%◌, ◌<◌, sym, refl, ap, ◌∙◌, mod-lt, mod-eq_of_lt, arith}
use mathlib.Core.HLevel.{Σ_prop_path, Σ_set, prop→set}
use native.Mathlib.Bridge.{le_prop}
use native.Mathlib.Nat.{ℕ_set}
use Rattle.theory.specs.Meaning.{Meaning, Laws, Lawful}
use Rattle.theory.specs.Operation.{pow}
use Rattle.theory.specs.Power.{power}
use Rattle.theory.proofs.Algebra.{CommRing, IsField, ring_pow}

-- A code that stands for itself: below the size.
abbrev pub Code : Meaning → Type 0
Code m = (a : ℕ) × (a < m.size)

-- Two such codes are equal where the numbers are.
pub code_path : (m : Meaning) (x y : Code m) → x.0 ≡ y.0 → x ≡ y
code_path m x y e = Σ_prop_path (λ (a : ℕ). le_prop {n = suc a} {m = m.size}) {u = x} {v = y} e

pub code_set : (m : Meaning) → IsSet (Code m)
code_set m = Σ_set ℕ_set (λ (a : ℕ). prop→set (le_prop {n = suc a} {m = m.size}))

-- The code that a number counts as.
unfoldable pub code : (m : Meaning) → Laws m → ℕ → Code m
code m laws a = (a % m.size, mod-lt a (omega (arith, laws.size_low)))

unfoldable pub code_ring : (m : Meaning) → Laws m → CommRing (Code m)
code_ring m laws = record {
  zero = (0, omega (arith, laws.size_low));
  one = (1, laws.size_low);
  add = λ a b. (m.sum a.0 b.0, laws.sum_below _ _);
  neg = λ a. (m.negative a.0, laws.negative_below _);
  mul = λ a b. (m.product a.0 b.0, laws.product_below _ _);
  is_set = code_set m;
  add_assoc = λ a b c. code_path m _ _ (laws.sum_assoc _ _ _);
  add_comm = λ a b. code_path m _ _ (laws.sum_comm _ _);
  add_zero = λ a. code_path m _ _ (laws.sum_zero _ a.1);
  add_neg = λ a. code_path m _ _ (laws.sum_negative _);
  mul_assoc = λ a b c. code_path m _ _ (laws.product_assoc _ _ _);
  mul_comm = λ a b. code_path m _ _ (laws.product_comm _ _);
  mul_one = λ a. code_path m _ _ (laws.product_one _ a.1);
  mul_add = λ a b c. code_path m _ _ (laws.product_sum _ _ _);
}

-- A remainder may stand in the second place too.
pub sum_remainder_right : (m : Meaning) → Laws m → (a b : ℕ) → m.sum a (b % m.size) ≡ m.sum a b
sum_remainder_right m laws a b = laws.sum_comm _ _ ∙ laws.sum_remainder b a ∙ laws.sum_comm _ _

pub product_remainder_right : (m : Meaning) → Laws m → (a b : ℕ) → m.product a (b % m.size) ≡ m.product a b
product_remainder_right m laws a b = laws.product_comm _ _ ∙ laws.product_remainder b a ∙ laws.product_comm _ _

module _ (m : Meaning) (laws : Laws m) where
  -- The number of a code, of a sum, a negative and a product of codes.
  pub code_value : (a : ℕ) → (code m laws a).0 ≡ a % m.size
  unfolding code
  code_value a = refl

  pub code_below : (a : ℕ) → a < m.size → (code m laws a).0 ≡ a
  unfolding code
  code_below a h = mod-eq_of_lt h

  pub zero_value : (code_ring m laws).zero.0 ≡ 0
  unfolding code_ring
  zero_value = refl

  pub one_value : (code_ring m laws).one.0 ≡ 1
  unfolding code_ring
  one_value = refl

  pub add_value : (x y : Code m) → ((code_ring m laws).add x y).0 ≡ m.sum x.0 y.0
  unfolding code_ring
  add_value x y = refl

  pub neg_value : (x : Code m) → ((code_ring m laws).neg x).0 ≡ m.negative x.0
  unfolding code_ring
  neg_value x = refl

  pub mul_value : (x y : Code m) → ((code_ring m laws).mul x y).0 ≡ m.product x.0 y.0
  unfolding code_ring
  mul_value x y = refl

  -- The code of 0, of 1, of a sum, a negative, a product and a power of any numbers.
  pub code_zero : code m laws 0 ≡ (code_ring m laws).zero
  code_zero = code_path m _ _ (code_below 0 (omega (arith, laws.size_low)) ∙ sym zero_value)

  pub code_one : code m laws 1 ≡ (code_ring m laws).one
  code_one = code_path m _ _ (code_below 1 laws.size_low ∙ sym one_value)

  pub code_sum : (a b : ℕ) → code m laws (m.sum a b) ≡ (code_ring m laws).add (code m laws a) (code m laws b)
  unfolding code code_ring
  code_sum a b =
      code_path m _ _
      (mod-eq_of_lt (laws.sum_below a b) ∙ sym (laws.sum_remainder a b) ∙ sym (sum_remainder_right m laws _ b))

  pub code_negative : (a : ℕ) → code m laws (m.negative a) ≡ (code_ring m laws).neg (code m laws a)
  unfolding code code_ring
  code_negative a = code_path m _ _ (mod-eq_of_lt (laws.negative_below a) ∙ sym (laws.negative_remainder a))

  pub code_product : (a b : ℕ) → code m laws (m.product a b) ≡ (code_ring m laws).mul (code m laws a) (code m laws b)
  unfolding code code_ring
  code_product a b =
      code_path m _ _
      (mod-eq_of_lt (laws.product_below a b) ∙ sym (laws.product_remainder a b)
      ∙ sym (product_remainder_right m laws _ b))

  pub code_power : (a k : ℕ) → code m laws (power m a k) ≡ ring_pow (code_ring m laws) (code m laws a) k
  unfolding pow ring_pow
  code_power a zero = code_one
  code_power a (suc k) =
      code_product (power m a k) a ∙ ap (λ (x : Code m). (code_ring m laws).mul x (code m laws a)) (code_power a k)

  -- Powers are codes below the size.
  pub power_below : (a k : ℕ) → power m a k < m.size
  unfolding pow
  power_below a zero = laws.size_low
  power_below a (suc k) = laws.product_below _ _

  -- A code below the size is the code of its number.
  pub code_of_value : (x : Code m) → code m laws x.0 ≡ x
  code_of_value x = code_path m _ _ (code_below x.0 x.1)

  -- Numbers that leave the same remainder by the size have the same code, and back; below the size they are equal.
  pub code_same : (a b : ℕ) → a % m.size ≡ b % m.size → code m laws a ≡ code m laws b
  code_same a b e = code_path m _ _ (code_value a ∙ e ∙ sym (code_value b))

  pub code_remainder : (a b : ℕ) → code m laws a ≡ code m laws b → a % m.size ≡ b % m.size
  code_remainder a b e = sym (code_value a) ∙ ap (λ (x : Code m). x.0) e ∙ code_value b

  pub code_injective : (a b : ℕ) → a < m.size → b < m.size → code m laws a ≡ code m laws b → a ≡ b
  code_injective a b h k e = sym (code_below a h) ∙ ap (λ (x : Code m). x.0) e ∙ code_below b k

  -- A number is 0 modulo the size exactly when its code is zero.
  pub code_is_zero : (a : ℕ) → a % m.size ≡ 0 → code m laws a ≡ (code_ring m laws).zero
  code_is_zero a e = code_path m _ _ (code_value a ∙ e ∙ sym zero_value)

  pub zero_code : (a : ℕ) → code m laws a ≡ (code_ring m laws).zero → a % m.size ≡ 0
  zero_code a e = sym (code_value a) ∙ ap (λ (x : Code m). x.0) e ∙ zero_value

  -- A code other than zero is above 0.
  pub code_above : (x : Code m) → (x ≡ (code_ring m laws).zero → ⊥) → 0 < x.0
  code_above x apart =
      let other : x.0 ≡ 0 → ⊥ = λ e. apart (code_path m _ _ (e ∙ sym zero_value)) in
      omega arith

  -- The codes of a lawful field are a field.
  pub code_field : Lawful m → IsField (code_ring m laws)
  code_field lawful x apart =
      let inv = lawful x.0 (code_above x apart) x.1 in (
        code m laws inv.0,
        (ap (λ (y : Code m). (code_ring m laws).mul y (code m laws inv.0)) (sym (code_of_value x))
            ∙ sym (code_product x.0 inv.0) ∙ ap (code m laws) inv.1 ∙ code_one),
      )

-- What rewrites a number's code into the ring.
pub ruleset code_rules = (code_sum, code_negative, code_product, code_power, code_zero, code_one)
