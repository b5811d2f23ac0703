-- The laws of the powers of codes.
use Rattle.std.proofs.Common.{◌≡◌, ℕ, zero, suc, ◌+◌, ◌*◌, ◌%◌, ◌<◌, sym, ap, ◌∙◌, mod-lt, mod-eq_of_lt, arith}
use Rattle.theory.specs.Meaning.{Meaning, Laws}
use Rattle.theory.specs.Operation.{pow, multiplication}
use Rattle.theory.specs.Power.{power}
use Rattle.theory.proofs.JoiningLaws.{multiplication_laws, one_product as one-product-is}
use Rattle.theory.proofs.Powers.{pow_0, pow_suc_is, pow_add, pow_mul, pow_join, pow_of_neutral, pow_reduced}

module _ (m : Meaning) (laws : Laws m) where
  -- 0, 1 and every remainder are below the size
  pub one_below : 1 < m.size
  one_below = laws.size_low

  pub size_positive : 0 < m.size
  size_positive = omega (arith, one_below)

  pub remainder_below : (a : ℕ) → a % m.size < m.size
  remainder_below a = mod-lt a size_positive

  -- 1 is neutral up to the remainder, on both sides
  pub one_product_any : (a : ℕ) → m.product 1 a ≡ a % m.size
  one_product_any a = one-product-is m laws a

  pub product_one_any : (a : ℕ) → m.product a 1 ≡ a % m.size
  product_one_any a = laws.product_comm a 1 ∙ one_product_any a

  -- for codes 1 is neutral as it stands
  pub one_product : (a : ℕ) → a < m.size → m.product 1 a ≡ a
  one_product a below = one_product_any a ∙ mod-eq_of_lt below

  -- a(bc) = b(ac)
  pub product_left_comm : (a b c : ℕ) → m.product a (m.product b c) ≡ m.product b (m.product a c)
  product_left_comm a b c =
      sym (laws.product_assoc a b c) ∙ ap (λ x. m.product x c) (laws.product_comm a b) ∙ laws.product_assoc b a c

  -- the powers 0 and k + 1
  pub power_zero : (a : ℕ) → power m a 0 ≡ 1
  power_zero a = pow_0 (multiplication m) a

  pub power_suc : (a k : ℕ) → power m a (suc k) ≡ m.product (power m a k) a
  power_suc a k = pow_suc_is (multiplication m) a k

  -- a power is a code below the size
  pub power_below : (a k : ℕ) → power m a k < m.size
  unfolding pow
  power_below a zero = one_below
  power_below a (suc k) = laws.product_below (power m a k) a

  -- the power 1 of a is what a counts as
  pub power_one : (a : ℕ) → power m a 1 ≡ a % m.size
  power_one a = power_suc a 0 ∙ ap (λ x. m.product x a) (power_zero a) ∙ one_product_any a

  -- the square of a code
  pub power_two : (a : ℕ) → power m a 2 ≡ m.product a a
  power_two a = power_suc a 1 ∙ ap (λ x. m.product x a) (power_one a) ∙ laws.product_remainder a a

  -- a counts as its remainder
  pub power_remainder : (a k : ℕ) → power m (a % m.size) k ≡ power m a k
  power_remainder a k =
      ap (λ x. power m x k) (sym (one_product_any a)) ∙ pow_reduced (multiplication m) (multiplication_laws m laws) a k

  -- every power of 1 is 1
  pub power_of_one : (k : ℕ) → power m 1 k ≡ 1
  power_of_one k = pow_of_neutral (multiplication m) (multiplication_laws m laws) k

  -- the power j + k is the product of the powers j and k
  pub power_add : (a j k : ℕ) → power m a (j + k) ≡ m.product (power m a j) (power m a k)
  power_add a j k = pow_add (multiplication m) (multiplication_laws m laws) a j k

  -- the power k of the power j is the power j·k
  pub power_mul : (a j k : ℕ) → power m (power m a j) k ≡ power m a (j * k)
  power_mul a j k = pow_mul (multiplication m) (multiplication_laws m laws) a j k

  -- the power of a product is the product of the powers
  pub power_product : (a b k : ℕ) → power m (m.product a b) k ≡ m.product (power m a k) (power m b k)
  power_product a b k = pow_join (multiplication m) (multiplication_laws m laws) a b k

  -- where the power k is 1, so is the power at each multiple of k
  pub power_one_multiple : (a k c : ℕ) → power m a k ≡ 1 → power m a (k * c) ≡ 1
  power_one_multiple a k c one = sym (power_mul a k c) ∙ ap (λ x. power m x c) one ∙ power_of_one c
