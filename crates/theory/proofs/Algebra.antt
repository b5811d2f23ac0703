-- Commutative rings on a type, with no side conditions: here the algebra is done, and Codes carries it to codes.
use Rattle.std.proofs.Common.{◌≡◌, ℕ, zero, suc, sym, refl, ap, ◌∙◌, ap₂}

pub record CommRing (R : Type 0) : Type 0 where
  pub zero : R
  pub one : R
  pub add : R → R → R
  pub neg : R → R
  pub mul : R → R → R
  pub is_set : IsSet R
  pub add_assoc : (a b c : R) → add (add a b) c ≡ add a (add b c)
  pub add_comm : (a b : R) → add a b ≡ add b a
  pub add_zero : (a : R) → add a zero ≡ a
  pub add_neg : (a : R) → add a (neg a) ≡ zero
  pub mul_assoc : (a b c : R) → mul (mul a b) c ≡ mul a (mul b c)
  pub mul_comm : (a b : R) → mul a b ≡ mul b a
  pub mul_one : (a : R) → mul a one ≡ a
  pub mul_add : (a b c : R) → mul a (add b c) ≡ add (mul a b) (mul a c)

-- Every number but 0 has an inverse.
abbrev pub IsField : {R : Type 0} → CommRing R → Type 0
IsField {R} r = (a : R) → (a ≡ r.zero → ⊥) → (b : R) × (r.mul a b ≡ r.one)

-- The power k: a multiplied k times, from 1.
unfoldable pub ring_pow : {R : Type 0} → CommRing R → R → ℕ → R
ring_pow r a zero = r.one
ring_pow r a (suc k) = r.mul (ring_pow r a k) a

pub zero_add : {R : Type 0} (r : CommRing R) (a : R) → r.add r.zero a ≡ a
zero_add r a = r.add_comm _ _ ∙ r.add_zero a

pub neg_add : {R : Type 0} (r : CommRing R) (a : R) → r.add (r.neg a) a ≡ r.zero
neg_add r a = r.add_comm _ _ ∙ r.add_neg a

pub one_mul : {R : Type 0} (r : CommRing R) (a : R) → r.mul r.one a ≡ a
one_mul r a = r.mul_comm _ _ ∙ r.mul_one a

pub add_mul : {R : Type 0} (r : CommRing R) (a b c : R) → r.mul (r.add a b) c ≡ r.add (r.mul a c) (r.mul b c)
add_mul r a b c = r.mul_comm _ _ ∙ r.mul_add c a b ∙ ap₂ r.add (r.mul_comm c a) (r.mul_comm c b)

-- a + b = a + c gives b = c
pub add_cancel : {R : Type 0} (r : CommRing R) (a b c : R) → r.add a b ≡ r.add a c → b ≡ c
add_cancel {R} r a b c e = sym (back b) ∙ ap (r.add (r.neg a)) e ∙ back c
  where
    back : (x : R) → r.add (r.neg a) (r.add a x) ≡ x
    back x = sym (r.add_assoc _ _ _) ∙ ap (λ (y : R). r.add y x) (neg_add r a) ∙ zero_add r x

-- a number that leaves a as it is under + is 0
pub add_same : {R : Type 0} (r : CommRing R) (a b : R) → r.add a b ≡ a → b ≡ r.zero
add_same r a b e = add_cancel r a b r.zero (e ∙ sym (r.add_zero a))

-- the negative is the only number that gives 0 with a
pub neg_only : {R : Type 0} (r : CommRing R) (a b : R) → r.add a b ≡ r.zero → b ≡ r.neg a
neg_only r a b e = add_cancel r a b (r.neg a) (e ∙ sym (r.add_neg a))

pub mul_zero : {R : Type 0} (r : CommRing R) (a : R) → r.mul a r.zero ≡ r.zero
mul_zero r a = add_same r _ _ (sym (r.mul_add a r.zero r.zero) ∙ ap (r.mul a) (r.add_zero _))

pub zero_mul : {R : Type 0} (r : CommRing R) (a : R) → r.mul r.zero a ≡ r.zero
zero_mul r a = r.mul_comm _ _ ∙ mul_zero r a

pub neg_zero : {R : Type 0} (r : CommRing R) → r.neg r.zero ≡ r.zero
neg_zero r = sym (neg_only r r.zero r.zero (r.add_zero _))

pub neg_neg : {R : Type 0} (r : CommRing R) (a : R) → r.neg (r.neg a) ≡ a
neg_neg r a = sym (neg_only r (r.neg a) a (neg_add r a))

pub mul_neg : {R : Type 0} (r : CommRing R) (a b : R) → r.mul a (r.neg b) ≡ r.neg (r.mul a b)
mul_neg r a b = neg_only r _ _ (sym (r.mul_add a _ _) ∙ ap (r.mul a) (r.add_neg b) ∙ mul_zero r a)

pub neg_mul : {R : Type 0} (r : CommRing R) (a b : R) → r.mul (r.neg a) b ≡ r.neg (r.mul a b)
neg_mul r a b = r.mul_comm _ _ ∙ mul_neg r b a ∙ ap r.neg (r.mul_comm b a)

pub neg_mul_neg : {R : Type 0} (r : CommRing R) (a b : R) → r.mul (r.neg a) (r.neg b) ≡ r.mul a b
neg_mul_neg r a b = neg_mul r a (r.neg b) ∙ ap r.neg (mul_neg r a b) ∙ neg_neg r _

-- a − b = 0 gives a = b, and back
pub sub_zero : {R : Type 0} (r : CommRing R) (a b : R) → r.add a (r.neg b) ≡ r.zero → a ≡ b
sub_zero r a b e = add_cancel r (r.neg b) a b (r.add_comm _ _ ∙ e ∙ sym (neg_add r b))

pub sub_same : {R : Type 0} (r : CommRing R) (a b : R) → a ≡ b → r.add a (r.neg b) ≡ r.zero
sub_same {R} r a b e = ap (λ (x : R). r.add x (r.neg b)) e ∙ r.add_neg b

-- (a + b) + (c + d) = (a + c) + (b + d), and the same for products
pub add_swap : {R : Type 0} (r : CommRing R) (a b c d : R)
    → r.add (r.add a b) (r.add c d) ≡ r.add (r.add a c) (r.add b d)
add_swap r a b c d =
    r.add_assoc _ _ _ ∙ ap (r.add a) (sym (r.add_assoc _ _ _) ∙ ap₂ r.add (r.add_comm b c) refl ∙ r.add_assoc _ _ _)
    ∙ sym (r.add_assoc _ _ _)

pub mul_swap : {R : Type 0} (r : CommRing R) (a b c d : R)
    → r.mul (r.mul a b) (r.mul c d) ≡ r.mul (r.mul a c) (r.mul b d)
mul_swap r a b c d =
    r.mul_assoc _ _ _ ∙ ap (r.mul a) (sym (r.mul_assoc _ _ _) ∙ ap₂ r.mul (r.mul_comm b c) refl ∙ r.mul_assoc _ _ _)
    ∙ sym (r.mul_assoc _ _ _)

-- In a field a product is 0 only where a factor is.
pub no_zero_divisors : {R : Type 0} (r : CommRing R) → IsField r → (a b : R) → (a ≡ r.zero → ⊥) → r.mul a b ≡ r.zero
    → b ≡ r.zero
no_zero_divisors {R} r field a b apart e =
    let (c, i) = field a apart in
    sym (one_mul r b) ∙ ap (λ (x : R). r.mul x b) (sym i ∙ r.mul_comm a c) ∙ r.mul_assoc c a b ∙ ap (r.mul c) e ∙ mul_zero r c

-- What has an inverse can be cancelled.
pub unit_cancel : {R : Type 0} (r : CommRing R) (a i b c : R) → r.mul a i ≡ r.one → r.mul a b ≡ r.mul a c → b ≡ c
unit_cancel {R} r a i b c unit e = sym (back b) ∙ ap (r.mul i) e ∙ back c
  where
    back : (x : R) → r.mul i (r.mul a x) ≡ x
    back x = sym (r.mul_assoc _ _ _) ∙ ap (λ (y : R). r.mul y x) (r.mul_comm i a ∙ unit) ∙ one_mul r x

-- Powers: of 1, of a product, and of a sum of exponents.
pub ring_pow_one : {R : Type 0} (r : CommRing R) (k : ℕ) → ring_pow r r.one k ≡ r.one
unfolding ring_pow
ring_pow_one r zero = refl
ring_pow_one r (suc k) = r.mul_one _ ∙ ring_pow_one r k

pub ring_pow_mul : {R : Type 0} (r : CommRing R) (a b : R) (k : ℕ)
    → ring_pow r (r.mul a b) k ≡ r.mul (ring_pow r a k) (ring_pow r b k)
unfolding ring_pow
ring_pow_mul r a b zero = sym (r.mul_one _)
ring_pow_mul {R} r a b (suc k) =
    ap (λ (x : R). r.mul x (r.mul a b)) (ring_pow_mul r a b k) ∙ mul_swap r _ _ _ _
