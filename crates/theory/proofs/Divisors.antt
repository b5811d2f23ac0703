-- Divisors of whole numbers, and numbers with no common divisor above 1.
use Rattle.std.proofs.Common.{◌≡◌, ℕ, zero, suc, ◌+◌, ◌-◌, ◌*◌, ◌/◌, ◌%◌, ◌^◌, ◌<◌, ◌≤◌, ◌⊎◌, sym, ap, ◌∙◌, subst, ap₂, inl, inr, suc-le-suc, le_refl, zero-lt-suc, mul_assoc, mul_comm, one-mul, pow-suc, mul-zero, div-add-mod', zero-mul, mul-one, arith, lit≤}
use native.Mathlib.Nat.{mul-sub, mul-mod_left, suc-sub-suc, pow-zero}
use native.Mathlib.Decide.{dec_le, ℕ_discrete}
use Rattle.theory.specs.Numbers.{Divides, Prime, Coprime}

-- ---- divisors

-- every number divides itself and 0, and 1 divides every number
pub divides_self : (n : ℕ) → Divides n n
divides_self n = (1, sym (one-mul n))

pub divides_zero : (d : ℕ) → Divides d 0
divides_zero d = (0, sym (zero-mul d))

pub one_divides : (n : ℕ) → Divides 1 n
one_divides n = (n, sym (mul-one n))

-- a divisor of a divisor is a divisor
pub divides_trans : (a b c : ℕ) → Divides a b → Divides b c → Divides a c
divides_trans a b c h g = (g.0 * h.0, g.1 ∙ ap (λ x. g.0 * x) h.1 ∙ sym (mul_assoc g.0 h.0 a))

-- a divisor of n divides each multiple of n
pub divides_multiple : (d n c : ℕ) → Divides d n → Divides d (c * n)
divides_multiple d n c h = (c * h.0, ap (λ x. c * x) h.1 ∙ sym (mul_assoc c h.0 d))

pub divides_multiple_right : (d n c : ℕ) → Divides d n → Divides d (n * c)
divides_multiple_right d n c h = subst (Divides d) (mul_comm c n) (divides_multiple d n c h)

-- what divides two numbers divides their sum and their difference
pub divides_sum : (d a b : ℕ) → Divides d a → Divides d b → Divides d (a + b)
divides_sum d a b h g = (h.0 + g.0, omega (arith, h.1, g.1))

sub_mul : (a b c : ℕ) → (a - b) * c ≡ a * c - b * c
sub_mul a b c = mul_comm (a - b) c ∙ mul-sub c a b ∙ ap₂ ◌-◌ (mul_comm c a) (mul_comm c b)

pub divides_difference : (d a b : ℕ) → Divides d a → Divides d b → Divides d (a - b)
divides_difference d a b h g = (h.0 - g.0, ap₂ ◌-◌ h.1 g.1 ∙ sym (sub_mul h.0 g.0 d))

-- a divisor of a number above 0 is no greater than it, and above 0
pub divides_bound : (d n : ℕ) → 0 < n → Divides d n → d ≤ n
divides_bound d n positive h = from h.0 h.1
  where
    from : (k : ℕ) → n ≡ k * d → d ≤ n
    from zero e = omega (arith, e)
    from (suc k) e = omega (arith, e)

pub divisor_positive : (d n : ℕ) → 0 < n → Divides d n → 0 < d
divisor_positive zero n positive h = omega (arith, h.1, mul-zero h.0)
divisor_positive (suc d) n positive h = omega arith

-- only 1 divides 1
pub divides_one : (d : ℕ) → Divides d 1 → d ≡ 1
divides_one d h = omega (arith, divides_bound d 1 (lit≤ tt) h, divisor_positive d 1 (lit≤ tt) h)

-- d divides n exactly when the remainder is 0
pub divides_of_remainder : (d n : ℕ) → n % d ≡ 0 → Divides d n
divides_of_remainder d n e = (n / d, omega (arith, div-add-mod' n d))

pub remainder_of_divides : (d n : ℕ) → Divides d n → n % d ≡ 0
remainder_of_divides d n h = ap (λ x. x % d) h.1 ∙ mul-mod_left h.0 d

-- whether d divides n can be decided
pub divides_decide : (d n : ℕ) → Dec (Divides d n)
divides_decide d n = from (ℕ_discrete (n % d) 0)
  where
    from : Dec (n % d ≡ 0) → Dec (Divides d n)
    from (yes e) = yes (divides_of_remainder d n e)
    from (no other) = no (λ h. other (remainder_of_divides d n h))

-- numbers that divide one another are equal
pub divides_antisym : (a b : ℕ) → Divides a b → Divides b a → a ≡ b
divides_antisym a zero h g = g.1 ∙ mul-zero g.0
divides_antisym zero (suc b) h g = absurd (omega (arith, divisor_positive 0 (suc b) (zero-lt-suc b) h))
divides_antisym (suc a) (suc b) h g =
    omega (arith, divides_bound (suc a) (suc b) (zero-lt-suc b) h, divides_bound (suc b) (suc a) (zero-lt-suc a) g)

-- ---- Euclid's steps

-- P holds of a difference where it holds of both numbers.
abbrev pub Subtractive : (ℕ → Type 0) → Type 0
Subtractive P = (x y : ℕ) → y ≤ x → P x → P y → P (x - y)

-- A common divisor that has whatever both numbers have and differences keep.
pub record Common (a b : ℕ) : Type 1 where
  pub divisor : ℕ
  pub left : Divides divisor a
  pub right : Divides divisor b
  pub inherits : (P : ℕ → Type 0) → Subtractive P → P a → P b → P divisor

common_in : (fuel a b : ℕ) → a + b ≤ fuel → Common a b
common_in fuel zero b h =
    record { divisor = b; left = divides_zero b; right = divides_self b; inherits = λ P sub pa pb. pb }
common_in fuel (suc a) zero h =
    record { divisor = suc a; left = divides_self (suc a); right = divides_zero (suc a); inherits = λ P sub pa pb. pa }
common_in zero (suc a) (suc b) h = absurd (omega (arith, h))
common_in (suc fuel) (suc a) (suc b) h =
    from (dec_le a b) (common_in fuel (suc a) (b - a)) (common_in fuel (a - b) (suc b))
  where
    from : Dec (a ≤ b) → (suc a + (b - a) ≤ fuel → Common (suc a) (b - a)) → (a - b + suc b ≤ fuel → Common (a - b) (suc b))
        → Common (suc a) (suc b)
    from (yes order) low high =
        let c = low (omega arith) in
        let g = c.divisor in
        record {
          divisor = g;
          left = c.left;
          right = subst (Divides g) (omega arith) (divides_sum g (suc a) (b - a) c.left c.right);
          inherits = λ P sub pa pb. c.inherits P sub pa (subst P (suc-sub-suc b a) (sub (suc b) (suc a) (suc-le-suc order) pb pa));
        }
    from (no order) low high =
        let c = high (omega arith) in
        let g = c.divisor in
        record {
          divisor = g;
          left = subst (Divides g) (omega arith) (divides_sum g (a - b) (suc b) c.left c.right);
          right = c.right;
          inherits = λ P sub pa pb. c.inherits P sub (subst P (suc-sub-suc a b) (sub (suc a) (suc b) (omega arith) pa pb)) pb;
        }

-- every two numbers have one
pub common : (a b : ℕ) → Common a b
common a b = common_in (a + b) a b (le_refl (a + b))

-- What both of two coprime numbers have and differences keep, 1 has.
pub euclid : (P : ℕ → Type 0) → Subtractive P → (a b : ℕ) → Coprime a b → P a → P b → P 1
euclid P sub a b coprime pa pb =
    let c = common a b in
    subst P (coprime c.divisor c.left c.right) (c.inherits P sub pa pb)

-- ---- numbers with no common divisor above 1

-- coprime does not mind the order, and 1 is coprime to all
pub coprime_sym : (a b : ℕ) → Coprime a b → Coprime b a
coprime_sym a b coprime d h g = coprime d g h

pub coprime_one : (a : ℕ) → Coprime a 1
coprime_one a d h g = divides_one d g

-- a divisor of a is coprime to what a is coprime to
pub coprime_divisor : (d a b : ℕ) → Divides d a → Coprime a b → Coprime d b
coprime_divisor d a b h coprime e below other = coprime e (divides_trans e d a below h) other

-- a divisor of a product that is coprime to one factor divides the other
pub coprime_divides : (a b c : ℕ) → Coprime a b → Divides a (b * c) → Divides a c
coprime_divides a b c coprime h =
    subst (Divides a) (one-mul c) (euclid (λ x. Divides a (x * c)) keeps a b coprime (divides_multiple_right a a c (divides_self a)) h)
  where
    keeps : Subtractive (λ x. Divides a (x * c))
    keeps x y order hx hy = subst (Divides a) (sym (sub_mul x y c)) (divides_difference a (x * c) (y * c) hx hy)

-- what is coprime to both factors is coprime to the product
pub coprime_product : (a b c : ℕ) → Coprime a b → Coprime a c → Coprime a (b * c)
coprime_product a b c left right d h g = right d h (coprime_divides d b c (coprime_divisor d a b h left) g)

-- powers of coprime numbers are coprime
pub coprime_power_right : (a b k : ℕ) → Coprime a b → Coprime a (b ^ k)
coprime_power_right a b zero coprime = subst (Coprime a) (sym (pow-zero b)) (coprime_one a)
coprime_power_right a b (suc k) coprime =
    subst (Coprime a) (sym (pow-suc b k)) (coprime_product a (b ^ k) b (coprime_power_right a b k coprime) coprime)

pub coprime_power : (a b j k : ℕ) → Coprime a b → Coprime (a ^ j) (b ^ k)
coprime_power a b j k coprime =
    coprime_sym (b ^ k) (a ^ j)
    (coprime_power_right (b ^ k) a j (coprime_sym a (b ^ k) (coprime_power_right a b k coprime)))

-- two coprime divisors of n: their product divides n
pub coprime_both : (a b n : ℕ) → Coprime a b → Divides a n → Divides b n → Divides (a * b) n
coprime_both a b n coprime h g = (rest.0, h.1 ∙ ap (λ x. x * a) rest.1 ∙ mul_assoc rest.0 b a ∙ ap (λ x. rest.0 * x) (mul_comm b a))
  where
    rest : Divides b h.0
    rest = coprime_divides b a h.0 (coprime_sym a b coprime) (subst (Divides b) (h.1 ∙ mul_comm h.0 a) g)

-- an odd number is coprime to the powers of 2
pub coprime_two : (r k : ℕ) → r % 2 ≡ 1 → Coprime r (2 ^ k)
coprime_two r k odd = coprime_power_right r 2 k two
  where
    two : Coprime r 2
    two d h g = from (ℕ_discrete d 2)
      where
        from : Dec (d ≡ 2) → d ≡ 1
        from (yes e) = absurd (omega (arith, remainder_of_divides 2 r (subst (λ x. Divides x r) e h)))
        from (no other) = omega (arith, divides_bound d 2 (lit≤ tt) g, divisor_positive d 2 (lit≤ tt) g)

-- ---- primes

-- a prime is coprime to what it does not divide
pub prime_coprime : (r n : ℕ) → Prime r → (Divides r n → ⊥) → Coprime r n
prime_coprime r n prime none d h g = from (prime.only d h)
  where
    from : (d ≡ 1) ⊎ (d ≡ r) → d ≡ 1
    from (inl e) = e
    from (inr e) = absurd (none (subst (λ x. Divides x n) e g))

-- a prime that divides a product divides a factor
pub prime_divides : (r a b : ℕ) → Prime r → Divides r (a * b) → Divides r a ⊎ Divides r b
prime_divides r a b prime h = from (divides_decide r a)
  where
    from : Dec (Divides r a) → Divides r a ⊎ Divides r b
    from (yes g) = inl g
    from (no none) = inr (coprime_divides r a b (prime_coprime r a prime none) h)
