-- The binary digits of a number below 2 ^ 64, and how many joinings a power takes.
use Rattle.std.proofs.Common.{◌≡◌, ℕ, zero, suc, ◌+◌, ◌-◌, ◌*◌, ◌/◌, ◌%◌, ◌^◌, ◌<◌, ◌≤◌, ◌⊎◌, sym, refl, ap, ◌∙◌, subst, ap₂, inl, inr, ⊎_elim, le_trans, le_of_eq, suc-mul, eq-zero-or-pos, mul-le-mul, pow-suc, zero-mul, arith, pow_pos, pow_mono, pow-add}
use native.Mathlib.Nat.{pow-zero}
use Rattle.std.proofs.lemmas.Bool.{cases_lt}
use Rattle.theory.specs.Numbers.{bits_in, ones_in, bits, ones, joinings}

-- By how many digits are looked at.

bits_in_zero : (d : ℕ) → bits_in d 0 ≡ 0
unfolding bits_in
bits_in_zero zero = refl
bits_in_zero (suc d) = refl

ones_in_zero : (d : ℕ) → ones_in d 0 ≡ 0
unfolding ones_in
ones_in_zero zero = refl
ones_in_zero (suc d) = refl

bits_in_low : (d k : ℕ) → 0 < k → 2 ^ (bits_in d k - 1) ≤ k
unfolding bits_in
bits_in_low zero k h = h
bits_in_low (suc d) zero h = absurd (omega arith)
bits_in_low (suc d) (suc k) h = step (bits_in d (suc k / 2)) refl (eq-zero-or-pos (suc k / 2)) (bits_in_low d (suc k / 2))
  where
    step : (b : ℕ) → bits_in d (suc k / 2) ≡ b → (suc k / 2 ≡ 0) ⊎ (0 < suc k / 2) → (0 < suc k / 2 → 2 ^ (bits_in d (suc k / 2) - 1) ≤ suc k / 2) → 2 ^ (suc (bits_in d (suc k / 2)) - 1) ≤ suc k
    step zero e s ih = rw e h
    step (suc b) e (inl z) ih = let none : suc b ≡ 0 = sym e ∙ ap (bits_in d) z ∙ bits_in_zero d in absurd (omega arith)
    step (suc b) e (inr p) ih =
        let below : 2 ^ b ≤ suc k / 2 = subst (λ (i : ℕ). 2 ^ i ≤ suc k / 2) (ap (λ i. i - 1) e ∙ (omega arith)) (ih p) in
        let top : suc (bits_in d (suc k / 2)) - 1 ≡ suc b = omega arith in
        rw top (omega (arith, pow-suc 2 b))

-- half of a number has one digit less
half_below : (d k : ℕ) → k < 2 ^ suc d → k / 2 < 2 ^ d
half_below d k h = omega (arith, pow-suc 2 d)

bits_in_high : (d k : ℕ) → k < 2 ^ d → k < 2 ^ bits_in d k
unfolding bits_in
bits_in_high zero k h = h
bits_in_high (suc d) zero h = omega arith
bits_in_high (suc d) (suc k) h =
    omega (arith, bits_in_high d (suc k / 2) (half_below d (suc k) h), pow-suc 2 (bits_in d (suc k / 2)))

bits_in_le : (d k : ℕ) → bits_in d k ≤ d
unfolding bits_in
bits_in_le zero k = omega arith
bits_in_le (suc d) zero = omega arith
bits_in_le (suc d) (suc k) = omega (arith, bits_in_le d (suc k / 2))

bits_in_mono : (d a b : ℕ) → a ≤ b → bits_in d a ≤ bits_in d b
unfolding bits_in
bits_in_mono zero a b h = omega arith
bits_in_mono (suc d) zero b h = omega arith
bits_in_mono (suc d) (suc a) zero h = absurd (omega arith)
bits_in_mono (suc d) (suc a) (suc b) h = omega (arith, bits_in_mono d (suc a / 2) (suc b / 2) (omega arith))

bits_in_more : (d k : ℕ) → k < 2 ^ d → bits_in (suc d) k ≡ bits_in d k
unfolding bits_in
bits_in_more zero zero h = refl
bits_in_more zero (suc k) h = absurd (omega arith)
bits_in_more (suc d) zero h = refl
bits_in_more (suc d) (suc k) h = ap suc (bits_in_more d (suc k / 2) (half_below d (suc k) h))

ones_in_le : (d k : ℕ) → ones_in d k ≤ bits_in d k
unfolding bits_in ones_in
ones_in_le zero k = omega arith
ones_in_le (suc d) zero = omega arith
ones_in_le (suc d) (suc k) = omega (arith, ones_in_le d (suc k / 2))

ones_in_more : (d k : ℕ) → k < 2 ^ d → ones_in (suc d) k ≡ ones_in d k
unfolding ones_in
ones_in_more zero zero h = refl
ones_in_more zero (suc k) h = absurd (omega arith)
ones_in_more (suc d) zero h = refl
ones_in_more (suc d) (suc k) h = ap (λ i. suc k % 2 + i) (ones_in_more d (suc k / 2) (half_below d (suc k) h))

ones_in_some : (d k : ℕ) → 0 < k → k < 2 ^ d → 0 < ones_in d k
unfolding ones_in
ones_in_some zero k low high = absurd (omega arith)
ones_in_some (suc d) zero low high = absurd (omega arith)
ones_in_some (suc d) (suc k) low high =
    ⊎_elim
    (λ (z : suc k / 2 ≡ 0). omega arith)
    (λ (p : 0 < suc k / 2). omega (arith, ones_in_some d (suc k / 2) p (half_below d (suc k) high)))
    (eq-zero-or-pos (suc k / 2))

-- Of whole numbers.

-- The top digit is 1: k is at least the power of its place, and below the next.
pub bits_low : (k : ℕ) → 0 < k → 2 ^ (bits k - 1) ≤ k
unfolding bits
bits_low k h = bits_in_low 64 k h

pub bits_high : (k : ℕ) → k < 2 ^ 64 → k < 2 ^ bits k
unfolding bits
bits_high k h = bits_in_high 64 k h

pub bits_le : (k : ℕ) → bits k ≤ 64
unfolding bits
bits_le k = bits_in_le 64 k

-- a larger number has no fewer digits
pub bits_mono : (a b : ℕ) → a ≤ b → bits a ≤ bits b
unfolding bits
bits_mono a b h = bits_in_mono 64 a b h

pub ones_le_bits : (k : ℕ) → ones k ≤ bits k
unfolding bits ones
ones_le_bits k = ones_in_le 64 k

pub ones_some : (k : ℕ) → 0 < k → k < 2 ^ 64 → 0 < ones k
unfolding ones
ones_some k low high = ones_in_some 64 k low high

pub bits_some : (k : ℕ) → 0 < k → k < 2 ^ 64 → 0 < bits k
bits_some k low high = omega (arith, ones_some k low high, ones_le_bits k)

-- the digits of k are those of its half, and one more
pub bits_step : (k : ℕ) → 0 < k → k < 2 ^ 64 → bits k ≡ suc (bits (k / 2))
unfolding bits bits_in
bits_step zero low high = absurd (omega arith)
bits_step (suc k) low high = ap suc (sym (bits_in_more 63 (suc k / 2) (half_below 63 (suc k) high)))

pub ones_step : (k : ℕ) → k < 2 ^ 64 → ones k ≡ k % 2 + ones (k / 2)
unfolding ones ones_in
ones_step zero high = refl
ones_step (suc k) high = ap (λ i. suc k % 2 + i) (sym (ones_in_more 63 (suc k / 2) (half_below 63 (suc k) high)))

-- At 0 and at 1.
pub bits_0 : bits 0 ≡ 0
unfolding bits bits_in
bits_0 = refl

pub ones_0 : ones 0 ≡ 0
unfolding ones ones_in
ones_0 = refl

pub bits_1 : bits 1 ≡ 1
unfolding bits bits_in
bits_1 = refl

pub ones_1 : ones 1 ≡ 1
unfolding ones ones_in
ones_1 = refl

pub joinings_0 : joinings 0 ≡ 0
unfolding joinings bits bits_in ones ones_in
joinings_0 = refl

pub joinings_1 : joinings 1 ≡ 0
unfolding joinings bits bits_in ones ones_in
joinings_1 = refl

-- At 2h and at 2h + 1, for h of at least 1.
pub bits_double : (h : ℕ) → 0 < h → 2 * h < 2 ^ 64 → bits (2 * h) ≡ bits h + 1
bits_double h low high =
    let half : 2 * h / 2 ≡ h = omega arith in
    bits_step (2 * h) (omega arith) high ∙ ap (λ i. suc (bits i)) half ∙ omega arith

pub bits_double_one : (h : ℕ) → 0 < h → 2 * h + 1 < 2 ^ 64 → bits (2 * h + 1) ≡ bits h + 1
bits_double_one h low high =
    let half : (2 * h + 1) / 2 ≡ h = omega arith in
    bits_step (2 * h + 1) (omega arith) high ∙ ap (λ i. suc (bits i)) half ∙ omega arith

pub ones_double : (h : ℕ) → 2 * h < 2 ^ 64 → ones (2 * h) ≡ ones h
ones_double h high =
    let half : 2 * h / 2 ≡ h = omega arith in
    let even : 2 * h % 2 ≡ 0 = omega arith in
    ones_step (2 * h) high ∙ ap₂ (λ i j. i + ones j) even half ∙ omega arith

pub ones_double_one : (h : ℕ) → 2 * h + 1 < 2 ^ 64 → ones (2 * h + 1) ≡ ones h + 1
ones_double_one h high =
    let half : (2 * h + 1) / 2 ≡ h = omega arith in
    let odd : (2 * h + 1) % 2 ≡ 1 = omega arith in
    ones_step (2 * h + 1) high ∙ ap₂ (λ i j. i + ones j) odd half ∙ omega arith

-- half of a number, 0 too, has one digit less
pub bits_half : (n : ℕ) → n < 2 ^ 64 → bits (n / 2) ≡ bits n - 1
unfolding bits bits_in
bits_half zero high = refl
bits_half (suc n) high = omega (arith, bits_step (suc n) (omega arith) high)

joinings_is : (k : ℕ) → joinings k ≡ (bits k - 1) + (ones k - 1)
unfolding joinings
joinings_is k = refl

-- A squaring for the even power, and a joining after it for the odd one.
pub joinings_double : (h : ℕ) → 0 < h → 2 * h < 2 ^ 64 → joinings (2 * h) ≡ joinings h + 1
joinings_double h low high =
    omega (arith, joinings_is h, joinings_is (2 * h), bits_double h low high, ones_double h high, bits_some h low (omega arith))

pub joinings_double_one : (h : ℕ) → 0 < h → 2 * h + 1 < 2 ^ 64 → joinings (2 * h + 1) ≡ joinings h + 2
joinings_double_one h low high =
    omega (
      arith,
      joinings_is h,
      joinings_is (2 * h + 1),
      bits_double_one h low high,
      ones_double_one h high,
      bits_some h low (omega arith),
      ones_some h low (omega arith),
    )

-- A power takes at most two joinings for each digit below the top.
pub joinings_le : (k : ℕ) → joinings k ≤ 2 * (bits k - 1)
joinings_le k = omega (arith, joinings_is k, ones_le_bits k)

pub joinings_few : (k : ℕ) → joinings k ≤ 126
joinings_few k = omega (arith, joinings_le k, bits_le k)

-- a smaller power has the smaller exponent
exponent_below : (i j : ℕ) → 2 ^ i < 2 ^ j → i < j
exponent_below i j h = ⊎_elim (λ (l : i < j). l) (λ (l : j ≤ i). absurd (omega (arith, pow_mono l))) (cases_lt i j)

-- A number k that is at least 2 ^ b has more than b digits.
pub bits_above : (b k : ℕ) → 2 ^ b ≤ k → k < 2 ^ 64 → b ≤ bits k - 1
bits_above b k low small = omega (arith, exponent_below b (bits k) (omega (arith, bits_high k small)))

-- The number of digits is the only one that fits.
pub bits_is : (b k : ℕ) → 2 ^ b ≤ k → k < 2 ^ suc b → k < 2 ^ 64 → bits k ≡ suc b
bits_is b k low high small =
    let some : 0 < k = omega (arith, pow_pos b) in
    omega (arith, bits_some k some small, bits_above b k low small, exponent_below (bits k - 1) (suc b) (omega (arith, bits_low k some)))

-- Digits of products: the digits below the top of the factors come to at most those of the product.
pub bits_product : (a b n : ℕ) → 0 < a → 0 < b → a * b ≤ n → n < 2 ^ 64 → (bits a - 1) + (bits b - 1) ≤ bits n - 1
bits_product a b n a-some b-some fits small =
    bits_above ((bits a - 1) + (bits b - 1)) n
    (rw pow-add (le_trans (mul-le-mul (bits_low a a-some) (bits_low b b-some)) fits))
    small

power_low : (r f : ℕ) → 0 < r → 2 ^ (f * (bits r - 1)) ≤ r ^ f
power_low r zero some = le_of_eq (ap (λ i. 2 ^ i) (zero-mul (bits r - 1)) ∙ sym (pow-zero r))
power_low r (suc f) some = rw (suc-mul f (bits r - 1), pow-add, pow-suc) (mul-le-mul (power_low r f some) (bits_low r some))

-- The same where one factor is a power.
pub bits_power : (k r f n : ℕ) → 0 < k → 0 < r → k * r ^ f ≤ n → n < 2 ^ 64 → (bits k - 1) + f * (bits r - 1) ≤ bits n - 1
bits_power k r f n k-some r_some fits small =
    bits_above ((bits k - 1) + f * (bits r - 1)) n
    (rw pow-add (le_trans (mul-le-mul (bits_low k k-some) (power_low r f r_some)) fits))
    small
