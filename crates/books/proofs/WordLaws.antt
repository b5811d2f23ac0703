-- A word is its four bytes, and half a word its two.
use Rattle.std.proofs.Common.{◌≡◌, ℕ, ◌+◌, ◌*◌, ◌/◌, ◌%◌, ◌^◌, ◌<◌, [], ◌∷◌, ap, ◌∙◌, mod-eq_of_lt, arith}
use native.Mathlib.Nat.{div-div-eq-div-mul}
use Rattle.octets.specs.Words.{word, half}

-- the bytes of a number make it up again
pub word_joined : (n : ℕ) → n < 2 ^ 32 → n % 256 + n / 256 % 256 * 256 + n / 65536 % 256 * 65536 + n / 16777216 % 256 * 16777216 ≡ n
word_joined n small =
    let two : n / 256 / 256 ≡ n / 65536 = div-div-eq-div-mul n 256 256 in
    let three : n / 65536 / 256 ≡ n / 16777216 = div-div-eq-div-mul n 65536 256 in
    let last : n / 16777216 % 256 ≡ n / 16777216 = mod-eq_of_lt (omega arith) in
    let first : n ≡ n % 256 + n / 256 * 256 = omega arith in
    let second : n / 256 ≡ n / 256 % 256 + n / 65536 * 256 = omega arith in
    let third : n / 65536 ≡ n / 65536 % 256 + n / 16777216 * 256 = omega arith in
    sum (n / 256) (n / 65536) (n / 16777216) (n % 256) (n / 256 % 256) (n / 65536 % 256) (n / 16777216 % 256) n first second third last
  where
    sum : (u v w a b c d n : ℕ) → n ≡ a + u * 256 → u ≡ b + v * 256 → v ≡ c + w * 256 → d ≡ w → a + b * 256 + c * 65536 + d * 16777216 ≡ n
    sum u v w a b c d n e f g h = omega arith

pub half_joined : (n : ℕ) → n < 2 ^ 16 → n % 256 + n / 256 % 256 * 256 ≡ n
half_joined n small = omega arith

-- and numbers below 256 are the bytes of what they make up
pub word_parted : (a b c d : ℕ) → a < 256 → b < 256 → c < 256 → d < 256
    → word (a + b * 256 + c * 65536 + d * 16777216) ≡ a ∷ b ∷ c ∷ d ∷ []
word_parted a b c d la lb lc ld =
    let n : ℕ = a + b * 256 + c * 65536 + d * 16777216 in
    let first : n % 256 ≡ a = omega arith in
    let from_one : n / 256 ≡ b + c * 256 + d * 65536 = omega arith in
    let from-two : n / 65536 ≡ c + d * 256 = omega arith in
    let from-three : n / 16777216 ≡ d = omega arith in
    let second : n / 256 % 256 ≡ b = ap (λ x. x % 256) from_one ∙ omega arith in
    let third : n / 65536 % 256 ≡ c = ap (λ x. x % 256) from-two ∙ omega arith in
    let fourth : n / 16777216 % 256 ≡ d = ap (λ x. x % 256) from-three ∙ omega arith in
    cc

pub half_parted : (a b : ℕ) → a < 256 → b < 256 → half (a + b * 256) ≡ a ∷ b ∷ []
half_parted a b la lb =
    let n : ℕ = a + b * 256 in
    let first : n % 256 ≡ a = omega arith in
    let from_one : n / 256 ≡ b = omega arith in
    let second : n / 256 % 256 ≡ b = ap (λ x. x % 256) from_one ∙ omega arith in
    cc
