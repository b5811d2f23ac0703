-- Whole numbers: primes, shared divisors, and the binary digits that a power goes by.
use Rattle.std.specs.Prelude.{◌≡◌, ℕ, zero, suc, ◌+◌, ◌-◌, ◌*◌, ◌/◌, ◌%◌, ◌<◌, ◌⊎◌}

-- d goes into n
abbrev pub Divides : ℕ → ℕ → Type 0
Divides d n = (k : ℕ) × (n ≡ k * d)

-- above 1, and with no divisor but 1 and itself
pub record Prime (p : ℕ) : Type 0 where
  pub above_one : 1 < p
  pub only : (d : ℕ) → Divides d p → (d ≡ 1) ⊎ (d ≡ p)

-- no number above 1 goes into both
abbrev pub Coprime : ℕ → ℕ → Type 0
Coprime a b = (d : ℕ) → Divides d a → Divides d b → d ≡ 1

-- How many binary digits k has, and how many of them are 1; the first number bounds how many are looked at, and 64 are enough below 2 ^ 64.
unfoldable pub bits_in : ℕ → ℕ → ℕ
bits_in zero k = 0
bits_in (suc d) zero = 0
bits_in (suc d) (suc k) = suc (bits_in d (suc k / 2))

unfoldable pub ones_in : ℕ → ℕ → ℕ
ones_in zero k = 0
ones_in (suc d) zero = 0
ones_in (suc d) (suc k) = suc k % 2 + ones_in d (suc k / 2)

unfoldable pub bits : ℕ → ℕ
bits k = bits_in 64 k

unfoldable pub ones : ℕ → ℕ
ones k = ones_in 64 k

-- How many joinings the power k takes: a squaring for each digit below the top, and one more for each of these that is 1. Power 0 takes none.
unfoldable pub joinings : ℕ → ℕ
joinings k = (bits k - 1) + (ones k - 1)
