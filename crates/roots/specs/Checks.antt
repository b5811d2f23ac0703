-- The tests by which a draft's calls decide.
use Rattle.std.specs.Prelude.{◌≡◌, ℕ, zero, suc, ◌/◌, ◌%◌, Bool, true, false, ◌&&◌, List, [], ◌∷◌, Some, None, Option, ◌==◌, nat_eq, nat_le}
use Rattle.theory.specs.First.{first}
use Rattle.theory.specs.Meaning.{Meaning}
use Rattle.theory.specs.Power.{power}
use Rattle.roots.specs.declared.factor.Factor.{Factor}

-- r is odd, from 3 to 4,095
abbrev pub base : ℕ → Bool
base r = r % 2 == 1 && (nat_le 3 r && nat_le r 4095)

-- n divided by r so many times, where each division leaves 0
unfoldable pub divided : ℕ → ℕ → ℕ → Option ℕ
divided r zero n = Some n
divided r (suc f) n = elim (n % r == 0) [ true ↦ divided r f (n / r) | false ↦ None ]

-- the same, but not 0 times
abbrev pub parted_out : ℕ → ℕ → ℕ → Option ℕ
parted_out r zero n = None
parted_out r (suc f) n = divided r (suc f) n

-- the greatest common divisor, by Euclid's divisions; b + 1 of them are enough
unfoldable pub gcd_in : ℕ → ℕ → ℕ → ℕ
gcd_in zero a b = a
gcd_in (suc d) a zero = a
gcd_in (suc d) a (suc b) = gcd_in d (suc b) (a % suc b)

unfoldable pub gcd : ℕ → ℕ → ℕ
gcd a b = gcd_in (suc b) a b

-- r shares no divisor above 1 with the r of any held factor
unfoldable pub apart : ℕ → List Factor → Bool
apart r [] = true
apart r (h ∷ held) = gcd r h.r == 1 && apart r held

-- the least exponent from 1 to r at which z has the power 1 is r itself
abbrev pub order_at : ℕ → Option ℕ → Bool
order_at r None = false
order_at r (Some k) = k == r

abbrev pub order_is : Meaning → ℕ → ℕ → Bool
order_is m z r = order_at r (first (λ k. nat_eq (power m z k) 1) 1 r)

-- the square of i is the negative of 1
abbrev pub fourth_is : Meaning → ℕ → Bool
fourth_is m i = m.product i i == m.negative 1

-- what a closure answers is what the test is
abbrev pub Tells : (ℕ → Bool → Type 0) → (ℕ → Bool) → Type 0
Tells answers test = (z : ℕ) (b : Bool) → answers z b → b ≡ test z
