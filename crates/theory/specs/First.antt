-- Searching: the first that passes.
use Rattle.std.specs.Prelude.{ℕ, zero, suc, Bool, true, false, Some, None, Option}

-- The least k that passes the test, of the so many that begin at the given one.
unfoldable pub first : (ℕ → Bool) → ℕ → ℕ → Option ℕ
first p k zero = None
first p k (suc turns) = elim (p k) [ true ↦ Some k | false ↦ first p (suc k) turns ]

-- The same for a test that gives something where it passes: what it gives first.
unfoldable pub first_some : {A : Type 0} → (ℕ → Option A) → ℕ → ℕ → Option A
first_some p k zero = None
first_some p k (suc turns) = elim (p k) [ Some a ↦ Some a | None ↦ first_some p (suc k) turns ]
