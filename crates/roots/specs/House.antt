-- The house table, and what its rows do.
use Rattle.std.specs.Prelude.{ℕ, Bool, true, false, cond, ◌&&◌, List, [], ◌∷◌, Some, None, Ok, Err, Option, ◌==◌}
use Rattle.std.specs.List.{find}
use Rattle.theory.specs.Meaning.{Meaning}
use Rattle.theory.specs.Residues.{residues}
use Rattle.roots.specs.declared.call.Call.{Call}
use Rattle.roots.specs.declared.call.Call.TheVariants.{Adopt, Give}
use Rattle.roots.specs.declared.house.Row.{Row}
use Rattle.roots.specs.Laws.{rest_of, fourth_of}
use Rattle.roots.specs.Runs.{step, run}
use Rattle.roots.specs.State.{State, served, start}

abbrev pub row : ℕ → ℕ → ℕ → ℕ → ℕ → Row
row modulus fourth r f zeta = record { modulus = modulus; fourth = fourth; r = r; f = f; zeta = zeta }

abbrev pub house : List Row
house = row 17 4 0 0 0 ∷ row 41 9 5 1 16 ∷ row 73 27 3 2 8 ∷ row 89 34 11 1 2 ∷ row 97 22 3 1 35 ∷ row 113 15 7 1 16 ∷ row 257 16 0 0 0 ∷ []

-- the first row of a modulus
abbrev pub row_of : ℕ → List Row → Option Row
row_of modulus rows = find (λ h. h.modulus == modulus) rows

-- A row's calls: its factor, unless there is none, and then its fourth root.
abbrev pub row_calls : Row → List Call
row_calls h = cond (h.r == 0) (Give h.fourth ∷ []) (Adopt h.r h.f h.zeta ∷ Give h.fourth ∷ [])

unfoldable pub all_accepted : Meaning → State → List Call → Bool
all_accepted m s [] = true
all_accepted m s (c ∷ calls) = elim (step m s c) [ Err why ↦ false | Ok done ↦ all_accepted m done.1 calls ]

abbrev pub given_is : Option ℕ → ℕ → Bool
given_is None i = false
given_is (Some k) i = k == i

-- The rule of a row: its size is served, and over the residues its calls are accepted, leave the rest 1 and the row's fourth root.
unfoldable pub housed_over : Meaning → List Call → ℕ → Bool
housed_over m calls i =
    served m.size && (all_accepted m (start m.size) calls && ((run m calls).rest == 1 && (rest_of m calls == 1 && given_is (fourth_of m calls) i)))

abbrev pub housed : Row → Bool
housed h = housed_over (residues h.modulus) (row_calls h) h.fourth

-- the rule at each row of a table
unfoldable pub all_housed : List Row → Bool
all_housed [] = true
all_housed (h ∷ rows) = housed h && all_housed rows
