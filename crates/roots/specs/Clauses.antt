-- The laws over runs, as the calls on drafts and plans promise them of what they answer.
use Rattle.std.specs.Prelude.{◌≡◌, ℕ, ◌-◌, ◌*◌, ◌%◌, ◌^◌, ◌<◌, ◌≤◌, true, List, Some, Ok, Err, Result, ◌≢◌}
use Rattle.theory.specs.Meaning.{Meaning, Lawful}
use Rattle.theory.specs.Numbers.{Divides, Prime}
use Rattle.refusals.specs.declared.Refusal.{Refusal}
use Rattle.refusals.specs.declared.Refusal.TheVariants.{Unfound}
use Rattle.roots.specs.declared.call.Call.{Call}
use Rattle.roots.specs.Laws.{Exact, ceiling, fourth_of, rest_of, most_tests}
use Rattle.roots.specs.Rooting.{Answer, rooted}
use Rattle.roots.specs.Runs.{run}
use Rattle.roots.specs.State.{State, served, odd}

-- What rooting a mark with a plan of state s promises of its answer r.
pub record RootLaws (m : Meaning) (s : State) (mark : ℕ) (r : Result Answer Refusal) : Type 0 where
  -- over every ring: an accepted root squares to the mark
  pub squares : (a b : ℕ) (counts : ℕ × ℕ) → r ≡ Ok ((a, b), counts) → (m.product a a ≡ mark) × (m.product b b ≡ mark)
  -- over every ring, after every list of calls: an accepted root is a number of the ring, below the size
  pub within : (calls : List Call) → s ≡ run m calls → (a b : ℕ) (counts : ℕ × ℕ) → r ≡ Ok ((a, b), counts) → (a < m.size) × (b < m.size)
  -- over every ring: no more tests than (r − 1)/2 for each held factor
  pub tests : (a b made tests : ℕ) → r ≡ Ok ((a, b), (made, tests)) → tests ≤ most_tests s.factors
  -- over every ring, after every list of calls: the joinings of the steps, and those answered, stay below the ceiling
  pub cost : (calls : List Call) → s ≡ run m calls → (rooted m s mark).made ≤ ceiling m calls
  pub counts : (calls : List Call) → s ≡ run m calls → (a b made tests : ℕ) → r ≡ Ok ((a, b), (made, tests)) → made ≤ ceiling m calls
  -- over every lawful field of a served size, after every list of calls that leaves a fourth root and a rest up to 1,024:
  -- refused as no square exactly where the mark has no root, else answered with its two roots
  pub exact : Lawful m → served m.size ≡ true → (calls : List Call) → s ≡ run m calls → (i : ℕ) → fourth_of m calls ≡ Some i → rest_of m calls ≤ 1024 → 0 < mark → mark < m.size → Exact m mark r

-- Over every lawful field, after every list of calls: with size − 1 = r^F × u, r an odd prime that does not go into u, and u at most 4,094,
-- seeking r is not refused as unfound.
abbrev pub SeekFinds : Meaning → State → ℕ → Result ℕ Refusal → Type 0
SeekFinds m s r x =
    Lawful m → (calls : List Call) → s ≡ run m calls → Prime r → r % 2 ≡ 1 → (F u : ℕ) → m.size - 1 ≡ r ^ F * u → (Divides r u → ⊥) → u ≤ 4094 → x ≢ Err Unfound

-- Nor is seeking a fourth root, where the odd part of the size less one is at most 2,047.
abbrev pub SeekFourthFinds : Meaning → State → Result ℕ Refusal → Type 0
SeekFourthFinds m s x =
    Lawful m → (calls : List Call) → s ≡ run m calls → odd m.size ≤ 2047 → x ≢ Err Unfound
