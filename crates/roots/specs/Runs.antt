-- Lists of calls on one draft from its start.
use Rattle.std.specs.Prelude.{List, [], ◌∷◌, Ok, Err, Result}
use Rattle.theory.specs.Meaning.{Meaning}
use Rattle.refusals.specs.declared.Refusal.{Refusal}
use Rattle.roots.specs.declared.call.Call.{Call}
use Rattle.roots.specs.declared.call.Call.TheVariants.{Adopt, Seek, Give, SeekFourth}
use Rattle.roots.specs.Drafts.{Outcome, next, adopted, sought, given, sought_fourth}
use Rattle.roots.specs.State.{State, start}

abbrev pub step : Meaning → State → Call → Outcome
step m s (Adopt r f z) = adopted m s r f z
step m s (Seek r f) = sought m s r f
step m s (Give i) = given m s i
step m s SeekFourth = sought_fourth m s

-- What a draft holds after a list of calls, refused ones among them.
unfoldable pub run_from : Meaning → State → List Call → State
run_from m s [] = s
run_from m s (c ∷ calls) = run_from m (next s (step m s c)) calls

abbrev pub run : Meaning → List Call → State
run m calls = run_from m (start m.size) calls

-- The same where no call may be refused: what the draft then holds, or the first refusal.
unfoldable pub tried : Meaning → State → List Call → Result State Refusal
tried m s [] = Ok s
tried m s (c ∷ calls) = elim (step m s c) [ Err why ↦ Err why | Ok done ↦ tried m done.1 calls ]
