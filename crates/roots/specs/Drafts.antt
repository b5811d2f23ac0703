-- What each call on a draft answers, and what the draft then holds.
use Rattle.std.specs.Prelude.{ℕ, ◌-◌, min, Bool, true, false, cond, not, ◌&&◌, [], ◌∷◌, ◌++◌, length, Some, None, Ok, Err, Option, Result, nat_le, nat_lt}
use Rattle.theory.specs.First.{first_some}
use Rattle.theory.specs.Meaning.{Meaning}
use Rattle.theory.specs.Operation.{multiplication}
use Rattle.joining.specs.Ladder.{climbed}
use Rattle.joining.specs.declared.Back.TheVariants.{One, Two}
use Rattle.joining.specs.declared.JoiningFault.{JoiningFault}
use Rattle.refusals.specs.declared.Refusal.{Refusal}
use Rattle.refusals.specs.declared.Refusal.TheVariants.{Size, Full, Base, Power, Shared, Root, Unfound}
use Rattle.roots.specs.declared.factor.Factor.{Factor}
use Rattle.roots.specs.Checks.{base, parted_out, apart, order_is, fourth_is}
use Rattle.roots.specs.State.{State, served, multiplicity, cofactor, twos, odd}

-- A call comes to an answer with what the draft then holds, or to a refusal.
abbrev pub Outcome : Type 0
Outcome = Result (ℕ × State) Refusal

abbrev pub refuse : {A : Type 0} → Bool → Refusal → Result A Refusal → Result A Refusal
refuse true why otherwise = Err why
refuse false why otherwise = otherwise

abbrev pub answer : Outcome → Result ℕ Refusal
answer (Ok done) = Ok done.0
answer (Err why) = Err why

-- A refused call leaves the draft as it was.
abbrev pub next : State → Outcome → State
next s (Ok done) = done.1
next s (Err why) = s

abbrev pub factor : ℕ → ℕ → ℕ → Factor
factor r f z = record { r = r; f = f; zeta = z }

-- one factor more, and the rest that it leaves
abbrev pub holding : State → ℕ → ℕ → ℕ → ℕ → State
holding s r f z left = record { factors = s.factors ++ (factor r f z ∷ []); rest = left; fourth = s.fourth }

-- The checks on r and f that adopting and seeking share, in their order; what passes them is the rest that r^f would leave.
abbrev pub checked_apart : State → ℕ → Option ℕ → Result ℕ Refusal
checked_apart s r None = Err Power
checked_apart s r (Some left) = refuse (not (apart r s.factors)) Shared (Ok left)

abbrev pub checked : Meaning → State → ℕ → ℕ → Result ℕ Refusal
checked m s r f =
    refuse (not (served m.size)) Size
    (refuse (nat_le 8 (length s.factors)) Full
    (refuse (not (base r)) Base
    (checked_apart s r (parted_out r f s.rest))))

-- Adopting r, f and ζ.
abbrev pub adopted_with : Meaning → State → ℕ → ℕ → ℕ → Result ℕ Refusal → Outcome
adopted_with m s r f z (Err why) = Err why
adopted_with m s r f z (Ok left) =
    refuse (not (nat_lt z m.size && order_is m z r)) Root (Ok (z, holding s r f z left))

abbrev pub adopted : Meaning → State → ℕ → ℕ → ℕ → Outcome
adopted m s r f z = adopted_with m s r f z (checked m s r f)

-- Where a ladder's rung passes a test, that rung.
abbrev pub passing : (ℕ → Bool) → Result (Option ℕ × ℕ) JoiningFault → Option ℕ
passing test (Err fault) = None
passing test (Ok found) = elim found.0 [ None ↦ None | Some z ↦ cond (test z) (Some z) None ]

-- The number of order exactly r that the code g leads to: with size − 1 = r^F × u, the rung before the rank of the ladder from g^u by r.
abbrev pub leads : Meaning → ℕ → ℕ → Option ℕ
leads m r g =
    passing (λ z. order_is m z r) (climbed (multiplication m) g (cofactor r (m.size - 1)) r (multiplicity r (m.size - 1)) One)

-- The fourth root that g leads to: two before the rank of the ladder from g^odd by 2.
abbrev pub leads_fourth : Meaning → ℕ → Option ℕ
leads_fourth m g = passing (fourth_is m) (climbed (multiplication m) g (odd m.size) 2 (twos m.size) Two)

-- How many codes a search tries: those below the size from 1 to 4,095.
abbrev pub tries : Meaning → ℕ
tries m = min 4095 (m.size - 1)

-- Seeking a factor.
abbrev pub sought_found : State → ℕ → ℕ → ℕ → Option ℕ → Outcome
sought_found s r f left None = Err Unfound
sought_found s r f left (Some z) = Ok (z, holding s r f z left)

abbrev pub sought_with : Meaning → State → ℕ → ℕ → Result ℕ Refusal → Outcome
sought_with m s r f (Err why) = Err why
sought_with m s r f (Ok left) = sought_found s r f left (first_some (leads m r) 1 (tries m))

abbrev pub sought : Meaning → State → ℕ → ℕ → Outcome
sought m s r f = sought_with m s r f (checked m s r f)

-- Giving a fourth root; a later one replaces it.
abbrev pub giving : State → ℕ → State
giving s i = record { factors = s.factors; rest = s.rest; fourth = Some i }

abbrev pub given : Meaning → State → ℕ → Outcome
given m s i =
    refuse (not (served m.size)) Size (refuse (not (nat_lt i m.size && fourth_is m i)) Root (Ok (i, giving s i)))

-- Seeking a fourth root.
abbrev pub sought_fourth_found : State → Option ℕ → Outcome
sought_fourth_found s None = Err Unfound
sought_fourth_found s (Some i) = Ok (i, giving s i)

abbrev pub sought_fourth : Meaning → State → Outcome
sought_fourth m s =
    refuse (not (served m.size)) Size (sought_fourth_found s (first_some (leads_fourth m) 1 (tries m)))
