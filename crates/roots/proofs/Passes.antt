-- Calls that pass their checks are accepted.
use Rattle.std.proofs.Common.{◌≡◌, ℕ, ◌<◌, Bool, true, false, not, ◌&&◌, ltb, leb, length, Ok, Result, refl, ap, ◌∙◌, arith}
use Rattle.std.proofs.lemmas.Bool.{true≢false, not_from_true, lt-leb, lt-ltb, and_from}
use Rattle.theory.specs.Meaning.{Meaning}
use Rattle.refusals.specs.declared.Refusal.{Refusal}
use Rattle.refusals.specs.declared.Refusal.TheVariants.{Size, Full, Base as BadBase, Shared, Root}
use Rattle.roots.specs.Checks.{base, apart, order_is, fourth_is}
use Rattle.roots.specs.Drafts.{refuse, holding, giving, checked, checked_apart, adopted, adopted_with, given}
use Rattle.roots.specs.State.{State, served}
use Rattle.roots.proofs.Accepted.{Fits, Adds}
use Rattle.roots.proofs.Divisions.{divided_out_is}
use Rattle.roots.proofs.Tests.{base_passes, apart_passes, order_passes, fourth_passes}

-- a check that does not refuse
pub through : {A : Type 0} (b : Bool) (why : Refusal) (x : Result A Refusal) → b ≡ false → refuse b why x ≡ x
through true why x e = absurd (true≢false e)
through false why x e = refl

-- What fits passes the checks that adopting and seeking share.
checked_passes : (m : Meaning) (s : State) (r f left : ℕ) → Fits m s r f left → checked m s r f ≡ Ok left
checked_passes m s r f left fits =
    through (not (served m.size)) Size _ (not_from_true _ fits.serves)
    ∙ through (leb 8 (length s.factors)) Full _ (lt-leb 8 (length s.factors) fits.room)
    ∙ through (not (base r)) BadBase _ (not_from_true _ (base_passes r fits.good))
    ∙ ap (checked_apart s r) (divided_out_is r f s.rest left (omega (arith, fits.good.low)) fits.some fits.whole)
    ∙ through (not (apart r s.factors)) Shared (Ok left) (not_from_true _ (apart_passes r s.factors fits.apart))

-- A factor that can be taken is adopted.
pub adopted_passes : (m : Meaning) (s : State) (r f z left : ℕ) → Adds m s r f z left → adopted m s r f z ≡ Ok (z, holding s r f z left)
adopted_passes m s r f z left adds =
    ap (adopted_with m s r f z) (checked_passes m s r f left adds.fits)
    ∙ through (not (ltb z m.size && order_is m z r)) Root (Ok (z, holding s r f z left))
    (not_from_true _ (and_from (ltb z m.size) (order_is m z r) (lt-ltb z m.size adds.below) (order_passes m z r adds.order)))

-- A number that squares to the negative of 1 is given.
pub given_passes : (m : Meaning) (s : State) (i : ℕ) → served m.size ≡ true → i < m.size → m.product i i ≡ m.negative 1
    → given m s i ≡ Ok (i, giving s i)
given_passes m s i serves below squares =
    through (not (served m.size)) Size _ (not_from_true _ serves)
    ∙ through (not (ltb i m.size && fourth_is m i)) Root (Ok (i, giving s i))
    (not_from_true _ (and_from (ltb i m.size) (fourth_is m i) (lt-ltb i m.size below) (fourth_passes m i squares)))
