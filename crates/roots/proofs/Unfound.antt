-- What it means that a seeking is refused as unfound: its checks passed, and no code that was tried leads to a root.
use Rattle.std.proofs.Common.{◌≡◌, ℕ, Bool, true, false, not, leb, length, Some, None, Ok, Err, Option, Result, sym, refl, ap, ◌∙◌, arith}
use Rattle.theory.specs.First.{first_some}
use Rattle.theory.specs.Meaning.{Meaning}
use Rattle.refusals.specs.Number.{numbered}
use Rattle.refusals.specs.declared.Refusal.{Refusal}
use Rattle.refusals.specs.declared.Refusal.TheVariants.{Size, Full, Base, Power, Shared, Unfound}
use Rattle.roots.specs.Checks.{base, parted_out, apart}
use Rattle.roots.specs.Drafts.{refuse, answer, checked, checked_apart, leads, leads_fourth, tries, sought, sought_with, sought_found, sought_fourth, sought_fourth_found}
use Rattle.roots.specs.State.{State, served}
use Rattle.roots.proofs.Accepted.{Fits, ok_apart, checked_fits}

-- A check whose reason is another than Unfound, where the whole refuses as unfound, was passed.
goes_on : {A : Type 0} (b : Bool) (why : Refusal) (otherwise : Result A Refusal) → (numbered why ≡ 8 → ⊥)
    → refuse b why otherwise ≡ Err Unfound → (b ≡ false) × (otherwise ≡ Err Unfound)
goes_on true why otherwise differs e = let same : why ≡ Unfound = cc in absurd (differs (ap numbered same))
goes_on false why otherwise differs e = (refl, e)

-- None of the checks refuses as unfound.
apart_found : (s : State) (r : ℕ) (found : Option ℕ) → checked_apart s r found ≡ Err Unfound → ⊥
apart_found s r None e = let same : Power ≡ Unfound = cc in omega (arith, ap numbered same)
apart_found s r (Some k) e =
    ok_apart Unfound k (sym (goes_on (not (apart r s.factors)) Shared (Ok k) (omega arith) e).1)

checks_found : (m : Meaning) (s : State) (r f : ℕ) → checked m s r f ≡ Err Unfound → ⊥
checks_found m s r f e =
    let whole = goes_on (not (served m.size)) Size _ (omega arith) e in
    let room = goes_on (leb 8 (length s.factors)) Full _ (omega arith) whole.1 in
    let low = goes_on (not (base r)) Base _ (omega arith) room.1 in
    apart_found s r (parted_out r f s.rest) low.1

-- Seeking r is refused as unfound only where the checks pass and no code that is tried leads to a number of order r.
pub unfound : (m : Meaning) (s : State) (r f : ℕ) → answer (sought m s r f) ≡ Err Unfound
    → ((left : ℕ) × Fits m s r f left) × (first_some (leads m r) 1 (tries m) ≡ None)
unfound m s r f e = from (checked m s r f) refl e
  where
    nothing : (left : ℕ) (found : Option ℕ) → answer (sought_found s r f left found) ≡ Err Unfound → found ≡ None
    nothing left None e = refl
    nothing left (Some z) e = absurd (ok_apart Unfound z (sym e))

    from : (c : Result ℕ Refusal) → checked m s r f ≡ c → answer (sought_with m s r f c) ≡ Err Unfound
        → ((left : ℕ) × Fits m s r f left) × (first_some (leads m r) 1 (tries m) ≡ None)
    from (Err why) is e = absurd (checks_found m s r f (is ∙ (let same : why ≡ Unfound = cc in ap Err same)))
    from (Ok left) is e = ((left, checked_fits m s r f left is), nothing left (first_some (leads m r) 1 (tries m)) e)

-- Seeking a fourth root is, where the size is served and no code that is tried leads to one.
pub unfound_fourth : (m : Meaning) (s : State) → answer (sought_fourth m s) ≡ Err Unfound
    → (served m.size ≡ true) × (first_some (leads_fourth m) 1 (tries m) ≡ None)
unfound_fourth m s e = from (served m.size) e
  where
    nothing : (found : Option ℕ) → answer (sought_fourth_found s found) ≡ Err Unfound → found ≡ None
    nothing None e = refl
    nothing (Some i) e = absurd (ok_apart Unfound i (sym e))

    from : (b : Bool)
        → answer (refuse (not b) Size (sought_fourth_found s (first_some (leads_fourth m) 1 (tries m)))) ≡ Err Unfound
        → (b ≡ true) × (first_some (leads_fourth m) 1 (tries m) ≡ None)
    from true e = (refl, nothing (first_some (leads_fourth m) 1 (tries m)) e)
    from false e = let same : Size ≡ Unfound = cc in absurd (omega (arith, ap numbered same))
