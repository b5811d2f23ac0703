-- The line of a mark tells its roots exactly.
use Rattle.std.proofs.Common.{◌≡◌, ℕ, ◌<◌, ◌≤◌, ltb, leb, ◌⊎◌, List, Some, Ok, Err, Result, sym, refl, ap, ◌∙◌, subst, inl, inr, arith}
use Rattle.theory.specs.Meaning.{Laws}
use Rattle.theory.specs.Numbers.{Prime}
use Rattle.theory.specs.Residues.{residues}
use Rattle.theory.proofs.ResidueFields.{prime_lawful}
use Rattle.theory.proofs.ResidueLaws.{residues_laws_31}
use Rattle.refusals.specs.declared.Refusal.{Refusal}
use Rattle.refusals.specs.declared.Refusal.TheVariants.{NoSquare, Room, Line}
use Rattle.roots.specs.Laws.{Exact, NoRoot, TwoRoots}
use Rattle.roots.specs.Rooting.{Answer, rooted, answered}
use Rattle.roots.specs.State.{State}
use Rattle.roots.proofs.Accepted.{ok_apart, refuse_passed}
use Rattle.roots.proofs.Exactness.{root_exact}
use Rattle.roots.proofs.Runs.{runs_keep}
use Rattle.books.specs.Loading.{Bound, loaded}
use Rattle.books.specs.RoundTrip.{Reached}
use Rattle.books.proofs.Checked.{loaded_runs}
use Rattle.lists.specs.Calls.{lined, mark_called, rooted_text}
use Rattle.lists.specs.Laws.{LinesExact}
use Rattle.lists.specs.Texts.{text_of_mark}
use Rattle.lists.specs.Tracks.{mark_at, tracked}

-- a line that a call writes is that of the plan that the book loads to
line_is : (book track : List ℕ) (k room : ℕ) (text : List ℕ) (p : Bound) → mark_called book track k room ≡ Ok text → loaded book ≡ Ok p → text ≡ rooted_text p k (mark_at track k)
line_is book track k room text p e loads = from (loaded book) loads (tracked track) (refuse_passed (ltb room 96) Room _ text e).1
  where
    from : (o : Result Bound Refusal) → o ≡ Ok p → (n : Result ℕ Refusal) → lined o n track k ≡ Ok text → text ≡ rooted_text p k (mark_at track k)
    from (Err why) same n is = absurd (ok_apart why p same)
    from (Ok other) same (Err why) is = absurd (ok_apart why text is)
    from (Ok other) same (Ok n) is =
        let mark = mark_at track k in
        let line = (refuse_passed (leb n k) Line (Ok (rooted_text other k mark)) text is).1 in
        let bound : other ≡ p = cc in
        let written : rooted_text other k mark ≡ text = cc in
        sym written ∙ ap (λ (b : Bound). rooted_text b k mark) bound

-- rooting with a plan that was loaded is exact
loaded_exact : (q : ℕ) (s : State) → Reached q s → Prime q → (i : ℕ) → s.fourth ≡ Some i → s.rest ≤ 1024 → (mark : ℕ) → 0 < mark → mark < q → Exact (residues q) mark (answered (rooted (residues q) s mark))
loaded_exact q s reached prime i fourth rest mark some below =
    let m = residues q in
    let laws : Laws m = residues_laws_31 q reached.low reached.high in
    let kept = runs_keep m laws reached.calls in
    let made = reached.run_is in
    subst (λ (t : State). Exact m mark (answered (rooted m t mark))) (sym made)
    (root_exact m laws (prime_lawful q prime) reached.serves reached.calls i
    (sym kept.fourth ∙ sym (ap (λ (t : State). t.fourth) made) ∙ fourth)
    (omega (arith, kept.rest, ap (λ (t : State). t.rest) made)) mark some below)

pub lines_exact : LinesExact
lines_exact book track k room text e q s loads prime i fourth rest some below =
    from (answered (rooted (residues q) s mark)) refl (loaded_exact q s (loaded_runs book q s loads) prime i fourth rest mark some below)
  where
    mark : ℕ
    mark = mark_at track k

    line : (r : Result Answer Refusal) → answered (rooted (residues q) s mark) ≡ r → text ≡ text_of_mark k mark r
    line r is = line_is book track k room text (q, s) e loads ∙ ap (text_of_mark k mark) is

    from : (r : Result Answer Refusal) → answered (rooted (residues q) s mark) ≡ r → Exact (residues q) mark r
        → (NoRoot (residues q) mark × (text ≡ text_of_mark k mark (Err NoSquare)))
        ⊎ ((a b joinings tests : ℕ) × TwoRoots (residues q) mark a b × (text ≡ text_of_mark k mark (Ok ((a, b), (joinings, tests)))))
    from r is (inl none) = inl (none.0, line (Err NoSquare) (is ∙ none.1))
    from r is (inr two) = inr (two.0, two.1, two.2.0, two.2.1, two.3, line _ (is ∙ two.4))
