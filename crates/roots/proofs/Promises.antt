-- The laws over runs, as they follow from the value of a call's answer.
use Rattle.std.proofs.Common.{◌≡◌, ℕ, ◌≤◌, List, Ok, Err, Result, sym, ap, ◌∙◌, subst}
use Rattle.theory.specs.Meaning.{Meaning, Laws}
use Rattle.refusals.specs.declared.Refusal.{Refusal}
use Rattle.roots.specs.declared.call.Call.{Call}
use Rattle.roots.specs.Clauses.{RootLaws, SeekFinds, SeekFourthFinds}
use Rattle.roots.specs.Drafts.{answer, sought, sought_fourth}
use Rattle.roots.specs.Laws.{Kept, Exact, ceiling}
use Rattle.roots.specs.Rooting.{Answer, Steps, Roots, rooted, answered}
use Rattle.roots.specs.Runs.{run}
use Rattle.roots.specs.State.{State}
use Rattle.roots.proofs.Cost.{root_cost}
use Rattle.roots.proofs.Exactness.{root_exact}
use Rattle.roots.proofs.Few.{root_tests}
use Rattle.roots.proofs.Runs.{runs_keep}
use Rattle.roots.proofs.Seeking.{seek_found, seek_fourth_found}
use Rattle.roots.proofs.Squares.{root_squares}
use Rattle.roots.proofs.Within.{root_within}

-- the joinings answered are those of the steps
answered_made : (steps : Steps Roots) (a b made tests : ℕ) → answered steps ≡ Ok ((a, b), (made, tests)) → made ≡ steps.made
answered_made steps a b made tests e = from steps.outcome e
  where
    from : (o : Result Roots Refusal) → answered (record { outcome = o; made = steps.made }) ≡ Ok ((a, b), (made, tests)) → made ≡ steps.made
    from (Ok found) e =
        let same : ((a, b), (made, tests)) ≡ (found.0, (steps.made, found.1)) = cc in ap (λ (p : Answer). p.1.0) same
    from (Err why) e = cc

pub root_laws : (m : Meaning) → Laws m → (s : State) (mark : ℕ) (r : Result Answer Refusal) → r ≡ answered (rooted m s mark) → RootLaws m s mark r
root_laws m laws s mark r is = record {
  squares = λ a b counts e. root_squares m laws s mark a b counts (sym is ∙ e);
  within = λ calls at a b counts e. root_within m laws calls mark a b counts (ap (λ t. answered (rooted m t mark)) (sym at) ∙ sym is ∙ e);
  tests = λ a b made tests e. root_tests m laws s mark a b made tests (sym is ∙ e);
  cost = cost;
  counts = λ calls run a b made tests e. subst (λ k. k ≤ ceiling m calls) (sym (answered_made (rooted m s mark) a b made tests (sym is ∙ e))) (cost calls run);
  exact = λ lawful served calls at i fourth rest some below. subst (Exact m mark) (ap (λ t. answered (rooted m t mark)) (sym at) ∙ sym is)
      (root_exact m laws lawful served calls i fourth rest mark some below);
}
  where
    cost : (calls : List Call) → s ≡ run m calls → (rooted m s mark).made ≤ ceiling m calls
    cost calls at = subst (λ t. (rooted m t mark).made ≤ ceiling m calls) (sym at) (root_cost m laws calls mark)

pub seek_finds : (m : Meaning) → Laws m → (s : State) (r f : ℕ) (x : Result ℕ Refusal) → x ≡ answer (sought m s r f) → SeekFinds m s r x
seek_finds m laws s r f x is lawful calls at prime odd F u whole stops few unfound =
    seek_found m laws lawful calls r f prime odd F u whole stops few (ap (λ t. answer (sought m t r f)) (sym at) ∙ sym is ∙ unfound)

pub seek_fourth_finds : (m : Meaning) → Laws m → (s : State) (x : Result ℕ Refusal) → x ≡ answer (sought_fourth m s) → SeekFourthFinds m s x
seek_fourth_finds m laws s x is lawful calls at few unfound =
    seek_fourth_found m laws lawful calls few (ap (λ t. answer (sought_fourth m t)) (sym at) ∙ sym is ∙ unfound)

pub replay_keeps : (m : Meaning) → Laws m → (calls : List Call) (s : State) → s ≡ run m calls → Kept m calls s
replay_keeps m laws calls s at = subst (Kept m calls) (sym at) (runs_keep m laws calls)
