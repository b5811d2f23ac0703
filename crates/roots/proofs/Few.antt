-- How many tests an accepted rooting makes at most: (r − 1)/2 for each held factor.
use Rattle.std.proofs.Common.{◌≡◌, ℕ, ◌+◌, ◌-◌, ◌*◌, ◌/◌, ◌≤◌, Bool, true, false, not, eqb, List, [], ◌∷◌, Some, None, Ok, Err, Option, Result, refl, ap, subst, arith}
use Rattle.std.proofs.lemmas.Bool.{cond_both}
use Rattle.theory.specs.First.{first}
use Rattle.theory.specs.Meaning.{Meaning}
use Rattle.theory.specs.Numbers.{joinings}
use Rattle.theory.specs.Operation.{ratio, ratios}
use Rattle.theory.specs.Power.{power}
use Rattle.theory.specs.declared.Ratio.{Ratio}
use Rattle.theory.proofs.Search.{first_found}
use Rattle.joining.specs.Ladder.{climbed}
use Rattle.joining.specs.Quotient.{quotient_of}
use Rattle.joining.specs.declared.Back.TheVariants.{Two}
use Rattle.joining.specs.declared.JoiningFault.{JoiningFault}
use Rattle.refusals.specs.declared.Layer.TheVariants.{Search}
use Rattle.refusals.specs.declared.Refusal.{Refusal}
use Rattle.refusals.specs.declared.Refusal.TheVariants.{NoSquare, Unlawful}
use Rattle.roots.specs.declared.factor.Factor.{Factor}
use Rattle.roots.specs.Laws.{most_tests, RootTests}
use Rattle.roots.specs.Rooting.{Steps, ended, fails_if, ordered, Roots, Answer, rooted_check, finished, matches, searched, from_search, climbed_two, squares, ends, begun, half, tested, answered}
use Rattle.roots.specs.State.{State, twos, odd}
use Rattle.roots.proofs.Accepted.{ok_apart}
use Rattle.roots.proofs.Passed.{passed}
use Rattle.roots.proofs.Searching.{factor_climb, searched_end, searched_fault, searched_over, searched_missed, searched_matched}

-- What some steps come to, if not refused, took so many tests at most.
abbrev Few : {A : Type 0} → ℕ → Result (A × ℕ) Refusal → Type 0
Few most (Err why) = Unit {0}
Few most (Ok found) = found.1 ≤ most

few_more : {A : Type 0} (low high : ℕ) → low ≤ high → (o : Result (A × ℕ) Refusal) → Few low o → Few high o
few_more low high h (Err why) few = tt
few_more low high h (Ok found) few = omega arith

module _ (m : Meaning) (mark : ℕ) where
  -- Each factor that serves adds (r − 1)/2 tests at most.
  searched_few : (g : ℕ) (held : List Factor) (serves : Bool) (n tests : ℕ) → Few (tests + most_tests held) (searched m mark g held serves n tests).outcome
  searched_few g [] serves n tests = rw searched_end tt
  searched_few g (h ∷ held) serves n tests = turn (factor_climb m mark g h) refl (searched_few g held)
    where
      most : ℕ
      most = tests + (h.r / 2 + most_tests held)

      Least : Type 0
      Least = Few most (searched m mark g (h ∷ held) serves n tests).outcome

      Later : Type 0
      Later = (serves : Bool) (n tests : ℕ) → Few (tests + most_tests held) (searched m mark g held serves n tests).outcome

      served_at : (x : Ratio) (made : ℕ) → factor_climb m mark g h ≡ Ok (Some x, made) → (o : Option ℕ)
          → first (matches m mark x h.zeta) 1 (h.r / 2) ≡ o → Later → Least
      served_at x made e None miss later =
          rw (searched_missed m mark g h held serves n tests x made e miss)
          (few_more (tests + h.r / 2 + most_tests held) most (omega arith) _ (later true (n + made) (tests + h.r / 2)))
      served_at x made e (Some j) match later =
          rw (searched_matched m mark g h held serves n tests x made j e match)
          (omega (arith, (first_found (matches m mark x h.zeta) 1 (h.r / 2) j match).within))

      found_at : (o : Option Ratio) (made : ℕ) → factor_climb m mark g h ≡ Ok (o, made) → Later → Least
      found_at None made e later =
          rw (searched_over m mark g h held serves n tests made e)
          (few_more (tests + most_tests held) most (omega arith) _ (later serves (n + made) tests))
      found_at (Some x) made e later = served_at x made e (first (matches m mark x h.zeta) 1 (h.r / 2)) refl later

      turn : (r : Result (Option Ratio × ℕ) JoiningFault) → factor_climb m mark g h ≡ r → Later → Least
      turn (Err fault) e later = rw (searched_fault m mark g h held serves n tests fault e) tt
      turn (Ok found) e later = found_at found.0 found.1 e later

  -- Step 6 passes the number on.
  finished_few : (g tests most : ℕ) (e : Ratio) → tests ≤ most → Few most (finished m mark g tests e)
  finished_few g tests most e within = from (quotient_of m e.top e.bottom)
    where
      from : (r : Result ℕ JoiningFault) → Few most (rooted_check m mark g tests r)
      from (Err fault) = tt
      from (Ok root) =
          cond_both (eqb (m.product root root) mark) (Ok (ordered root (m.negative root), tests)) (Err (Unlawful Search 6 g)) (Few most)
          (λ t. within) (λ f. tt)

  from_search_few : (g most : ℕ) (steps : Steps (Ratio × ℕ)) → Few most steps.outcome → Few most (from_search m mark g steps).outcome
  from_search_few g most steps few = from steps.outcome few
    where
      from : (o : Result (Ratio × ℕ) Refusal) → Few most o → Few most (from_search m mark g (ended o steps.made)).outcome
      from (Err why) few = tt
      from (Ok found) few = finished_few g found.1 most found.0 few

  climbed_two_few : (i : ℕ) (held : List Factor) (g n : ℕ) (r : Result (Option Ratio × ℕ) JoiningFault)
      → Few (most_tests held) (climbed_two m i held mark g n r).outcome
  climbed_two_few i held g n (Err fault) = tt
  climbed_two_few i held g n (Ok found) = from found.0
    where
      from : (o : Option Ratio) → Few (most_tests held) (climbed_two m i held mark g n (Ok (o, found.1))).outcome
      from (Some e) = finished_few g 0 (most_tests held) (ratio (m.product e.top i) e.bottom) (omega arith)
      from None =
          from_search_few g (most_tests held) (searched m mark g held false (n + found.1) 0)
          (few_more (0 + most_tests held) (most_tests held) (omega arith) _ (searched_few g held false (n + found.1) 0))

  begun_few : (i : ℕ) (s : State) (n : ℕ) (o : Option ℕ) → Few (most_tests s.factors) (begun m i s mark n o).outcome
  begun_few i s n None = tt
  begun_few i s n (Some g) =
      cond_both (squares m mark g) _ _ (λ (steps : Steps Roots). Few (most_tests s.factors) steps.outcome)
      (λ t. omega arith)
      (λ f. climbed_two_few i s.factors g (n + g * joinings (2 * s.rest))
      (climbed (ratios m mark) g (odd m.size) 2 (twos m.size) Two))

  tested_few : (i : ℕ) (s : State) → Few (most_tests s.factors) (tested m i s mark).outcome
  tested_few i s =
      from (not (eqb (power m mark (half m)) 1)) (begun_few i s (joinings (half m)) (first (ends m s.rest mark) 1 (2 * s.rest - 1)))
    where
      rest : Steps Roots
      rest = begun m i s mark (joinings (half m)) (first (ends m s.rest mark) 1 (2 * s.rest - 1))

      from : (b : Bool) → Few (most_tests s.factors) rest.outcome → Few (most_tests s.factors) (fails_if b NoSquare (joinings (half m)) rest).outcome
      from true few = tt
      from false few = few

-- Over every ring, whatever the plan holds, an accepted rooting makes no more tests than that.
pub root_tests : RootTests
root_tests m laws s mark a b made tests e =
    let p = passed m s mark ((a, b), (made, tests)) e in
    from p.i (tested m p.i s mark).outcome (tested_few m mark p.i s) p.goes_on
  where
    from : (i : ℕ) (o : Result Roots Refusal) → Few (most_tests s.factors) o
        → answered (ended o (tested m i s mark).made) ≡ Ok ((a, b), (made, tests)) → tests ≤ most_tests s.factors
    from i (Err why) few e = absurd (ok_apart why ((a, b), (made, tests)) e)
    from i (Ok found) few e =
        let steps = (tested m i s mark).made in
        let same : ◌≡◌ {A = Answer} (found.0, (steps, found.1)) ((a, b), (made, tests)) = cc in
        subst (λ k. k ≤ most_tests s.factors) (ap (λ (x : Answer). x.1.1) same) few
