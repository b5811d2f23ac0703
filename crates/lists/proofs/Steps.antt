-- A refusal that rooting comes to names a step of one digit.
use Rattle.std.proofs.Common.{◌≡◌, ℕ, ◌+◌, ◌-◌, ◌*◌, ◌/◌, ◌<◌, Bool, true, false, cond, not, eqb, ltb, leb, List, [], ◌∷◌, Some, None, Ok, Err, codes, Option, Result, refl, arith}
use Rattle.std.proofs.lemmas.Bool.{cond_both}
use Rattle.theory.specs.First.{first}
use Rattle.theory.specs.Meaning.{Meaning}
use Rattle.theory.specs.Numbers.{joinings}
use Rattle.theory.specs.Operation.{ratio, ratios}
use Rattle.theory.specs.Power.{power}
use Rattle.theory.specs.declared.Ratio.{Ratio}
use Rattle.joining.specs.Ladder.{climbed}
use Rattle.joining.specs.Quotient.{quotient_of}
use Rattle.joining.specs.declared.Back.TheVariants.{Two}
use Rattle.joining.specs.declared.JoiningFault.{JoiningFault}
use Rattle.joining.specs.declared.JoiningFault.TheVariants.{NoInverse, NoRank}
use Rattle.refusals.specs.Fault.{refused_by}
use Rattle.refusals.specs.declared.Layer.TheVariants.{Search}
use Rattle.refusals.specs.declared.Refusal.{Refusal}
use Rattle.refusals.specs.declared.Refusal.TheVariants.{Size, Rest, Mark, Zero, NoSquare, Unlawful}
use Rattle.roots.specs.declared.factor.Factor.{Factor}
use Rattle.roots.specs.Rooting.{Steps, ended, fails_if, ordered, Roots, rooted_check, finished, matches, searched, from_search, climbed_two, squares, ends, begun, half, tested, with_fourth, rooted, answered}
use Rattle.roots.specs.State.{State, served, twos, odd}
use Rattle.roots.proofs.Searching.{factor_climb, searched_end, searched_fault, searched_over, searched_missed, searched_matched}
use Rattle.lists.specs.Texts.{step_text, noted}
use Rattle.lists.proofs.Plain.{Plain, plain_words, plain_noted}

-- What is refused has a step, if any, of one digit.
abbrev pub OneDigit : {A : Type 0} → Result A Refusal → Type 0
OneDigit (Err why) = Plain 7 (step_text why)
OneDigit (Ok a) = Unit {0}

-- no step, and a step below 10
none : Plain 7 []
none = plain_words 7 [] refl

step : (k : ℕ) → k < 10 → Plain 7 (noted (codes " step ") k)
step k low = plain_noted 6 1 (codes " step ") k refl (omega arith) (omega arith) (omega arith)

fault_digit : (fault : JoiningFault) → Plain 7 (step_text (refused_by fault))
fault_digit (NoInverse a) = step 6 (omega arith)
fault_digit (NoRank by code) =
    step (cond (eqb by 2) 3 4) (cond_both (eqb by 2) 3 4 (λ k. k < 10) (λ t. omega arith) (λ f. omega arith))

-- a check before some steps
fails_digit : {A : Type 0} (b : Bool) (why : Refusal) (n : ℕ) (steps : Steps A) → Plain 7 (step_text why) → OneDigit steps.outcome
    → OneDigit (fails_if b why n steps).outcome
fails_digit true why n steps here later = here
fails_digit false why n steps here later = later

module _ (m : Meaning) (mark : ℕ) where
  searched_digit : (g : ℕ) (held : List Factor) (serves : Bool) (n tests : ℕ) → OneDigit (searched m mark g held serves n tests).outcome
  searched_digit g [] serves n tests =
      rw searched_end
      (step (cond serves 5 4) (cond_both serves 5 4 (λ k. k < 10) (λ t. omega arith) (λ f. omega arith)))
  searched_digit g (h ∷ held) serves n tests = turn (factor_climb m mark g h) refl (searched_digit g held)
    where
      Here : Type 0
      Here = OneDigit (searched m mark g (h ∷ held) serves n tests).outcome

      Later : Type 0
      Later = (serves : Bool) (n tests : ℕ) → OneDigit (searched m mark g held serves n tests).outcome

      served_at : (x : Ratio) (made : ℕ) → factor_climb m mark g h ≡ Ok (Some x, made) → (o : Option ℕ)
          → first (matches m mark x h.zeta) 1 (h.r / 2) ≡ o → Later → Here
      served_at x made e None miss later =
          rw (searched_missed m mark g h held serves n tests x made e miss) (later true (n + made) (tests + h.r / 2))
      served_at x made e (Some j) match later = rw (searched_matched m mark g h held serves n tests x made j e match) tt

      found_at : (o : Option Ratio) (made : ℕ) → factor_climb m mark g h ≡ Ok (o, made) → Later → Here
      found_at None made e later = rw (searched_over m mark g h held serves n tests made e) (later serves (n + made) tests)
      found_at (Some x) made e later = served_at x made e (first (matches m mark x h.zeta) 1 (h.r / 2)) refl later

      turn : (r : Result (Option Ratio × ℕ) JoiningFault) → factor_climb m mark g h ≡ r → Later → Here
      turn (Err fault) e later = rw (searched_fault m mark g h held serves n tests fault e) (fault_digit fault)
      turn (Ok found) e later = found_at found.0 found.1 e later

  finished_digit : (g tests : ℕ) (e : Ratio) → OneDigit (finished m mark g tests e)
  finished_digit g tests e = from (quotient_of m e.top e.bottom)
    where
      from : (r : Result ℕ JoiningFault) → OneDigit (rooted_check m mark g tests r)
      from (Err fault) = fault_digit fault
      from (Ok root) =
          cond_both (eqb (m.product root root) mark) (Ok (ordered root (m.negative root), tests)) (Err (Unlawful Search 6 g)) OneDigit
          (λ t. tt) (λ f. step 6 (omega arith))

  from_search_digit : (g : ℕ) (steps : Steps (Ratio × ℕ)) → OneDigit steps.outcome → OneDigit (from_search m mark g steps).outcome
  from_search_digit g steps digit = from steps.outcome digit
    where
      from : (o : Result (Ratio × ℕ) Refusal) → OneDigit o → OneDigit (from_search m mark g (ended o steps.made)).outcome
      from (Err why) digit = digit
      from (Ok found) digit = finished_digit g found.1 found.0

  climbed_two_digit : (i : ℕ) (held : List Factor) (g n : ℕ) (r : Result (Option Ratio × ℕ) JoiningFault)
      → OneDigit (climbed_two m i held mark g n r).outcome
  climbed_two_digit i held g n (Err fault) = fault_digit fault
  climbed_two_digit i held g n (Ok found) = from found.0
    where
      from : (o : Option Ratio) → OneDigit (climbed_two m i held mark g n (Ok (o, found.1))).outcome
      from (Some e) = finished_digit g 0 (ratio (m.product e.top i) e.bottom)
      from None =
          from_search_digit g (searched m mark g held false (n + found.1) 0) (searched_digit g held false (n + found.1) 0)

  begun_digit : (i : ℕ) (s : State) (n : ℕ) (o : Option ℕ) → OneDigit (begun m i s mark n o).outcome
  begun_digit i s n None = step 2 (omega arith)
  begun_digit i s n (Some g) =
      cond_both (squares m mark g) _ _ (λ (steps : Steps Roots). OneDigit steps.outcome) (λ t. tt)
      (λ f. climbed_two_digit i s.factors g (n + g * joinings (2 * s.rest))
      (climbed (ratios m mark) g (odd m.size) 2 (twos m.size) Two))

  tested_digit : (i : ℕ) (s : State) → OneDigit (tested m i s mark).outcome
  tested_digit i s =
      fails_digit (not (eqb (power m mark (half m)) 1)) NoSquare (joinings (half m)) _ none
      (begun_digit i s (joinings (half m)) (first (ends m s.rest mark) 1 (2 * s.rest - 1)))

  with_fourth_digit : (s : State) (o : Option ℕ) → OneDigit (with_fourth m s mark o).outcome
  with_fourth_digit s None = none
  with_fourth_digit s (Some i) =
      fails_digit (ltb 1024 s.rest) Rest 0 _ none
      (fails_digit (leb m.size mark) Mark 0 _ none (fails_digit (eqb mark 0) Zero 0 _ none (tested_digit i s)))

answered_digit : (steps : Steps Roots) → OneDigit steps.outcome → OneDigit (answered steps)
answered_digit steps digit = from steps.outcome digit
  where
    from : (o : Result Roots Refusal) → OneDigit o → OneDigit (answered (ended o steps.made))
    from (Err why) digit = digit
    from (Ok found) digit = tt

-- Over every ring, whatever the plan holds.
pub rooted_digit : (m : Meaning) (s : State) (mark : ℕ) → OneDigit (answered (rooted m s mark))
rooted_digit m s mark =
    answered_digit (rooted m s mark)
    (fails_digit (not (served m.size)) Size 0 _ none (with_fourth_digit m mark s s.fourth))
