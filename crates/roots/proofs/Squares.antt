-- An accepted root squares to the mark, over every ring: the root is squared as a check, or was found by its square.
use Rattle.std.proofs.Common.{◌≡◌, ℕ, ◌+◌, ◌-◌, ◌*◌, Bool, true, false, not, eqb, ltb, leb, List, Some, None, Ok, Err, Option, Result, ap, ◌∙◌, subst}
use Rattle.std.proofs.lemmas.Bool.{eqb-true, cond_both}
use Rattle.theory.specs.First.{first}
use Rattle.theory.specs.Meaning.{Meaning, Laws}
use Rattle.theory.specs.Numbers.{joinings}
use Rattle.theory.specs.Operation.{ratio, ratios}
use Rattle.theory.specs.Power.{power}
use Rattle.theory.specs.declared.Ratio.{Ratio}
use Rattle.theory.proofs.Fields.{product_negatives}
use Rattle.joining.specs.Ladder.{climbed}
use Rattle.joining.specs.Quotient.{quotient_of}
use Rattle.joining.specs.declared.Back.TheVariants.{Two}
use Rattle.joining.specs.declared.JoiningFault.{JoiningFault}
use Rattle.refusals.specs.declared.Layer.TheVariants.{Search}
use Rattle.refusals.specs.declared.Refusal.{Refusal}
use Rattle.refusals.specs.declared.Refusal.TheVariants.{Size, Rest, Mark, Zero, NoSquare, Unlawful}
use Rattle.roots.specs.declared.factor.Factor.{Factor}
use Rattle.roots.specs.Laws.{RootSquares}
use Rattle.roots.specs.Rooting.{Steps, ended, fails_if, ordered, Roots, Answer, rooted_check, finished, searched, from_search, climbed_two, squares, ends, begun, half, tested, with_fourth, rooted, answered}
use Rattle.roots.specs.State.{State, served, twos, odd}
use Rattle.roots.proofs.Accepted.{ok_apart}

-- Both numbers square to the mark.
abbrev pub Both : Meaning → ℕ → ℕ × ℕ → Type 0
Both m mark pair = (m.product pair.0 pair.0 ≡ mark) × (m.product pair.1 pair.1 ≡ mark)

-- What some steps come to, if not refused, is two roots.
abbrev pub Good : Meaning → ℕ → Result Roots Refusal → Type 0
Good m mark (Err why) = Unit {0}
Good m mark (Ok found) = Both m mark found.0

module _ (m : Meaning) (laws : Laws m) (mark : ℕ) where
  ordered_good : (g : ℕ) → m.product g g ≡ mark → Both m mark (ordered g (m.negative g))
  ordered_good g e =
      let other : m.product (m.negative g) (m.negative g) ≡ mark = product_negatives m laws g g ∙ e in
      cond_both (ltb (m.negative g) g) (m.negative g, g) (g, m.negative g) (Both m mark) (λ t. (other, e)) (λ f. (e, other))

  rooted_check_good : (g tests : ℕ) (r : Result ℕ JoiningFault) → Good m mark (rooted_check m mark g tests r)
  rooted_check_good g tests (Err fault) = tt
  rooted_check_good g tests (Ok root) =
      cond_both (eqb (m.product root root) mark) (Ok (ordered root (m.negative root), tests)) (Err (Unlawful Search 6 g)) (Good m mark)
      (λ t. ordered_good root (eqb-true (m.product root root) mark t)) (λ f. tt)

  finished_good : (g tests : ℕ) (e : Ratio) → Good m mark (finished m mark g tests e)
  finished_good g tests e = rooted_check_good g tests (quotient_of m e.top e.bottom)

  from_search_good : (g : ℕ) (steps : Steps (Ratio × ℕ)) → Good m mark (from_search m mark g steps).outcome
  from_search_good g steps = from steps.outcome
    where
      from : (o : Result (Ratio × ℕ) Refusal) → Good m mark (from_search m mark g (ended o steps.made)).outcome
      from (Err why) = tt
      from (Ok found) = finished_good g found.1 found.0

  climbed_two_good : (i : ℕ) (factors : List Factor) (g n : ℕ) (r : Result (Option Ratio × ℕ) JoiningFault) → Good m mark (climbed_two m i factors mark g n r).outcome
  climbed_two_good i factors g n (Err fault) = tt
  climbed_two_good i factors g n (Ok found) = from found.0
    where
      from : (o : Option Ratio) → Good m mark (climbed_two m i factors mark g n (Ok (o, found.1))).outcome
      from (Some e) = finished_good g 0 (ratio (m.product e.top i) e.bottom)
      from None = from_search_good g (searched m mark g factors false (n + found.1) 0)

  begun_good : (i : ℕ) (s : State) (n : ℕ) (o : Option ℕ) → Good m mark (begun m i s mark n o).outcome
  begun_good i s n None = tt
  begun_good i s n (Some g) =
      cond_both (squares m mark g) _ _ (λ (steps : Steps Roots). Good m mark steps.outcome)
      (λ t. ordered_good g (eqb-true (m.product g g) mark t))
      (λ f. climbed_two_good i s.factors g (n + g * joinings (2 * s.rest))
      (climbed (ratios m mark) g (odd m.size) 2 (twos m.size) Two))

  fails_good : (b : Bool) (why : Refusal) (n : ℕ) (steps : Steps Roots) → Good m mark steps.outcome → Good m mark (fails_if b why n steps).outcome
  fails_good true why n steps good = tt
  fails_good false why n steps good = good

  tested_good : (i : ℕ) (s : State) → Good m mark (tested m i s mark).outcome
  tested_good i s =
      fails_good (not (eqb (power m mark (half m)) 1)) NoSquare (joinings (half m)) _
      (begun_good i s (joinings (half m)) (first (ends m s.rest mark) 1 (2 * s.rest - 1)))

  with_fourth_good : (s : State) (o : Option ℕ) → Good m mark (with_fourth m s mark o).outcome
  with_fourth_good s None = tt
  with_fourth_good s (Some i) =
      fails_good (ltb 1024 s.rest) Rest 0 _
      (fails_good (leb m.size mark) Mark 0 _ (fails_good (eqb mark 0) Zero 0 _ (tested_good i s)))

  -- What rooting comes to, if not refused, squares to the mark.
  pub rooted_good : (s : State) → Good m mark (rooted m s mark).outcome
  rooted_good s = fails_good (not (served m.size)) Size 0 _ (with_fourth_good s s.fourth)

pub root_squares : RootSquares
root_squares m laws s mark a b counts e = from (rooted m s mark).outcome (rooted_good m laws mark s) e
  where
    made : ℕ
    made = (rooted m s mark).made

    from : (o : Result Roots Refusal) → Good m mark o → answered (ended o made) ≡ Ok ((a, b), counts) → Both m mark (a, b)
    from (Err why) good e = absurd (ok_apart why ((a, b), counts) e)
    from (Ok found) good e =
        let same : ◌≡◌ {A = Answer} (found.0, (made, found.1)) ((a, b), counts) = cc in
        subst (Both m mark) (ap (λ (x : Answer). x.0) same) good
