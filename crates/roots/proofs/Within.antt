-- An accepted root is a number of the ring: it is a product, or one of the codes that step 2 tries, which are below the size.
use Rattle.std.proofs.Common.{◌≡◌, ℕ, ◌+◌, ◌-◌, ◌*◌, ◌<◌, ◌≤◌, Bool, true, false, not, eqb, ltb, List, Some, None, Ok, Err, Option, Result, sym, refl, ap, ◌∙◌, subst, arith}
use Rattle.std.proofs.lemmas.Bool.{cond_both}
use Rattle.theory.specs.First.{first}
use Rattle.theory.specs.Meaning.{Meaning, Laws, inverse}
use Rattle.theory.specs.Numbers.{joinings}
use Rattle.theory.specs.Operation.{ratio, ratios}
use Rattle.theory.specs.Power.{power}
use Rattle.theory.specs.declared.Ratio.{Ratio}
use Rattle.theory.proofs.Search.{first_found}
use Rattle.joining.specs.Ladder.{climbed}
use Rattle.joining.specs.Quotient.{quotient_by}
use Rattle.joining.specs.declared.Back.TheVariants.{Two}
use Rattle.joining.specs.declared.JoiningFault.{JoiningFault}
use Rattle.refusals.specs.declared.Layer.TheVariants.{Search}
use Rattle.refusals.specs.declared.Refusal.{Refusal}
use Rattle.refusals.specs.declared.Refusal.TheVariants.{NoSquare, Unlawful}
use Rattle.roots.specs.declared.factor.Factor.{Factor}
use Rattle.roots.specs.Laws.{RootWithin}
use Rattle.roots.specs.Rooting.{Steps, ended, fails_if, ordered, Roots, Answer, rooted_check, finished, searched, from_search, climbed_two, squares, ends, begun, half, tested, answered}
use Rattle.roots.specs.Runs.{run}
use Rattle.roots.specs.State.{State, twos, odd}
use Rattle.roots.proofs.Accepted.{ok_apart}
use Rattle.roots.proofs.Passed.{passed}
use Rattle.roots.proofs.Ready.{ready}
use Rattle.roots.proofs.Runs.{runs_keep}

-- Both numbers are below the size.
abbrev Both : Meaning → ℕ × ℕ → Type 0
Both m pair = (pair.0 < m.size) × (pair.1 < m.size)

-- What some steps come to, if not refused, is two numbers of the ring.
abbrev Inside : Meaning → Result Roots Refusal → Type 0
Inside m (Err why) = Unit {0}
Inside m (Ok found) = Both m found.0

module _ (m : Meaning) (laws : Laws m) (mark : ℕ) where
  ordered_inside : (g : ℕ) → g < m.size → Both m (ordered g (m.negative g))
  ordered_inside g below =
      let other : m.negative g < m.size = laws.negative_below g in
      cond_both (ltb (m.negative g) g) (m.negative g, g) (g, m.negative g) (Both m) (λ t. (other, below)) (λ f. (below, other))

  finished_inside : (g tests : ℕ) (e : Ratio) → Inside m (finished m mark g tests e)
  finished_inside g tests e = from (inverse m e.bottom)
    where
      from : (o : Option ℕ) → Inside m (rooted_check m mark g tests (quotient_by m e.top e.bottom o))
      from None = tt
      from (Some b) =
          let root = m.product e.top b in
          cond_both (eqb (m.product root root) mark) (Ok (ordered root (m.negative root), tests)) (Err (Unlawful Search 6 g)) (Inside m)
          (λ t. ordered_inside root (laws.product_below e.top b)) (λ f. tt)

  from_search_inside : (g : ℕ) (steps : Steps (Ratio × ℕ)) → Inside m (from_search m mark g steps).outcome
  from_search_inside g steps = from steps.outcome
    where
      from : (o : Result (Ratio × ℕ) Refusal) → Inside m (from_search m mark g (ended o steps.made)).outcome
      from (Err why) = tt
      from (Ok found) = finished_inside g found.1 found.0

  climbed_two_inside : (i : ℕ) (factors : List Factor) (g n : ℕ) (r : Result (Option Ratio × ℕ) JoiningFault)
      → Inside m (climbed_two m i factors mark g n r).outcome
  climbed_two_inside i factors g n (Err fault) = tt
  climbed_two_inside i factors g n (Ok found) = from found.0
    where
      from : (o : Option Ratio) → Inside m (climbed_two m i factors mark g n (Ok (o, found.1))).outcome
      from (Some e) = finished_inside g 0 (ratio (m.product e.top i) e.bottom)
      from None = from_search_inside g (searched m mark g factors false (n + found.1) 0)

  -- the codes 1 to 2t − 1 are below the size where 2t is no greater than it
  begun_inside : (i : ℕ) (s : State) (n : ℕ) → 2 * s.rest ≤ m.size → (o : Option ℕ) → first (ends m s.rest mark) 1 (2 * s.rest - 1) ≡ o
      → Inside m (begun m i s mark n o).outcome
  begun_inside i s n room None e = tt
  begun_inside i s n room (Some g) e =
      let found = first_found (ends m s.rest mark) 1 (2 * s.rest - 1) g e in
      let below : g < m.size = omega (arith, found.from, found.within) in
      cond_both (squares m mark g) _ _ (λ (steps : Steps Roots). Inside m steps.outcome)
      (λ t. ordered_inside g below)
      (λ f. climbed_two_inside i s.factors g (n + g * joinings (2 * s.rest))
      (climbed (ratios m mark) g (odd m.size) 2 (twos m.size) Two))

  tested_inside : (i : ℕ) (s : State) → 2 * s.rest ≤ m.size → Inside m (tested m i s mark).outcome
  tested_inside i s room =
      from (not (eqb (power m mark (half m)) 1))
      (begun_inside i s (joinings (half m)) room (first (ends m s.rest mark) 1 (2 * s.rest - 1)) refl)
    where
      rest : Steps Roots
      rest = begun m i s mark (joinings (half m)) (first (ends m s.rest mark) 1 (2 * s.rest - 1))

      from : (b : Bool) → Inside m rest.outcome → Inside m (fails_if b NoSquare (joinings (half m)) rest).outcome
      from true good = tt
      from false good = good

-- Over every ring, after every list of calls, an accepted root is below the size, and so is the other one.
pub root_within : RootWithin
root_within m laws calls mark a b counts e =
    let s = run m calls in
    let p = passed m s mark ((a, b), counts) e in
    let plan = ready m laws p.serves calls p.i (sym (runs_keep m laws calls).fourth ∙ p.fourth) in
    from p.i (tested m p.i s mark).outcome (tested_inside m laws mark p.i s plan.room) p.goes_on
  where
    from : (i : ℕ) (o : Result Roots Refusal) → Inside m o → answered (ended o (tested m i (run m calls) mark).made) ≡ Ok ((a, b), counts) → Both m (a, b)
    from i (Err why) good e = absurd (ok_apart why ((a, b), counts) e)
    from i (Ok found) good e =
        let made = (tested m i (run m calls) mark).made in
        let same : ◌≡◌ {A = Answer} (found.0, (made, found.1)) ((a, b), counts) = cc in
        subst (Both m) (ap (λ (x : Answer). x.0) same) good
