-- Rooting is exact over every lawful field of a served size:
-- a mark without root is refused as no square, and any other comes to its two roots.
use Rattle.std.proofs.Common.{◌≡◌, ℕ, suc, ◌+◌, ◌-◌, ◌*◌, ◌%◌, ◌^◌, ◌<◌, ◌≤◌, Bool, true, false, not, eqb, leb, ◌⊎◌, Some, Option, Result, sym, refl, ap, ◌∙◌, subst, inl, inr, arith}
use Rattle.std.proofs.lemmas.Bool.{both_ways, eqb-true, eqb-false, ne_eqb, le-ltb, lt-leb, or_cases, not-true, not_from_true, not_from_false, cond_both}
use Rattle.theory.specs.First.{first}
use Rattle.theory.specs.Meaning.{Meaning, Laws, Lawful}
use Rattle.theory.specs.Numbers.{joinings}
use Rattle.theory.specs.Operation.{pow, ratio, ratios}
use Rattle.theory.specs.Power.{power}
use Rattle.theory.specs.declared.Ratio.{Ratio}
use Rattle.theory.proofs.Images.{Image}
use Rattle.theory.proofs.Search.{Least}
use Rattle.joining.specs.declared.JoiningFault.{JoiningFault}
use Rattle.refusals.specs.declared.Refusal.{Refusal}
use Rattle.refusals.specs.declared.Refusal.TheVariants.{Size, Rest, Mark, Zero, NoSquare}
use Rattle.roots.specs.Laws.{RootExact, Exact, held_power}
use Rattle.roots.specs.Rooting.{Steps, Roots, ended, fails_if, searched, from_search, climbed_two, kept, squares, ends, begun, half, tested, with_fourth, rooted, answered}
use Rattle.roots.specs.Runs.{run}
use Rattle.roots.specs.State.{State, served, odd}
use Rattle.roots.proofs.Ready.{Ready, ready}
use Rattle.roots.proofs.Runs.{runs_keep}
use Rattle.roots.proofs.Serving.{Finds, search_finds}
use Rattle.roots.proofs.Sizes.{served_odd}
use Rattle.roots.proofs.StepFour.{some_serves}
use Rattle.roots.proofs.StepOne.{First, first_step}
use Rattle.roots.proofs.StepSix.{Reaches, finishes}
use Rattle.roots.proofs.StepThree.{Third, third}
use Rattle.roots.proofs.StepTwo.{image_of, search_ends}
use Rattle.roots.proofs.TwoRoots.{reached_exact}

-- A search that finds what stands for a root reaches the root.
search_reaches : (m : Meaning) → Laws m → Lawful m → (mark g : ℕ) (steps : Steps (Ratio × ℕ)) → Finds m mark steps
    → Reaches m mark (from_search m mark g steps).outcome
search_reaches m laws lawful mark g steps found =
    subst (λ (r : Result (Ratio × ℕ) Refusal). Reaches m mark (from_search m mark g (ended r steps.made)).outcome) (sym found.is)
    (finishes m laws lawful mark g found.tests found.found found.stands)

-- What a mark with a root α comes to.
module _ (m : Meaning) (laws : Laws m) (lawful : Lawful m) (uneven : m.size % 2 ≡ 1)
    (s : State) (i : ℕ) (plan : Ready m s i) (mark : ℕ) (some : 0 < mark) (small : mark < m.size)
    (α : ℕ) (square : m.product α α ≡ mark) where
  -- Steps 3 to 6, for a g whose square is not the mark and whose power 2t is not spent.
  kept_reaches : (g n : ℕ) (image : Image m α mark g) → (power m image.h (2 * s.rest) ≡ 1 → ⊥)
      → Reaches m mark (kept m i s.factors mark g n).outcome
  kept_reaches g n image other = from (third m laws lawful uneven α mark g image i plan.minus small plan.parts)
    where
      goes : Result (Option Ratio × ℕ) JoiningFault → Type 0
      goes r = Reaches m mark (climbed_two m i s.factors mark g n r).outcome

      whole : m.size - 1 ≡ 2 ^ suc plan.e * (held_power s.factors * s.rest)
      whole = plan.parts ∙ ap (λ x. 2 ^ x * odd m.size) plan.twos_is ∙ ap (λ x. 2 ^ suc plan.e * x) plan.odd_is

      from : Third m laws lawful uneven α mark g image i → Reaches m mark (kept m i s.factors mark g n).outcome
      from (inl (made, one, is)) =
          let found = search_finds m laws lawful uneven α mark g square small image s.factors plan.holds
          (some_serves m laws image.h s.rest plan.e s.factors plan.holds plan.apart whole
          (ap (λ x. power m image.h (2 * x)) (sym plan.odd_is) ∙ one) other) false (n + made) 0 in
          subst goes (sym is) (search_reaches m laws lawful mark g (searched m mark g s.factors false (n + made) 0) found)
      from (inr (e, made, stands, is)) = subst goes (sym is) (finishes m laws lawful mark g 0 _ stands)

  -- Steps 2 to 6.
  begun_reaches : (n : ℕ) → Reaches m mark (begun m i s mark n (first (ends m s.rest mark) 1 (2 * s.rest - 1))).outcome
  begun_reaches n = from (search_ends m laws lawful uneven α mark square (λ e. omega arith) s.rest plan.some plan.room)
    where
      t : ℕ
      t = s.rest

      at : (g : ℕ) → Least (ends m t mark) 1 (2 * t - 1) g → Reaches m mark (begun m i s mark n (Some g)).outcome
      at g least =
          cond_both (squares m mark g) _ _ (λ (steps : Steps Roots). Reaches m mark steps.outcome)
          (λ squares-it. record {
            root = g;
            tests = 0;
            below = below;
            square = eqb-true (m.product g g) mark squares-it;
            is = refl;
          })
          (λ apart.
          let image = image_of m laws lawful uneven α mark square (λ e. omega arith) g below (eqb-false (m.product g g) mark apart) in
          kept_reaches g (n + g * joinings (2 * t)) image
          (λ one. unspent apart (or_cases (squares m mark g) _ least.passes) ((image.spent_exactly (2 * t)).1 one)))
        where
          below : g < m.size
          below = omega (arith, least.within, plan.room, plan.some)

          spent : Bool
          spent = (ratios m mark).spent (pow (ratios m mark) (ratio g 1) (2 * t))

          -- g ended the search, and not by its square
          unspent : squares m mark g ≡ false → (squares m mark g ≡ true) ⊎ (not spent ≡ true) → spent ≡ true → ⊥
          unspent apart (inl squares-it) is = both_ways (squares m mark g) apart squares-it
          unspent apart (inr ended-it) is = both_ways spent (not-true spent ended-it) is

      from : (g : ℕ) × (first (ends m t mark) 1 (2 * t - 1) ≡ Some g) × Least (ends m t mark) 1 (2 * t - 1) g
          → Reaches m mark (begun m i s mark n (first (ends m t mark) 1 (2 * t - 1))).outcome
      from (g, found, least) = subst (λ (o : Option ℕ). Reaches m mark (begun m i s mark n o).outcome) (sym found) (at g least)

-- Every mark, on a plan that is ready for it.
tested_exact : (m : Meaning) → Laws m → Lawful m → m.size % 2 ≡ 1 → (s : State) (i : ℕ) → Ready m s i → (mark : ℕ) → 0 < mark → mark < m.size
    → Exact m mark (answered (tested m i s mark))
tested_exact m laws lawful uneven s i plan mark some small = from (first_step m laws lawful uneven mark some small)
  where
    rest : Steps Roots
    rest = begun m i s mark (joinings (half m)) (first (ends m s.rest mark) 1 (2 * s.rest - 1))

    goes : Bool → Type 0
    goes b = Exact m mark (answered (fails_if b NoSquare (joinings (half m)) rest))

    from : First m mark → Exact m mark (answered (tested m i s mark))
    from (inl (fails, none)) = subst goes (sym (not_from_false _ fails)) (inl (none, refl))
    from (inr (passes, (α, below, square))) =
        subst goes (sym (not_from_true _ passes))
        (reached_exact m laws lawful uneven mark some rest
        (begun_reaches m laws lawful uneven s i plan mark some small α square (joinings (half m))))

-- The checks before the steps pass.
passes_on : (m : Meaning) (s : State) (i mark : ℕ) → served m.size ≡ true → s.fourth ≡ Some i → s.rest ≤ 1024 → 0 < mark → mark < m.size
    → rooted m s mark ≡ tested m i s mark
passes_on m s i mark serves fourth few some small =
    ap (λ b. fails_if b Size 0 (with_fourth m s mark s.fourth)) (not_from_true _ serves)
    ∙ ap (with_fourth m s mark) fourth
    ∙ ap (λ b. fails_if b Rest 0 (fails_if (leb m.size mark) Mark 0 (fails_if (eqb mark 0) Zero 0 (tested m i s mark))))
    (le-ltb 1024 s.rest few)
    ∙ ap (λ b. fails_if b Mark 0 (fails_if (eqb mark 0) Zero 0 (tested m i s mark))) (lt-leb m.size mark small)
    ∙ ap (λ b. fails_if b Zero 0 (tested m i s mark)) (ne_eqb mark 0 (λ e. omega arith))

-- Over every lawful field of a served size, after every list of calls that leaves a fourth root and a rest up to 1,024, rooting is exact.
pub root_exact : RootExact
root_exact m laws lawful serves calls i given few mark some small =
    let s = run m calls in
    let plan = ready m laws serves calls i given in
    subst (λ (steps : Steps Roots). Exact m mark (answered steps))
    (sym (passes_on m s i mark serves plan.fourth (subst (λ x. x ≤ 1024) (sym (runs_keep m laws calls).rest) few) some small))
    (tested_exact m laws lawful (served_odd m.size serves) s i plan mark some small)
