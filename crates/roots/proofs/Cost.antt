-- How many joinings rooting makes at most.
use Rattle.std.proofs.Common.{◌≡◌, ℕ, zero, suc, ◌+◌, ◌-◌, ◌*◌, ◌/◌, ◌^◌, ◌<◌, ◌≤◌, Bool, true, false, not, eqb, ltb, leb, List, [], ◌∷◌, length, Some, None, Ok, Err, Option, Result, refl, subst₂, le_of_eq, mul-le-mul_right, mul-le-mul_left, mul-zero, zero-mul, mul-suc, arith}
use Rattle.std.proofs.lemmas.Bool.{cond_both}
use Rattle.theory.specs.First.{first}
use Rattle.theory.specs.Meaning.{Meaning, Laws}
use Rattle.theory.specs.Numbers.{bits, joinings}
use Rattle.theory.specs.Operation.{ratios}
use Rattle.theory.specs.Power.{power}
use Rattle.theory.specs.declared.Ratio.{Ratio}
use Rattle.theory.proofs.Search.{first_found}
use Rattle.joining.specs.Ladder.{climbed, climb_joinings}
use Rattle.joining.specs.declared.Back.TheVariants.{One, Two}
use Rattle.joining.specs.declared.JoiningFault.{JoiningFault}
use Rattle.refusals.specs.declared.Refusal.{Refusal}
use Rattle.refusals.specs.declared.Refusal.TheVariants.{Size, Rest, Mark, Zero, NoSquare}
use Rattle.roots.specs.declared.factor.Factor.{Factor}
use Rattle.roots.specs.Laws.{AllOrders, held_power, RootCost}
use Rattle.roots.specs.Rooting.{Steps, fails_if, Roots, matches, searched, climbed_two, kept, squares, ends, begun, half, tested, with_fourth, rooted}
use Rattle.roots.specs.Runs.{run}
use Rattle.roots.specs.State.{State, served, twos, odd}
use Rattle.roots.proofs.ClimbCost.{span, climb_joinings_le, climbed_le, half_le, twice_le, two_fits, factor_fits}
use Rattle.roots.proofs.Runs.{runs_keep}
use Rattle.roots.proofs.Searching.{factor_climb, factor_joinings, searched_end, searched_fault, searched_over, searched_missed, searched_matched}

-- ---- the factors

-- a power that goes into a number above 0 fits in it, and so does what is left of the number
parts_fit : (a b n : ℕ) → 0 < a * b → a * b ≤ n → ((0 < a) × (a ≤ n)) × ((0 < b) × (b ≤ n))
parts_fit zero b n some fits = absurd (omega (arith, zero-mul b))
parts_fit (suc a) zero n some fits = absurd (omega (arith, mul-zero (suc a)))
parts_fit (suc a) (suc b) n some fits = (
  (omega arith, omega (arith, mul-le-mul_left {m = 1} {n = suc b} (suc a) (omega arith))),
  (omega arith, omega (arith, mul-le-mul_right {m = 1} {n = suc a} (suc b) (omega arith))),
)

-- one factor's joinings, and then those of the factors after it
one_more : (n made most rest total : ℕ) → made ≤ most → total ≤ n + made + most * rest → total ≤ n + most * suc rest
one_more n made most rest total one after = omega (arith, mul-suc most rest)

-- the clauses of the product of the held powers and of their orders, where they stay shut
held_power_cons : (h : Factor) (held : List Factor) → held_power (h ∷ held) ≡ h.r ^ h.f * held_power held
unfolding held_power
held_power_cons h held = refl

orders_cons : (m : Meaning) (h : Factor) (held : List Factor) → AllOrders m (h ∷ held) → (0 < h.r) × AllOrders m held
unfolding AllOrders
orders_cons m h held orders = (orders.0.1.some, orders.1)

module _ (m : Meaning) (laws : Laws m) (mark g : ℕ) where
  -- Steps 4 and 5 make at most one span for each factor.
  searched_le : (held : List Factor) → AllOrders m held → 0 < held_power held → held_power held ≤ m.size - 1
      → (serves : Bool) (n tests : ℕ) → (searched m mark g held serves n tests).made ≤ n + span m * length held
  searched_le [] orders some fits serves n tests = rw searched_end (omega arith)
  searched_le (h ∷ held) orders some fits serves n tests =
      let parts = parts_fit (h.r ^ h.f) (held_power held) (m.size - 1) (rw held_power_cons at some) (rw held_power_cons at fits) in
      let rest = orders_cons m h held orders in
      turn (factor_fits m laws h.r h.f rest.0 parts.0.1) (searched_le held rest.1 parts.1.0 parts.1.1) (factor_climb m mark g h) refl
    where
      Most : Type 0
      Most = (searched m mark g (h ∷ held) serves n tests).made ≤ n + span m * suc (length held)

      turn : joinings ((m.size - 1) / h.r ^ h.f) + h.f * joinings h.r ≤ span m
          → ((serves : Bool) (n tests : ℕ) → (searched m mark g held serves n tests).made ≤ n + span m * length held)
          → (r : Result (Option Ratio × ℕ) JoiningFault) → factor_climb m mark g h ≡ r → Most
      turn cost below (Err fault) e =
          rw (searched_fault m mark g h held serves n tests fault e)
          (one_more n (factor_joinings m mark g h) (span m) (length held) _ (climb_joinings_le (ratios m mark) g _ h.r h.f (span m) cost) (omega arith))
      turn cost below (Ok found) e = found_at found.0 e
        where
          one : found.1 ≤ span m
          one = climbed_le (ratios m mark) g _ h.r h.f (span m) cost One found e

          served_at : (x : Ratio) → factor_climb m mark g h ≡ Ok (Some x, found.1) → (o : Option ℕ) → first (matches m mark x h.zeta) 1 (h.r / 2) ≡ o → Most
          served_at x e None miss =
              rw (searched_missed m mark g h held serves n tests x found.1 e miss)
              (one_more n found.1 (span m) (length held) _ one (below true (n + found.1) (tests + h.r / 2)))
          served_at x e (Some j) match =
              rw (searched_matched m mark g h held serves n tests x found.1 j e match)
              (one_more n found.1 (span m) (length held) _ one (omega arith))

          found_at : (o : Option Ratio) → factor_climb m mark g h ≡ Ok (o, found.1) → Most
          found_at None e =
              rw (searched_over m mark g h held serves n tests found.1 e)
              (one_more n found.1 (span m) (length held) _ one (below serves (n + found.1) tests))
          found_at (Some x) e = served_at x e (first (matches m mark x h.zeta) 1 (h.r / 2)) refl

  -- Step 3 makes one span, and the factors after it.
  kept_le : (i : ℕ) (held : List Factor) → AllOrders m held → 0 < held_power held → held_power held ≤ m.size - 1
      → (n : ℕ) → (kept m i held mark g n).made ≤ n + span m * suc (length held)
  kept_le i held orders some fits n = turn (two_fits m laws) (climbed (ratios m mark) g (odd m.size) 2 (twos m.size) Two) refl
    where
      turn : joinings (odd m.size) + twos m.size * joinings 2 ≤ span m → (r : Result (Option Ratio × ℕ) JoiningFault)
          → climbed (ratios m mark) g (odd m.size) 2 (twos m.size) Two ≡ r → (climbed_two m i held mark g n r).made ≤ n + span m * suc (length held)
      turn cost (Err fault) e =
          one_more n (climb_joinings (ratios m mark) g (odd m.size) 2 (twos m.size)) (span m) (length held) _
          (climb_joinings_le (ratios m mark) g (odd m.size) 2 (twos m.size) (span m) cost) (omega arith)
      turn cost (Ok found) e = at found.0
        where
          one : found.1 ≤ span m
          one = climbed_le (ratios m mark) g (odd m.size) 2 (twos m.size) (span m) cost Two found e

          at : (o : Option Ratio) → (climbed_two m i held mark g n (Ok (o, found.1))).made ≤ n + span m * suc (length held)
          at (Some x) = one_more n found.1 (span m) (length held) _ one (omega arith)
          at None = one_more n found.1 (span m) (length held) _ one (searched_le held orders some fits false (n + found.1) 0)

-- ---- the steps before

-- What a plan's joinings go by: its orders, its powers and its rest fit the size less one.
pub record Within (m : Meaning) (s : State) : Type 0 where
  pub orders : AllOrders m s.factors
  pub some : 0 < held_power s.factors
  pub fits : held_power s.factors ≤ m.size - 1
  pub rest : s.rest ≤ m.size - 1

-- Step 2 tries at most 2t − 1 of the g.
tried : (j g t : ℕ) → g ≤ 2 * t - 1 → g * j ≤ (2 * t - 1) * j
tried j g t h = mul-le-mul_right j h

-- the steps together
total : (first span turns most b n made : ℕ) → first ≤ span → turns ≤ most * (2 * b) → made ≤ first + turns + span * suc n → made ≤ span * (n + 2) + 2 * most * b
total first span turns most b n made one two all = omega arith

module _ (m : Meaning) (laws : Laws m) (mark : ℕ) (s : State) (within : Within m s) where
  abbrev turns : ℕ
  turns = (2 * s.rest - 1) * joinings (2 * s.rest)

  abbrev after : ℕ
  after = span m * suc (length s.factors)

  begun_le : (i n : ℕ) (o : Option ℕ) → first (ends m s.rest mark) 1 (2 * s.rest - 1) ≡ o → (begun m i s mark n o).made ≤ n + turns + after
  begun_le i n None e = omega arith
  begun_le i n (Some g) e =
      let found = (first_found (ends m s.rest mark) 1 (2 * s.rest - 1) g e).within in
      let all : g * joinings (2 * s.rest) ≤ turns = tried (joinings (2 * s.rest)) g s.rest (omega arith) in
      let less : (g - 1) * joinings (2 * s.rest) ≤ turns = tried (joinings (2 * s.rest)) (g - 1) s.rest (omega arith) in
      cond_both (squares m mark g) _ _ (λ (steps : Steps Roots). steps.made ≤ n + turns + after)
      (λ t. omega arith)
      (λ f. omega (arith, kept_le m laws mark g i s.factors within.orders within.some within.fits (n + g * joinings (2 * s.rest))))

  fails_le : (b : Bool) (why : Refusal) (n most : ℕ) (steps : Steps Roots) → n ≤ most → steps.made ≤ most → (fails_if b why n steps).made ≤ most
  fails_le true why n most steps one more = one
  fails_le false why n most steps one more = more

  tested_le : (i : ℕ) → (tested m i s mark).made ≤ joinings (half m) + turns + after
  tested_le i =
      fails_le (not (eqb (power m mark (half m)) 1)) NoSquare (joinings (half m)) (joinings (half m) + turns + after) _ (omega arith)
      (begun_le i (joinings (half m)) (first (ends m s.rest mark) 1 (2 * s.rest - 1)) refl)

  with_fourth_le : (o : Option ℕ) → (with_fourth m s mark o).made ≤ joinings (half m) + turns + after
  with_fourth_le None = omega arith
  with_fourth_le (Some i) =
      let most = joinings (half m) + turns + after in
      fails_le (ltb 1024 s.rest) Rest 0 most _ (omega arith)
      (fails_le (leb m.size mark) Mark 0 most _ (omega arith) (fails_le (eqb mark 0) Zero 0 most _ (omega arith) (tested_le i)))

  rooted_steps_le : (rooted m s mark).made ≤ joinings (half m) + turns + after
  rooted_steps_le = fails_le (not (served m.size)) Size 0 _ _ (omega arith) (with_fourth_le s.fourth)

  -- Step 1 makes one span, and step 2 at most 2 × bits of t for each g.
  pub rooted_le : (rooted m s mark).made ≤ span m * (length s.factors + 2) + 2 * (2 * s.rest - 1) * bits s.rest
  rooted_le =
      let each : joinings (2 * s.rest) ≤ 2 * bits s.rest =
      twice_le s.rest (omega (arith, within.rest, laws.size_high)) in
      let two : turns ≤ (2 * s.rest - 1) * (2 * bits s.rest) = mul-le-mul_left (2 * s.rest - 1) each in
      total (joinings (half m)) (span m) turns (2 * s.rest - 1) (bits s.rest) (length s.factors) _ (half_le m) two rooted_steps_le

-- What a list of calls leaves is within the size less one.
kept_within : (m : Meaning) → Laws m → (s : State) → AllOrders m s.factors → 2 ^ twos m.size * (held_power s.factors * s.rest) ≡ m.size - 1 → Within m s
kept_within m laws s orders whole =
    let some : 0 < m.size - 1 = omega (arith, laws.size_low) in
    let outer = parts_fit (2 ^ twos m.size) (held_power s.factors * s.rest) (m.size - 1) (rw whole some) (le_of_eq whole) in
    let inner = parts_fit (held_power s.factors) s.rest (m.size - 1) outer.1.0 outer.1.1 in
    record { orders = orders; some = inner.0.0; fits = inner.0.1; rest = inner.1.1 }

-- After every list of calls rooting makes no more joinings than the ceiling, for every mark.
pub root_cost : RootCost
root_cost m laws calls mark =
    let keeps = runs_keep m laws calls in
    let most = rooted_le m laws mark (run m calls) (kept_within m laws (run m calls) keeps.orders keeps.whole) in
    subst₂ (λ (n t : ℕ). (rooted m (run m calls) mark).made ≤ span m * (n + 2) + 2 * (2 * t - 1) * bits t) keeps.number keeps.rest most
