-- What is held after any list of calls is small: at most eight factors, each of a small r and a small f, and numbers of the ring.
use Rattle.std.proofs.Common.{◌≡◌, ℕ, zero, suc, ◌-◌, ◌^◌, ◌<◌, ◌≤◌, true, List, [], ◌∷◌, length, Some, sym, ◌∙◌, ⊎_elim, mul_comm, arith, lit<, length-append, pow_mono}
use native.Mathlib.Nat.{pow-le-pow_left}
use Rattle.std.proofs.ByRecursion.{All-push}
use Rattle.std.proofs.lemmas.Bool.{cases_lt}
use Rattle.std.specs.List.{AllByRecursion}
use Rattle.theory.specs.Meaning.{Meaning, Laws}
use Rattle.theory.proofs.Divisors.{divides_bound, divisor_positive}
use Rattle.theory.proofs.Fields.{zero_product, negative_positive}
use Rattle.theory.proofs.PowerLaws.{one_below}
use Rattle.roots.specs.declared.call.Call.{Call}
use Rattle.roots.specs.declared.factor.Factor.{Factor}
use Rattle.roots.specs.Drafts.{factor, holding, giving}
use Rattle.roots.specs.Runs.{run}
use Rattle.roots.specs.State.{State, served, twos, odd, start}
use Rattle.roots.proofs.Accepted.{Adds}
use Rattle.roots.proofs.Divisions.{size_parted, odd_some}
use Rattle.roots.proofs.Keeping.{run_keeps}
use Rattle.roots.proofs.Runs.{runs_keep}

abbrev SmallFactor : Meaning → Factor → Type 0
SmallFactor m h = (h.r ≤ 4095) × (h.f < 2 ^ 16) × (h.zeta < m.size)

record Small (m : Meaning) (s : State) : Type 0 where
  pub some : 0 < s.rest
  pub high : s.rest < 2 ^ 62
  pub few : length s.factors ≤ 8
  pub each : AllByRecursion (SmallFactor m) s.factors

-- a power of a base above 1 that is below 2 ^ 62 has an exponent below 62
exponent_small : (r f : ℕ) → 2 ≤ r → r ^ f < 2 ^ 62 → f < 62
exponent_small r f low high =
    let least : 2 ^ f ≤ r ^ f = pow-le-pow_left low f in
    ⊎_elim (λ (h : f < 62). h) (λ (h : 62 ≤ f). let more : 2 ^ 62 ≤ 2 ^ f = pow_mono h in absurd (omega arith)) (cases_lt f 62)

start_small : (m : Meaning) → Laws m → Small m (start m.size)
start_small m laws =
    let high : m.size < 2 ^ 64 = omega (arith, laws.size_high) in
    let part : odd m.size ≤ m.size - 1 =
    divides_bound (odd m.size) (m.size - 1) (omega (arith, laws.size_low)) (2 ^ twos m.size, (size_parted m.size laws.size_low high).whole) in
    record {
      some = odd_some m.size laws.size_low high;
      high = omega (arith, laws.size_high);
      few = omega arith;
      each = tt;
    }

holding_small : (m : Meaning) (s : State) (r f z left : ℕ) → Adds m s r f z left → Small m s → Small m (holding s r f z left)
holding_small m s r f z left adds small =
    let whole = adds.fits.whole in
    let rest : left ≤ s.rest = divides_bound left s.rest small.some (r ^ f, whole ∙ mul_comm left (r ^ f)) in
    let power : r ^ f ≤ s.rest = divides_bound (r ^ f) s.rest small.some (left, whole) in
    let exponent : f < 62 = exponent_small r f (omega (arith, adds.fits.good.low)) (omega (arith, small.high)) in
    record {
      some = divisor_positive left s.rest small.some (r ^ f, whole ∙ mul_comm left (r ^ f));
      high = omega (arith, small.high);
      few = omega (arith, length-append s.factors (factor r f z ∷ []), adds.fits.room);
      each =
          All-push (SmallFactor m) s.factors (factor r f z) small.each
          (adds.fits.good.high, omega arith, adds.below);
    }

giving_small : (m : Meaning) (s : State) (i : ℕ) → served m.size ≡ true → Small m s → Small m (giving s i)
giving_small m s i serves small = record { some = small.some; high = small.high; few = small.few; each = small.each }

run_small : (m : Meaning) → Laws m → (calls : List Call) → Small m (run m calls)
run_small m laws calls =
    run_keeps m laws (Small m) (holding_small m) (giving_small m) (start m.size) calls (start_small m laws)

-- Each r is at most 4,095, each f fits 16 bits, and each ζ is below the size.
pub run_fits : (m : Meaning) → Laws m → (calls : List Call) → AllByRecursion (λ h. (h.r ≤ 4095) × (h.f < 2 ^ 16) × (h.zeta < m.size)) (run m calls).factors
run_fits m laws calls = (run_small m laws calls).each

-- At most eight factors are held.
pub run_few : (m : Meaning) → Laws m → (calls : List Call) → length (run m calls).factors ≤ 8
run_few m laws calls = (run_small m laws calls).few

-- The fourth root is not 0: 0 squares to 0, and the negative of 1 is above 0.
pub fourth_some : (m : Meaning) → Laws m → (calls : List Call) (i : ℕ) → (run m calls).fourth ≡ Some i → (0 < i) × (i < m.size)
fourth_some m laws calls i e = let root = (runs_keep m laws calls).squares i e in (above i root.1, root.0)
  where
    above : (j : ℕ) → m.product j j ≡ m.negative 1 → 0 < j
    above zero is =
        absurd (omega (arith, sym (zero_product m laws 0) ∙ is, negative_positive m laws 1 (lit< tt) (one_below m laws)))
    above (suc j) is = omega arith
