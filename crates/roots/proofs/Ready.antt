-- What a plan over a served size has that holds a fourth root, whatever calls made it.
use Rattle.std.proofs.Common.{◌≡◌, ℕ, suc, ◌-◌, ◌*◌, ◌^◌, ◌<◌, ◌≤◌, true, List, Some, sym, ◌∙◌, mul_comm, arith, lit<}
use native.Mathlib.Nat.{one-le-pow, eq_of_mul-eq-mul_left}
use Rattle.theory.specs.Meaning.{Meaning, Laws}
use Rattle.theory.proofs.Divisors.{divides_bound, divisor_positive}
use Rattle.theory.proofs.Lists.{All}
use Rattle.roots.specs.declared.call.Call.{Call}
use Rattle.roots.specs.Laws.{Kept, AllApart, held_power, fourth_of}
use Rattle.roots.specs.Runs.{run}
use Rattle.roots.specs.State.{State, served, twos, odd}
use Rattle.roots.proofs.Divisions.{Parted, size_parted, odd_some, twos_served}
use Rattle.roots.proofs.Held.{Holds, held_holds}
use Rattle.roots.proofs.Runs.{runs_keep}
use Rattle.roots.proofs.Sizes.{eightfold}

pub record Ready (m : Meaning) (s : State) (i : ℕ) : Type 0 where
  -- the fourth root, and what is held
  pub fourth : s.fourth ≡ Some i
  pub minus : m.product i i ≡ m.negative 1
  pub holds : All (Holds m) s.factors
  pub apart : AllApart s.factors
  -- size − 1 = 2 ^ (e + 1) × odd, and the held powers with the rest make up the odd part
  pub e : ℕ
  pub twos_is : twos m.size ≡ suc e
  pub parts : m.size - 1 ≡ 2 ^ twos m.size * odd m.size
  pub odd_is : odd m.size ≡ held_power s.factors * s.rest
  -- the rest is above 0, and its double is no greater than the size
  pub some : 0 < s.rest
  pub room : 2 * s.rest ≤ m.size

pub ready : (m : Meaning) → Laws m → served m.size ≡ true → (calls : List Call) (i : ℕ) → fourth_of m calls ≡ Some i
    → Ready m (run m calls) i
ready m laws serves calls i given = record {
  fourth = fourth;
  minus = (kept.squares i fourth).1;
  holds =
      held_holds m (twos m.size) s.rest (odd m.size) s.factors parts.whole parts.stops
      (odd_is ∙ mul_comm (held_power s.factors) s.rest) kept.orders;
  apart = kept.apart;
  e = twos m.size - 1;
  twos_is = omega (arith, three);
  parts = parts.whole;
  odd_is = odd_is;
  some = some;
  room = omega (arith, eightfold m.size low high serves, small);
}
  where
    s : State
    s = run m calls

    kept : Kept m calls s
    kept = runs_keep m laws calls

    fourth : s.fourth ≡ Some i
    fourth = kept.fourth ∙ given

    low : 1 < m.size
    low = laws.size_low

    high : m.size < 2 ^ 64
    high = omega (arith, laws.size_high)

    parts : Parted 2 (m.size - 1) (twos m.size) (odd m.size)
    parts = size_parted m.size low high

    three : 3 ≤ twos m.size
    three = twos_served m.size low high serves

    odd_is : odd m.size ≡ held_power s.factors * s.rest
    odd_is =
        eq_of_mul-eq-mul_left (2 ^ twos m.size) (one-le-pow (twos m.size) 2 (lit< tt))
        (odd m.size) (held_power s.factors * s.rest)
        (sym parts.whole ∙ sym kept.whole)

    -- the rest goes into the odd part
    small : s.rest ≤ odd m.size
    small = divides_bound s.rest (odd m.size) (odd_some m.size low high) (held_power s.factors, odd_is)

    some : 0 < s.rest
    some = divisor_positive s.rest (odd m.size) (odd_some m.size low high) (held_power s.factors, odd_is)
