-- The counts that rooting answers have at most five digits, where the size is below 2 ^ 31.
use Rattle.std.proofs.Common.{◌≡◌, ℕ, ◌+◌, ◌-◌, ◌*◌, ◌^◌, ◌<◌, ◌≤◌, List, [], ◌∷◌, length, Ok, refl, subst, mul-le-mul, arith}
use Rattle.std.specs.List.{AllByRecursion}
use Rattle.theory.specs.Meaning.{Meaning, Laws}
use Rattle.theory.specs.Numbers.{bits}
use Rattle.theory.proofs.Bits.{bits_mono, bits_is}
use Rattle.roots.specs.declared.call.Call.{Call}
use Rattle.roots.specs.declared.factor.Factor.{Factor}
use Rattle.roots.specs.Laws.{ceiling, number_of, rest_of, most_tests}
use Rattle.roots.specs.Rooting.{rooted, answered}
use Rattle.roots.specs.Runs.{run}
use Rattle.roots.proofs.Fitting.{run_fits, run_few}
use Rattle.roots.proofs.Passed.{passed}
use Rattle.roots.proofs.Promises.{root_laws}
use Rattle.roots.proofs.Runs.{runs_keep}

-- a number below 2 ^ 31 has at most 31 digits, and one up to 1,024 at most 11
digits_31 : (k : ℕ) → k < 2147483648 → bits k ≤ 31
digits_31 k high = omega (arith, bits_mono k 2147483647 (omega arith), bits_is 30 2147483647 (omega arith) (omega arith) (omega arith))

digits_11 : (k : ℕ) → k ≤ 1024 → bits k ≤ 11
digits_11 k high = omega (arith, bits_mono k 1024 high, bits_is 10 1024 (omega arith) (omega arith) (omega arith))

-- the ceiling for so many digits, factors and so great a rest
ceiling_small : (l n t b : ℕ) → l ≤ 31 → n ≤ 8 → t ≤ 1024 → b ≤ 11 → 2 * (l - 1) * (n + 2) + 2 * (2 * t - 1) * b ≤ 45634
ceiling_small l n t b digits few small bits-few =
    let one : 2 * (l - 1) * (n + 2) ≤ 60 * 10 = mul-le-mul {n₂ = 60} {m₂ = 10} (omega arith) (omega arith) in
    let two : 2 * (2 * t - 1) * b ≤ 4094 * 11 = mul-le-mul {n₂ = 4094} {m₂ = 11} (omega arith) (omega arith) in
    omega arith

-- at most 2,047 tests for each factor
tests_small : (size : ℕ) (held : List Factor) → AllByRecursion (λ h. (h.r ≤ 4095) × (h.f < 2 ^ 16) × (h.zeta < size)) held → most_tests held ≤ 2047 * length held
tests_small size [] all = omega arith
tests_small size (h ∷ held) all = omega (arith, all.0.0, tests_small size held all.1)

-- After every list of calls: at most 45,634 joinings, and at most 16,376 tests.
pub root_digits : (m : Meaning) → Laws m → m.size ≤ 2147483647 → (calls : List Call) (mark a b made tests : ℕ)
    → answered (rooted m (run m calls) mark) ≡ Ok ((a, b), (made, tests)) → (made < 100000) × (tests < 100000)
root_digits m laws small calls mark a b made tests e =
    let s = run m calls in
    let kept = runs_keep m laws calls in
    let promised = root_laws m laws s mark (answered (rooted m s mark)) refl in
    let few : length s.factors ≤ 8 = run_few m laws calls in
    let rest : rest_of m calls ≤ 1024 = subst (λ t. t ≤ 1024) kept.rest (passed m s mark ((a, b), (made, tests)) e).rest in
    let number : number_of m calls ≤ 8 = subst (λ n. n ≤ 8) kept.number few in
    let most : ceiling m calls ≤ 45634 =
    ceiling_small (bits (m.size - 1)) (number_of m calls) (rest_of m calls) (bits (rest_of m calls))
    (digits_31 (m.size - 1) (omega arith)) number rest (digits_11 (rest_of m calls) rest) in (
      omega (arith, promised.counts calls refl a b made tests e),
      omega (arith, promised.tests a b made tests e, tests_small m.size s.factors (run_fits m laws calls)),
    )
