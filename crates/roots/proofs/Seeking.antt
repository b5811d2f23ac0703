-- Seeking finds what there is: a number of prime order while the cofactor is at most 4,094, a fourth root while the odd part is at most 2,047.
use Rattle.std.proofs.Common.{◌≡◌, ℕ, zero, suc, ◌-◌, ◌*◌, ◌%◌, ◌^◌, ◌<◌, ◌≤◌, List, Some, None, Option, sym, ap, ◌∙◌, subst, mul_assoc, mul-le-mul, one-mul, pow-suc, arith}
use native.Mathlib.Nat.{one-le-pow, pow-zero}
use Rattle.theory.specs.First.{first_some}
use Rattle.theory.specs.Meaning.{Meaning, Laws, Lawful}
use Rattle.theory.specs.Numbers.{Divides}
use Rattle.theory.specs.Power.{power}
use Rattle.theory.proofs.Divisors.{divides_multiple}
use Rattle.theory.proofs.Euler.{fermat}
use Rattle.theory.proofs.RootCount.{power_escapes}
use Rattle.theory.proofs.Search.{some_apart, first_some_fails}
use Rattle.roots.specs.declared.call.Call.{Call}
use Rattle.roots.specs.Drafts.{leads, leads_fourth, tries}
use Rattle.roots.specs.Laws.{SeekFound, SeekFourthFound, held_power}
use Rattle.roots.specs.Runs.{run}
use Rattle.roots.specs.State.{State, multiplicity, cofactor, twos, odd}
use Rattle.roots.proofs.Accepted.{Fits}
use Rattle.roots.proofs.Divisions.{Parted, parted, parted_is, cofactor_some, size_parted, odd_some}
use Rattle.roots.proofs.Leads.{leads_found, leads_fourth_found}
use Rattle.roots.proofs.Runs.{runs_keep}
use Rattle.roots.proofs.Sizes.{served_odd, eightfold}
use Rattle.roots.proofs.Unfound.{unfound, unfound_fourth}

-- In a lawful field of odd size, where every code from 1 on whose power k is not 1 leads somewhere: the search finds something,
-- if it tries k + 1 codes.
searching : (m : Meaning) → Laws m → Lawful m → m.size % 2 ≡ 1 → (leading : ℕ → Option ℕ) (k : ℕ) → 0 < k → k < tries m
    → ((g : ℕ) → power m g (m.size - 1) ≡ 1 → (power m g k ≡ 1 → ⊥) → (z : ℕ) × (leading g ≡ Some z))
    → first_some leading 1 (tries m) ≡ None → ⊥
searching m laws lawful uneven leading k some room leads-on none =
    let found = power_escapes m laws lawful k some suc (λ i j h g e. omega arith) (λ i h. omega arith) in
    let g = suc found.0 in
    let led = leads-on g (fermat m laws lawful uneven g (omega arith) (omega (arith, found.1))) found.2 in
    both (leading g) led.0 led.1 (first_some_fails leading 1 (tries m) none g (omega arith) (omega (arith, found.1)))
  where
    both : (o : Option ℕ) (z : ℕ) → o ≡ Some z → o ≡ None → ⊥
    both o z some none = some_apart z (sym some ∙ none)

-- where r goes into n it has a multiplicity above 0, so that n is at least three times the cofactor
thrice : (r n F u : ℕ) → 3 ≤ r → Parted r n F u → Divides r n → 3 * u ≤ n
thrice r n zero u low parts goes =
    absurd (parts.stops (subst (Divides r) (parts.whole ∙ ap (λ x. x * u) (pow-zero r) ∙ one-mul u) goes))
thrice r n (suc F) u low parts goes =
    let once : 1 ≤ r ^ F = one-le-pow F r (omega arith) in
    let three : 1 * 3 ≤ r ^ F * r = mul-le-mul once low in
    let more : 3 * u ≤ r ^ suc F * u = mul-le-mul (subst (◌≤◌ 3) (sym (pow-suc r F)) three) (omega arith) in
    subst (λ x. 3 * u ≤ x) (sym parts.whole) more

-- what a call took out of the rest goes into the size less one
goes_in : (m : Meaning) → Laws m → (calls : List Call) (r f left : ℕ) → Fits m (run m calls) r f left → Divides r (m.size - 1)
goes_in m laws calls r f left fits = from f fits.some fits.whole
  where
    s : State
    s = run m calls

    from : (f : ℕ) → 0 < f → s.rest ≡ left * r ^ f → Divides r (m.size - 1)
    from zero some rest = absurd (omega arith)
    from (suc f) some rest =
        let once : s.rest ≡ left * r ^ f * r = rest ∙ ap (◌*◌ left) (pow-suc r f) ∙ sym (mul_assoc left (r ^ f) r) in
        subst (Divides r) (runs_keep m laws calls).whole
        (divides_multiple r (held_power s.factors * s.rest) (2 ^ twos m.size)
        (divides_multiple r s.rest (held_power s.factors) (left * r ^ f, once)))

-- Seeking an odd prime r is never refused as unfound while the cofactor is at most 4,094.
pub seek_found : SeekFound
seek_found m laws lawful calls r f prime uneven F u whole stops few refused =
    let (fits, none) = unfound m (run m calls) r f refused in
    finds fits.0 fits.1 none
  where
    n : ℕ
    n = m.size - 1

    some : 0 < n
    some = omega (arith, laws.size_low)

    high : n < 2 ^ 64
    high = omega (arith, laws.size_high)

    above : 1 < r
    above = prime.above_one

    parts : Parted r n (multiplicity r n) (cofactor r n)
    parts = parted r n above some high

    same : cofactor r n ≡ u
    same = (parted_is r n F u above some high (record { whole = whole; stops = stops })).1

    finds : (left : ℕ) → Fits m (run m calls) r f left → first_some (leads m r) 1 (tries m) ≡ None → ⊥
    finds left fits none =
        let low : 3 ≤ r = fits.good.low in
        let third : 3 * cofactor r n ≤ n = thrice r n (multiplicity r n) (cofactor r n) low parts (goes_in m laws calls r f left fits) in
        let positive : 0 < cofactor r n = cofactor_some r n above some high in
        searching m laws lawful (served_odd m.size fits.serves) (leads m r) (cofactor r n) positive
        (omega (arith, same))
        (λ g one other. leads_found m laws lawful r g prime parts.whole one other) none

-- Seeking a fourth root never is, while the odd part is at most 2,047.
pub seek_fourth_found : SeekFourthFound
seek_fourth_found m laws lawful calls few refused =
    let (serves, none) = unfound_fourth m (run m calls) refused in
    let low : 1 < m.size = laws.size_low in
    let high : m.size < 2 ^ 64 = omega (arith, laws.size_high) in
    let parts = size_parted m.size low high in
    let positive : 0 < odd m.size = odd_some m.size low high in
    let eighth : 8 * odd m.size ≤ m.size - 1 = eightfold m.size low high serves in
    searching m laws lawful (served_odd m.size serves) (leads_fourth m) (2 * odd m.size) (omega arith) (omega arith)
    (λ g one other. leads_fourth_found m laws lawful g parts.whole one other) none
