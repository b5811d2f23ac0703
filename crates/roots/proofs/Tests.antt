-- What the computed tests of a draft's calls mean: each passes exactly where what it tests is so.
use Rattle.std.proofs.Common.{◌≡◌, ℕ, zero, suc, ◌*◌, ◌/◌, ◌%◌, ◌<◌, ◌≤◌, Bool, true, ◌&&◌, eqb, leb, List, [], ◌∷◌, Some, None, Option, sym, refl, ap, ◌∙◌, subst, mod-lt, zero-lt-suc, div-add-mod', arith}
use native.Mathlib.Nat.{mod-eq-sub-div-mul}
use Rattle.std.proofs.lemmas.Bool.{true≢false, eqb-true, eqb-false, eq-eqb, ne_eqb, leb-true, le-leb, and_parts, and_from}
use Rattle.theory.specs.First.{first}
use Rattle.theory.specs.Meaning.{Meaning}
use Rattle.theory.specs.Numbers.{Divides, Coprime}
use Rattle.theory.specs.Power.{power, Order}
use Rattle.theory.proofs.Divisors.{divides_self, divides_zero, divides_sum, divides_difference, divides_multiple, divides_one}
use Rattle.theory.proofs.Search.{Least, first_found, first_is}
use Rattle.roots.specs.declared.factor.Factor.{Factor}
use Rattle.roots.specs.Checks.{base, gcd_in, gcd, apart, order_at, order_is, fourth_is}
use Rattle.roots.specs.Laws.{ApartFrom}

-- ---- r

-- The r that are let in: odd, from 3 to 4,095.
pub record Base (r : ℕ) : Type 0 where
  pub uneven : r % 2 ≡ 1
  pub low : 3 ≤ r
  pub high : r ≤ 4095

pub base_means : (r : ℕ) → base r ≡ true → Base r
base_means r t =
    let one = and_parts (eqb (r % 2) 1) (leb 3 r && leb r 4095) t in
    let two = and_parts (leb 3 r) (leb r 4095) one.1 in
    record {
      uneven = eqb-true (r % 2) 1 one.0;
      low = leb-true 3 r two.0;
      high = leb-true r 4095 two.1;
    }

pub base_passes : (r : ℕ) → Base r → base r ≡ true
base_passes r b =
    and_from (eqb (r % 2) 1) (leb 3 r && leb r 4095) (eq-eqb (r % 2) 1 b.uneven)
    (and_from (leb 3 r) (leb r 4095) (le-leb 3 r b.low) (le-leb r 4095 b.high))

-- ---- the greatest common divisor

-- g goes into a and b, and each number that does so goes into g.
pub record Greatest (a b g : ℕ) : Type 0 where
  pub left : Divides g a
  pub right : Divides g b
  pub greatest : (d : ℕ) → Divides d a → Divides d b → Divides d g

greatest_zero : (a : ℕ) → Greatest a 0 a
greatest_zero a = record { left = divides_self a; right = divides_zero a; greatest = λ d h g. h }

-- one of Euclid's divisions
greatest_step : (a b g : ℕ) → Greatest b (a % b) g → Greatest a b g
greatest_step a b g below = record {
  left =
      subst (Divides g) (div-add-mod' a b)
      (divides_sum g (a / b * b) (a % b) (divides_multiple g b (a / b) below.left) below.right);
  right = below.left;
  greatest = λ d h k. below.greatest d k
      (subst (Divides d) (sym (mod-eq-sub-div-mul a b)) (divides_difference d a (a / b * b) h (divides_multiple d b (a / b) k)));
}

gcd_in_greatest : (d a b : ℕ) → b < d → Greatest a b (gcd_in d a b)
unfolding gcd_in
gcd_in_greatest zero a b h = absurd (omega arith)
gcd_in_greatest (suc d) a zero h = greatest_zero a
gcd_in_greatest (suc d) a (suc b) h =
    greatest_step a (suc b) (gcd_in d (suc b) (a % suc b))
    (gcd_in_greatest d (suc b) (a % suc b) (omega (arith, mod-lt a (zero-lt-suc b))))

pub gcd_greatest : (a b : ℕ) → Greatest a b (gcd a b)
unfolding gcd
gcd_greatest a b = gcd_in_greatest (suc b) a b (omega arith)

-- It is 1 exactly where no number above 1 goes into both.
pub coprime_means : (a b : ℕ) → eqb (gcd a b) 1 ≡ true → Coprime a b
coprime_means a b t d h k =
    divides_one d (subst (Divides d) (eqb-true (gcd a b) 1 t) ((gcd_greatest a b).greatest d h k))

pub coprime_passes : (a b : ℕ) → Coprime a b → eqb (gcd a b) 1 ≡ true
coprime_passes a b coprime =
    eq-eqb (gcd a b) 1 (coprime (gcd a b) (gcd_greatest a b).left (gcd_greatest a b).right)

pub apart_means : (r : ℕ) (held : List Factor) → apart r held ≡ true → ApartFrom r held
unfolding apart ApartFrom
apart_means r [] t = tt
apart_means r (h ∷ held) t =
    let both = and_parts (eqb (gcd r h.r) 1) (apart r held) t in
    (coprime_means r h.r both.0, apart_means r held both.1)

pub apart_passes : (r : ℕ) (held : List Factor) → ApartFrom r held → apart r held ≡ true
unfolding apart ApartFrom
apart_passes r [] all = refl
apart_passes r (h ∷ held) all =
    and_from (eqb (gcd r h.r) 1) (apart r held) (coprime_passes r h.r all.0) (apart_passes r held all.1)

-- ---- orders

-- The test passes exactly where z has order exactly r.
pub order_means : (m : Meaning) (z r : ℕ) → order_is m z r ≡ true → Order m z r
order_means m z r t = from (first spent 1 r) refl t
  where
    spent : ℕ → Bool
    spent = λ k. eqb (power m z k) 1

    from : (o : Option ℕ) → first spent 1 r ≡ o → order_at r o ≡ true → Order m z r
    from None e pass = absurd (true≢false (sym pass))
    from (Some k) e pass =
        let same : k ≡ r = eqb-true k r pass in
        let l : Least spent 1 r r = subst (Least spent 1 r) same (first_found spent 1 r k e) in
        record {
          some = l.from;
          one = eqb-true (power m z r) 1 l.passes;
          least = λ j low high. eqb-false (power m z j) 1 (l.before j low high);
        }

pub order_passes : (m : Meaning) (z r : ℕ) → Order m z r → order_is m z r ≡ true
order_passes m z r o = ap (order_at r) (first_is (λ k. eqb (power m z k) 1) 1 r r found) ∙ eq-eqb r r refl
  where
    found : Least (λ k. eqb (power m z k) 1) 1 r r
    found = record {
      from = o.some;
      within = omega arith;
      passes = eq-eqb (power m z r) 1 o.one;
      before = λ j low high. ne_eqb (power m z j) 1 (o.least j low high);
    }

-- ---- fourth roots

-- The test passes exactly where i squares to the negative of 1.
pub fourth_means : (m : Meaning) (i : ℕ) → fourth_is m i ≡ true → m.product i i ≡ m.negative 1
fourth_means m i t = eqb-true (m.product i i) (m.negative 1) t

pub fourth_passes : (m : Meaning) (i : ℕ) → m.product i i ≡ m.negative 1 → fourth_is m i ≡ true
fourth_passes m i e = eq-eqb (m.product i i) (m.negative 1) e
