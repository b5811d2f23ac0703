-- Euclid's steps for a modulo q: each remainder stands beside a multiplier that takes a to it, modulo q.
use Rattle.std.proofs.Common.{◌≡◌, ℕ, zero, suc, ◌+◌, ◌-◌, ◌*◌, ◌/◌, ◌%◌, ◌<◌, ◌≤◌, sym, refl, ap, ◌∙◌, subst, mod-lt, mod-eq_of_lt, mul_comm, one-mul, zero-mul, add-sub_cancel, arith}
use native.Mathlib.Nat.{mod-add-div', mod_self, zero-mod}
use Rattle.theory.specs.Numbers.{Divides}
use Rattle.theory.proofs.Congruence.{Same, same_add, same_cancel, same_mod, same_mul, same_negative, same_times}
use Rattle.theory.proofs.Divisors.{divides_difference, divides_multiple, divides_multiple_right, divides_one, divides_self, divides_sum, divides_zero}

-- Where the steps stand: the last two remainders r and s, with their multipliers t and u.
pub record Euclid (q a r t s u : ℕ) : Type 0 where
  pub falls : s < r
  pub top : r ≤ q
  pub first_below : t < q
  pub second_below : u < q
  pub first : Same q (t * a) r
  pub second : Same q (u * a) s
  -- what goes into both goes into q and a
  pub shared : (d : ℕ) → Divides d r → Divides d s → Divides d q × Divides d a

-- the multiplier after t and u, where the quotient is k
abbrev pub next : ℕ → ℕ → ℕ → ℕ → ℕ
next q t u k = (t + (q - k * u % q)) % q

-- What goes into the divisor and the remainder goes into the number divided.
divides_divided : (d a b : ℕ) → Divides d b → Divides d (a % b) → Divides d a
divides_divided d a b h k =
    subst (Divides d) (mod-add-div' a b) (divides_sum d (a % b) (a / b * b) k (divides_multiple d b (a / b) h))

-- How the steps begin.
pub euclid_starts : (q a : ℕ) → 2 ≤ q → Euclid q a q 0 (a % q) 1
euclid_starts q a h =
    let some : 0 < q = omega arith in
    record {
      falls = mod-lt a some;
      top = omega arith;
      first_below = some;
      second_below = h;
      first = ap (λ n. n % q) (zero-mul a) ∙ zero-mod q ∙ sym (mod_self q);
      second = ap (λ n. n % q) (one-mul a) ∙ sym (same_mod q a);
      shared = λ d e f. (e, divides_divided d a q e f);
    }

module _ (q a r t s u : ℕ) (some : 0 < q) (e : Euclid q a r t s u) where
  -- next + k × u is t modulo q
  next_sum : (k : ℕ) → Same q (next q t u k + k * u) t
  next_sum k =
      same_add q (next q t u k) (t + (q - k * u % q)) (k * u) (k * u) (same_mod q (t + (q - k * u % q))) refl
      ∙ ap (λ n. n % q) (let h : (t + (q - k * u % q)) + k * u ≡ (k * u + (q - k * u % q)) + t = omega arith in h)
      ∙ same_add q (k * u + (q - k * u % q)) 0 t t (same_negative q (k * u) some) refl
      ∙ ap (λ n. n % q) (let h : 0 + t ≡ t = omega arith in h)

  -- so it takes a to the next remainder
  next_second : Same q (next q t u (r / s) * a) (r % s)
  next_second =
      let k = r / s in
      let v = next q t u k in
      same_cancel q (v * a) (r % s) (k * s)
      (same_add q (v * a) (v * a) (k * s) (k * (u * a)) refl
      (sym (same_mul q k k (u * a) s refl e.second))
      ∙ ap (λ n. n % q) (let h : v * a + k * (u * a) ≡ (v + k * u) * a = omega arith in h)
      ∙ same_times q (v + k * u) t a (next_sum k) ∙ e.first ∙ ap (λ n. n % q) (sym (mod-add-div' r s)))

  -- One step.
  pub euclid_turns : 0 < s → Euclid q a s u (r % s) (next q t u (r / s))
  euclid_turns h =
      record {
        falls = mod-lt r h;
        top = omega (arith, e.falls, e.top);
        first_below = e.second_below;
        second_below = mod-lt (t + (q - r / s * u % q)) some;
        first = e.second;
        second = next_second;
        shared = λ d f g. e.shared d (divides_divided d r s f g) f;
      }

-- What goes into q and into a number that has an inverse modulo q is 1.
pub unit_divisor : (q a b d : ℕ) → Divides d q → Divides d a → a * b % q ≡ 1 → d ≡ 1
unit_divisor q a b d h g e =
    let k = a * b / q * q in
    let whole : 1 + k ≡ a * b = ap (λ n. n + k) (sym e) ∙ mod-add-div' (a * b) q in
    divides_one d
    (subst (Divides d) (ap (λ n. n - k) (sym whole) ∙ add-sub_cancel 1 k)
    (divides_difference d (a * b) k (divides_multiple_right d a b g) (divides_multiple d q (a * b / q) h)))

-- Where the steps end at 1, its multiplier is the inverse,
pub euclid_finds : (q a r t s u : ℕ) → 1 < q → Euclid q a r t s u → r ≡ 1 → a * t % q ≡ 1
euclid_finds q a r t s u h e one =
    ap (λ n. n % q) (mul_comm a t) ∙ e.first ∙ ap (λ n. n % q) one ∙ mod-eq_of_lt h

-- and where they end elsewhere, there is none.
pub euclid_misses : (q a r t s u : ℕ) → Euclid q a r t s u → s ≡ 0 → (r ≡ 1 → ⊥) → (b : ℕ) → a * b % q ≡ 1 → ⊥
euclid_misses q a r t s u e none apart b f =
    let g = e.shared r (divides_self r) (subst (Divides r) (sym none) (divides_zero r)) in
    apart (unit_divisor q a b r g.0 g.1 f)

-- The steps come to an end, whatever they begin with.
euclid_ends_in : (turns q a r t s u : ℕ) → s ≤ turns → 0 < q → Euclid q a r t s u
    → (g : ℕ) × (v : ℕ) × (w : ℕ) × Euclid q a g v 0 w
euclid_ends_in turns q a r t zero u h some e = (r, t, u, e)
euclid_ends_in zero q a r t (suc s) u h some e = absurd (omega arith)
euclid_ends_in (suc turns) q a r t (suc s) u h some e =
    let k : suc s ≤ suc turns = h in
    euclid_ends_in turns q a (suc s) u (r % suc s) (next q t u (r / suc s))
    (omega (arith, mod-lt r {m = suc s} (omega arith))) some (euclid_turns q a r t (suc s) u some e (omega arith))

pub euclid_ends : (q a : ℕ) → 2 ≤ q → (g : ℕ) × (v : ℕ) × (w : ℕ) × Euclid q a g v 0 w
euclid_ends q a h = euclid_ends_in (a % q) q a q 0 (a % q) 1 (omega arith) (omega arith) (euclid_starts q a h)
