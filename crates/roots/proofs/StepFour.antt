-- Step 4 of rooting: some held factor serves. If none did, h ^ ((size − 1) / r ^ f) would be 1 for each of them; removing the factors from
-- the exponent 2 × odd one at a time, h ^ (2t) would be 1.
use Rattle.std.proofs.Common.{◌≡◌, ℕ, zero, suc, ◌-◌, ◌*◌, ◌/◌, ◌%◌, ◌^◌, ◌<◌, List, [], ◌∷◌, sym, ap, ◌∙◌, subst, pow-suc, arith}
use native.Mathlib.Nat.{one-le-pow, pow-zero, div-eq_of_eq-mul_left}
use Rattle.theory.specs.Meaning.{Meaning, Laws}
use Rattle.theory.specs.Numbers.{Coprime}
use Rattle.theory.specs.Power.{power}
use Rattle.theory.proofs.Divisors.{coprime_sym, coprime_product, coprime_power, coprime_power_right, coprime_two, coprime_one}
use Rattle.theory.proofs.Lists.{All}
use Rattle.theory.proofs.Orders.{coprime_exponents}
use Rattle.roots.specs.declared.factor.Factor.{Factor}
use Rattle.roots.specs.Laws.{ApartFrom, AllApart, held_power}
use Rattle.roots.proofs.Held.{Holds}

-- The factor does not serve: the power of h by the size less one without r ^ f is 1.
abbrev pub Idle : Meaning → ℕ → Factor → Type 0
Idle m h x = power m h ((m.size - 1) / x.r ^ x.f) ≡ 1

-- the held powers that share no divisor with b, nor with r, share none with b × r ^ f
apart_from_both : (b r f : ℕ) (held : List Factor) → All (λ x. Coprime (x.r ^ x.f) b) held
    → ApartFrom r held → All (λ x. Coprime (x.r ^ x.f) (b * r ^ f)) held
unfolding ApartFrom
apart_from_both b r f [] left right = tt
apart_from_both b r f (x ∷ held) left right = (
  coprime_product (x.r ^ x.f) b (r ^ f) left.0 (coprime_sym (r ^ f) (x.r ^ x.f) (coprime_power r x.r f x.f right.0)),
  apart_from_both b r f held left.1 right.1,
)

-- Where no factor serves, all of them can be removed from the exponent. What was removed already stands in b.
pub removed : (m : Meaning) → Laws m → (h t b : ℕ) (held : List Factor) → All (Holds m) held → AllApart held
    → All (λ x. Coprime (x.r ^ x.f) b) held → m.size - 1 ≡ b * (2 * (held_power held * t))
    → power m h (2 * (held_power held * t)) ≡ 1 → All (Idle m h) held → power m h (2 * t) ≡ 1
unfolding AllApart held_power
removed m laws h t b [] holds apart coprime whole one idle = ap (power m h) (omega arith) ∙ one
removed m laws h t b (x ∷ held) holds apart coprime whole one idle =
    let s = x.r ^ x.f in
    let c = 2 * (held_power held * t) in
    let some : 0 < s = one-le-pow x.f x.r holds.0.order.some in
    let quotient : (m.size - 1) / s ≡ c * b = div-eq_of_eq-mul_left some (whole ∙ omega arith) in
    let less : power m h c ≡ 1 =
    coprime_exponents m laws s b coprime.0 h c (ap (power m h) (omega arith) ∙ one) (ap (power m h) (sym quotient) ∙ idle.0) in
    removed m laws h t (b * s) held holds.1 apart.1 (apart_from_both b x.r x.f held coprime.1 apart.0) (whole ∙ omega arith)
    less idle.1

-- each held power is odd, so shares no divisor with a power of 2
held_odd : (m : Meaning) (e : ℕ) (held : List Factor) → All (Holds m) held → All (λ x. Coprime (x.r ^ x.f) (2 ^ e)) held
held_odd m e [] holds = tt
held_odd m e (x ∷ held) holds = (one_odd x.f holds.0.uneven, held_odd m e held holds.1)
  where
    one_odd : (f : ℕ) → (0 < f → x.r % 2 ≡ 1) → Coprime (x.r ^ f) (2 ^ e)
    one_odd zero uneven = subst (λ s. Coprime s (2 ^ e)) (sym (pow-zero x.r)) (coprime_sym (2 ^ e) 1 (coprime_one (2 ^ e)))
    one_odd (suc f) uneven =
        coprime_sym (2 ^ e) (x.r ^ suc f)
        (coprime_power_right (2 ^ e) x.r (suc f) (coprime_sym x.r (2 ^ e) (coprime_two x.r e (uneven (omega arith)))))

-- Some factor serves: with size − 1 = 2 ^ (e + 1) × (held powers × t), not all of them can be idle for an h whose power 2 × odd is 1 and whose
-- power 2t is not.
pub some_serves : (m : Meaning) → Laws m → (h t e : ℕ) (held : List Factor) → All (Holds m) held → AllApart held
    → m.size - 1 ≡ 2 ^ suc e * (held_power held * t) → power m h (2 * (held_power held * t)) ≡ 1
    → (power m h (2 * t) ≡ 1 → ⊥) → All (Idle m h) held → ⊥
some_serves m laws h t e held holds apart whole one other idle =
    other
    (removed m laws h t (2 ^ e) held holds apart (held_odd m e held holds)
    (whole ∙ ap (λ x. x * (held_power held * t)) (pow-suc 2 e) ∙ omega arith) one idle)
