-- What the factors of a draft or a plan are, each by itself: their powers go into the size less one, and their r are odd.
use Rattle.std.proofs.Common.{◌≡◌, ℕ, zero, suc, ◌-◌, ◌*◌, ◌/◌, ◌%◌, ◌^◌, ◌<◌, List, [], ◌∷◌, sym, ap, ◌∙◌, subst, pow-suc, arith}
use native.Mathlib.Nat.{one-le-pow, div-eq_of_eq-mul_left}
use Rattle.theory.specs.Meaning.{Meaning}
use Rattle.theory.specs.Numbers.{Divides}
use Rattle.theory.specs.Power.{Order}
use Rattle.theory.proofs.Divisors.{divides_trans, divides_multiple, divides_of_remainder}
use Rattle.theory.proofs.Lists.{All}
use Rattle.roots.specs.declared.factor.Factor.{Factor}
use Rattle.roots.specs.Laws.{AllOrders, held_power}

-- What holds of a factor that a plan holds.
pub record Holds (m : Meaning) (x : Factor) : Type 0 where
  pub exact : (m.size - 1) / x.r ^ x.f * x.r ^ x.f ≡ m.size - 1
  pub below : x.zeta < m.size
  pub order : Order m x.zeta x.r
  pub uneven : 0 < x.f → x.r % 2 ≡ 1

-- each held power goes into the product of all of them
each_divides : (held : List Factor) (c p : ℕ) → p ≡ c * held_power held → All (λ x. Divides (x.r ^ x.f) p) held
unfolding held_power
each_divides [] c p e = tt
each_divides (x ∷ held) c p e =
    ((c * held_power held, omega arith), each_divides held (c * x.r ^ x.f) p (omega arith))

-- a positive power of an even number is even
even_power : (r f : ℕ) → 0 < f → r % 2 ≡ 0 → Divides 2 (r ^ f)
even_power r zero some even = absurd (omega arith)
even_power r (suc f) some even = subst (Divides 2) (sym (pow-suc r f)) (divides_multiple 2 r (r ^ f) (divides_of_remainder 2 r even))

-- a divisor of n leaves no remainder
exact_quotient : (s n : ℕ) → 0 < s → Divides s n → n / s * s ≡ n
exact_quotient s n some d = ap (λ x. x * s) (div-eq_of_eq-mul_left some d.1) ∙ sym d.1

-- Each held factor is so, where the held powers with what is left make up the odd part p of the size less one.
pub held_holds : (m : Meaning) (e rest p : ℕ) (held : List Factor) → m.size - 1 ≡ 2 ^ e * p → (Divides 2 p → ⊥)
    → p ≡ rest * held_power held → AllOrders m held → All (Holds m) held
unfolding AllOrders
held_holds m e rest p held whole odd parts orders = each held orders (each_divides held rest p parts)
  where
    each : (xs : List Factor) → AllOrders m xs → All (λ x. Divides (x.r ^ x.f) p) xs → All (Holds m) xs
    each [] orders divides = tt
    each (x ∷ xs) orders divides = (
      record {
        exact =
            exact_quotient (x.r ^ x.f) (m.size - 1) (one-le-pow x.f x.r orders.0.1.some)
            (subst (Divides (x.r ^ x.f)) (sym whole) (divides_multiple (x.r ^ x.f) p (2 ^ e) divides.0));
        below = orders.0.0;
        order = orders.0.1;
        uneven = λ some.
            let uneven : x.r % 2 ≡ 0 → ⊥ = λ even. odd (divides_trans 2 (x.r ^ x.f) p (even_power x.r x.f some even) divides.0) in
            omega arith;
      },
      each xs orders.1 divides.1,
    )
