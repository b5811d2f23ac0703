-- The loop that tells the order of a number, turn by turn.
use Rattle.std.proofs.Common.{◌≡◌, ℕ, ◌+◌, ◌-◌, ◌<◌, ◌≤◌, Bool, false, eqb, sym, ap, ◌∙◌, add-one, arith}
use Rattle.std.proofs.lemmas.Bool.{eq-eqb, ne_eqb}
use Rattle.theory.specs.First.{first}
use Rattle.theory.specs.Meaning.{Meaning}
use Rattle.theory.specs.Operation.{multiplication}
use Rattle.theory.specs.Power.{power}
use Rattle.theory.proofs.Powers.{pow_0, pow_suc_is}
use Rattle.theory.proofs.Search.{turn_none, turn_here, turn_later}
use Rattle.roots.specs.Checks.{order_at, order_is}

-- the next power is one product more
pub next_power : (m : Meaning) (z k now : ℕ) → now ≡ power m z k → m.product now z ≡ power m z (k + 1)
next_power m z k now e =
    ap (λ x. m.product x z) e ∙ sym (pow_suc_is (multiplication m) z k) ∙ ap (power m z) (sym (add-one k))

module _ (m : Meaning) (z r : ℕ) where
  spent : ℕ → Bool
  spent = λ k. eqb (power m z k) 1

  -- Before turn k: the power in hand, and that no lower one is 1.
  pub record PowersOn (k now : ℕ) : Type 0 where
    pub some : 0 < k
    pub value : now ≡ power m z (k - 1)
    pub later : first (λ k. eqb (power m z k) 1) 1 r ≡ first (λ k. eqb (power m z k) 1) k (r + 1 - k)

  pub powers_start : PowersOn 1 1
  powers_start = record {
    some = omega arith;
    value = sym (pow_0 (multiplication m) z);
    later = ap (first (λ k. eqb (power m z k) 1) 1) (let e : r ≡ r + 1 - 1 = omega arith in e);
  }

  next : (k now : ℕ) → PowersOn k now → m.product now z ≡ power m z k
  next k now on = next_power m z (k - 1) now on.value ∙ ap (power m z) (let e : k - 1 + 1 ≡ k = omega (arith, on.some) in e)

  pub powers_turn : (k now more : ℕ) → k < r + 1 → more ≡ m.product now z → (more ≡ 1 → ⊥) → PowersOn k now → PowersOn (k + 1) more
  powers_turn k now more h e apart on =
      let here : more ≡ power m z k = e ∙ next k now on in
      record {
        some = omega arith;
        value = here ∙ ap (power m z) (let s : k ≡ k + 1 - 1 = omega arith in s);
        later =
            on.later ∙ turn_later (λ k. eqb (power m z k) 1) k (r + 1) h (ne_eqb (power m z k) 1 (λ one. apart (here ∙ one)));
      }

  pub powers_here : (k now more : ℕ) → k < r + 1 → more ≡ m.product now z → more ≡ 1 → PowersOn k now → eqb k r ≡ order_is m z r
  powers_here k now more h e one on =
      let here : more ≡ power m z k = e ∙ next k now on in
      sym (ap (order_at r) (on.later
      ∙ turn_here (λ k. eqb (power m z k) 1) k (r + 1) h (eq-eqb (power m z k) 1 (sym here ∙ one))))

  pub powers_end : (k now : ℕ) → r + 1 ≤ k → PowersOn k now → false ≡ order_is m z r
  powers_end k now h on =
      sym (ap (order_at r) (on.later ∙ turn_none (λ k. eqb (power m z k) 1) k (r + 1) h))
