-- A power on its way down the binary digits of its exponent.
use Rattle.std.proofs.Common.{◌≡◌, ℕ, suc, ◌+◌, ◌-◌, ◌*◌, ◌/◌, ◌%◌, ◌^◌, ◌<◌, ◌≤◌, sym, ap, ◌∙◌, ap₂, div-lt_iff_lt-mul, pow-suc, le-div_iff_mul-le, div-le_self, div-one, two-mul, add-one, arith, pow_pos}
use native.Mathlib.Nat.{div-div-eq-div-mul}
use Rattle.theory.specs.Numbers.{joinings}
use Rattle.theory.specs.Operation.{Operation, OperationLaws, pow}
use Rattle.theory.proofs.Powers.{pow_0, pow_one, pow_add, pow_suc_is}
use Rattle.theory.proofs.Bits.{joinings_0, joinings_1, joinings_double, joinings_double_one, joinings_few}

-- The digits of k from the place up have been gone through: result is that power of x, and so many joinings were made.
pub record Partway {E : Type 0} (o : Operation E) (x : E) (k place : ℕ) (result : E) (made : ℕ) : Type 0 where
  pub some : 0 < k / 2 ^ place
  pub value : result ≡ pow o x (k / 2 ^ place)
  pub count : made ≡ joinings (k / 2 ^ place)

-- the count stays small on the way
pub few_so_far : {E : Type 0} (o : Operation E) (x : E) (k place : ℕ) (result : E) (made : ℕ) → Partway o x k place result made → made ≤ 126
few_so_far o x k place result made p = omega (arith, p.count, joinings_few (k / 2 ^ place))

module _ {E : Type 0} (o : Operation E) (x : E) (k : ℕ) where
  -- What power answers: the power, with the joinings that it takes.
  abbrev pub Powered : E → ℕ → Type 0
  Powered result made = record { value : result ≡ pow o x k; count : made ≡ joinings k; few : made ≤ 126 }

  pub nothing : (result : E) → k ≡ 0 → result ≡ o.neutral → Powered result 0
  nothing result z e = record {
    value = e ∙ sym (ap (pow o x) z ∙ pow_0 o x);
    count = sym (ap joinings z ∙ joinings_0);
    few = omega arith;
  }

  -- at the top digit
  pub starts : (place : ℕ) (result : E) → 2 ^ place ≤ k → k < 2 * 2 ^ place → result ≡ o.join o.neutral x → Partway o x k place result 0
  starts place result low high e =
      let top : k / 2 ^ place ≡ 1 = omega (
        arith,
        (le-div_iff_mul-le {x = 1} {y = k} (pow_pos place)).1 (omega arith),
        (div-lt_iff_lt-mul {x = k} {y = 2} (pow_pos place)).1 high,
      ) in
      record {
        some = omega arith;
        value = e ∙ sym (ap (pow o x) top ∙ pow_one o x);
        count = sym (ap joinings top ∙ joinings_1);
      }

  pub ends : (place : ℕ) (result : E) (made : ℕ) → place ≤ 0 → Partway o x k place result made → Powered result made
  ends place result made low p =
      let last : place ≡ 0 = omega arith in
      let whole : k / 2 ^ place ≡ k = ap (λ i. k / 2 ^ i) last ∙ div-one k in
      record {
        value = p.value ∙ ap (pow o x) whole;
        count = p.count ∙ ap joinings whole;
        few = few_so_far o x k place result made p;
      }

  half : (place : ℕ) → 0 < place → k / 2 ^ (place - 1) / 2 ≡ k / 2 ^ place
  half place some =
      let above : place ≡ suc (place - 1) = omega arith in
      div-div-eq-div-mul k (2 ^ (place - 1)) 2 ∙ sym (ap (λ i. k / i) (ap (λ i. 2 ^ i) above ∙ pow-suc 2 (place - 1)))

module _ {E : Type 0} (o : Operation E) (laws : OperationLaws o) (x : E) (k place : ℕ) (result : E) (made : ℕ) where
  squared : (h : ℕ) → result ≡ pow o x h → o.join result result ≡ pow o x (2 * h)
  squared h e = ap₂ o.join e e ∙ sym (pow_add o laws x h h) ∙ ap (pow o x) (sym (two-mul h))

  -- a squaring for a digit 0
  pub turn_zero : (next : E) → k < 2 ^ 64 → 0 < place → Partway o x k place result made → next ≡ o.join result result
      → (k / 2 ^ (place - 1) % 2 ≡ 1 → ⊥) → Partway o x k (place - 1) next (made + 1)
  turn_zero next small above p e digit =
      let h : ℕ = k / 2 ^ place in
      let here : k / 2 ^ (place - 1) ≡ 2 * h = omega (arith, half o x k place above) in
      let fits : 2 * h < 2 ^ 64 = omega (arith, div-le_self k (2 ^ (place - 1))) in
      record {
        some = omega (arith, p.some);
        value = e ∙ squared h p.value ∙ sym (ap (pow o x) here);
        count = ap (λ i. i + 1) p.count ∙ sym (joinings_double h p.some fits) ∙ sym (ap joinings here);
      }

  -- a squaring, and a joining with x, for a digit 1
  pub turn_one : (square next : E) → k < 2 ^ 64 → 0 < place → Partway o x k place result made → square ≡ o.join result result → next ≡ o.join square x
      → k / 2 ^ (place - 1) % 2 ≡ 1 → Partway o x k (place - 1) next (made + 1 + 1)
  turn_one square next small above p s e digit =
      let h : ℕ = k / 2 ^ place in
      let here : k / 2 ^ (place - 1) ≡ 2 * h + 1 = omega (arith, half o x k place above) in
      let fits : 2 * h + 1 < 2 ^ 64 = omega (arith, div-le_self k (2 ^ (place - 1))) in
      record {
        some = omega (arith, p.some);
        value =
            e ∙ ap (λ y. o.join y x) (s ∙ squared h p.value) ∙ sym (pow_suc_is o x (2 * h))
            ∙ ap (pow o x) (sym (add-one (2 * h)) ∙ sym here);
        count = omega (arith, p.count, joinings_double_one h p.some fits, ap joinings here);
      }
