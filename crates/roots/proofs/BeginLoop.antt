-- The search of step 2 over the codes g = 1, 2, …, turn by turn.
use Rattle.std.proofs.Common.{◌≡◌, ℕ, ◌+◌, ◌-◌, ◌*◌, ◌<◌, ◌≤◌, Bool, true, false, cond, Ok, Err, sym, ap, ◌∙◌, add-mul, one-mul, arith}
use Rattle.std.proofs.lemmas.Bool.{eq-eqb, ne_eqb, or_left, or_right, or_from, not_from_true, not_from_false, cond-true, cond-false}
use Rattle.theory.specs.First.{first}
use Rattle.theory.specs.Meaning.{Meaning}
use Rattle.theory.specs.Numbers.{joinings}
use Rattle.theory.specs.Operation.{pow, ratio, ratios}
use Rattle.theory.specs.declared.Ratio.{Ratio}
use Rattle.theory.proofs.Search.{turn_none, turn_here, turn_later}
use Rattle.refusals.specs.declared.Layer.TheVariants.{Search}
use Rattle.refusals.specs.declared.Refusal.TheVariants.{Unlawful}
use Rattle.roots.specs.declared.begin.Begun.TheVariants.{Root, Kept}
use Rattle.roots.specs.Rooting.{squares, ends}
use Rattle.roots.specs.Steps.{begins}

module _ (m : Meaning) (t mark : ℕ) where
  -- Before turn g: no lower code ends the search, and each of them took one power.
  pub record BeginsOn (g made : ℕ) : Type 0 where
    pub some : 0 < g
    pub count : made ≡ (g - 1) * joinings (2 * t)
    pub few : made ≤ (g - 1) * 126
    pub later : first (ends m t mark) 1 (2 * t - 1) ≡ first (ends m t mark) g (2 * t - g)

  module _ (g made : ℕ) (h : g < 2 * t) (on : BeginsOn g made) where
    -- what is found, where g ends the search
    here : ends m t mark g ≡ true → begins m t mark (first (ends m t mark) 1 (2 * t - 1)) ≡ cond (squares m mark g) (Ok (Root g, (g - 1) * joinings (2 * t))) (Ok (Kept g, g * joinings (2 * t)))
    here e = ap (begins m t mark) (on.later ∙ turn_here (ends m t mark) g (2 * t) h e)

    pub begins_root : (square : ℕ) → square ≡ m.product g g → square ≡ mark → Ok (Root g, made) ≡ begins m t mark (first (ends m t mark) 1 (2 * t - 1))
    begins_root square s e =
        let yes : squares m mark g ≡ true = eq-eqb (m.product g g) mark (sym s ∙ e) in
        ap (λ k. Ok (Root g, k)) on.count
        ∙ sym (here (or_left (squares m mark g) _ yes) ∙ cond-true (squares m mark g) _ _ yes)

    -- one power more
    more : (made + joinings (2 * t)) ≡ g * joinings (2 * t)
    more =
        ap (λ k. k + joinings (2 * t)) on.count ∙ ap (λ k. (g - 1) * joinings (2 * t) + k) (sym (one-mul (joinings (2 * t))))
        ∙ sym (add-mul (g - 1) 1 (joinings (2 * t)))
        ∙ ap (λ k. k * joinings (2 * t)) (let e : g - 1 + 1 ≡ g = omega (arith, on.some) in e)

    -- g is no root, and its power is taken
    module _ (square raising : ℕ) (x raised : Ratio) (spent : Bool) (s : square ≡ m.product g g) (apart : square ≡ mark → ⊥) (r : raising ≡ joinings (2 * t)) (element : x ≡ ratio g 1) (power : raised ≡ pow (ratios m mark) x (2 * t)) (p : spent ≡ (ratios m mark).spent raised) where
      is : (ratios m mark).spent (pow (ratios m mark) (ratio g 1) (2 * t)) ≡ spent
      is = sym (p ∙ ap (ratios m mark).spent (power ∙ ap (λ y. pow (ratios m mark) y (2 * t)) element))

      off : squares m mark g ≡ false
      off = ne_eqb (m.product g g) mark (λ e. apart (s ∙ e))

      pub begins_kept : spent ≡ false → Ok (Kept g, made + raising) ≡ begins m t mark (first (ends m t mark) 1 (2 * t - 1))
      begins_kept e =
          ap (λ k. Ok (Kept g, k)) (ap (λ k. made + k) r ∙ more)
          ∙ sym (here (or_right (squares m mark g) _ (not_from_false _ (is ∙ e))) ∙ cond-false (squares m mark g) _ _ off)

      pub begins_turn : spent ≡ true → raising ≤ 126 → BeginsOn (g + 1) (made + raising)
      begins_turn e few = record {
        some = omega arith;
        count = ap (λ k. made + k) r ∙ more ∙ ap (λ k. k * joinings (2 * t)) (let i : g ≡ g + 1 - 1 = omega arith in i);
        few = omega (arith, on.few, on.some);
        later =
            on.later ∙ turn_later (ends m t mark) g (2 * t) h (or_from (squares m mark g) _ off (not_from_true _ (is ∙ e)));
      }

  pub begins_end : (g made : ℕ) → 2 * t ≤ g → BeginsOn g made → Err (Unlawful Search 2 0) ≡ begins m t mark (first (ends m t mark) 1 (2 * t - 1))
  begins_end g made h on = sym (ap (begins m t mark) (on.later ∙ turn_none (ends m t mark) g (2 * t) h))
