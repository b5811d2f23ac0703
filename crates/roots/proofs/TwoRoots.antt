-- A root and its negative are the two roots of a mark other than 0, and there is no third.
use Rattle.std.proofs.Common.{◌≡◌, ℕ, ◌%◌, ◌<◌, ◌≤◌, ltb, ◌⊎◌, Ok, Result, sym, ap, ◌∙◌, inl, inr, arith}
use Rattle.std.proofs.lemmas.Bool.{cases_lt, lt-ltb, le-ltb, cond-true, cond-false}
use Rattle.theory.specs.Meaning.{Meaning, Laws, Lawful}
use Rattle.theory.proofs.Fields.{product_zero, product_negatives, two_roots}
use Rattle.theory.proofs.Odd.{negative_differs}
use Rattle.refusals.specs.declared.Refusal.{Refusal}
use Rattle.roots.specs.Laws.{TwoRoots, Exact}
use Rattle.roots.specs.Rooting.{Steps, Roots, ended, ordered, answered}
use Rattle.roots.proofs.StepSix.{Reaches}

module _ (m : Meaning) (laws : Laws m) (lawful : Lawful m) (uneven : m.size % 2 ≡ 1) (mark : ℕ) (some : 0 < mark) where
  -- in their order
  both_roots : (root : ℕ) → root < m.size → m.product root root ≡ mark
      → (a b : ℕ) × TwoRoots m mark a b × (ordered root (m.negative root) ≡ (a, b))
  both_roots root below square = from (cases_lt (m.negative root) root)
    where
      other : ℕ
      other = m.negative root

      other_below : other < m.size
      other_below = laws.negative_below root

      other_square : m.product other other ≡ mark
      other_square = product_negatives m laws root root ∙ square

      positive : 0 < root
      positive =
          let not-zero : root ≡ 0 → ⊥ = λ e. absurd (omega (arith, sym square ∙ ap (m.product root) e ∙ product_zero m laws root)) in
          omega arith

      apart : other ≡ root → ⊥
      apart = negative_differs m laws lawful uneven root positive below

      only : (x : ℕ) → x < m.size → m.product x x ≡ mark → (x ≡ root) ⊎ (x ≡ other)
      only x within e = two_roots m laws lawful x root within below (e ∙ sym square)

      swap : (x : ℕ) → (x ≡ root) ⊎ (x ≡ other) → (x ≡ other) ⊎ (x ≡ root)
      swap x (inl e) = inr e
      swap x (inr e) = inl e

      from : (other < root) ⊎ (root ≤ other) → (a b : ℕ) × TwoRoots m mark a b × (ordered root other ≡ (a, b))
      from (inl less) = (
        other,
        root,
        record {
          below = less;
          within = below;
          smaller = other_square;
          larger = square;
          only = λ x within e. swap x (only x within e);
        },
        cond-true (ltb other root) (other, root) (root, other) (lt-ltb other root less),
      )
      from (inr more) = (
        root,
        other,
        record {
          below = omega (arith, apart);
          within = other_below;
          smaller = square;
          larger = other_square;
          only = only;
        },
        cond-false (ltb other root) (other, root) (root, other) (le-ltb other root more),
      )

  -- Steps that reach a root answer exactly.
  pub reached_exact : (steps : Steps Roots) → Reaches m mark steps.outcome → Exact m mark (answered steps)
  reached_exact steps reached =
      let found = both_roots reached.root reached.below reached.square in
      inr (
        found.0,
        found.1,
        (steps.made, reached.tests),
        found.2,
        ap (λ (r : Result Roots Refusal). answered (ended r steps.made))
            (reached.is ∙ ap (λ (pair : ℕ × ℕ). Ok (pair, reached.tests)) found.3),
      )
