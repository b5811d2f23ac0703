-- Step 6 of rooting: a ratio that stands for a root has a value, and the value is a root.
use Rattle.std.proofs.Common.{◌≡◌, ℕ, ◌%◌, ◌<◌, eqb, Some, Ok, Err, Option, Result, sym, ap, ◌∙◌, arith}
use Rattle.std.proofs.lemmas.Bool.{eqb-true, eq-eqb, cond-true}
use Rattle.theory.specs.Meaning.{Meaning, Laws, Lawful, inverse}
use Rattle.theory.specs.declared.Ratio.{Ratio}
use Rattle.theory.proofs.Fields.{inverse_below}
use Rattle.theory.proofs.PowerLaws.{remainder_below}
use Rattle.theory.proofs.Search.{first_finds, first_found}
use Rattle.joining.specs.Quotient.{quotient_by}
use Rattle.refusals.specs.declared.Layer.TheVariants.{Search}
use Rattle.refusals.specs.declared.Refusal.{Refusal}
use Rattle.refusals.specs.declared.Refusal.TheVariants.{Unlawful}
use Rattle.roots.specs.Rooting.{Roots, ordered, rooted_check, finished}

-- x : y stands for a root: y is not 0, and x divided by y squares to the mark.
pub record Stands (m : Meaning) (mark : ℕ) (e : Ratio) : Type 0 where
  pub some : e.bottom % m.size ≡ 0 → ⊥
  pub squares : (b : ℕ) → m.product e.bottom b ≡ 1 → m.product (m.product e.top b) (m.product e.top b) ≡ mark

-- The steps come to a root and its negative, in order.
pub record Reaches (m : Meaning) (mark : ℕ) (outcome : Result Roots Refusal) : Type 0 where
  pub root : ℕ
  pub tests : ℕ
  pub below : root < m.size
  pub square : m.product root root ≡ mark
  pub is : outcome ≡ Ok (ordered root (m.negative root), tests)

module _ (m : Meaning) (laws : Laws m) (lawful : Lawful m) where
  -- in a lawful field the search for an inverse finds one, of each number that is not 0 modulo the size
  pub inverse_found : (a : ℕ) → (a % m.size ≡ 0 → ⊥) → (b : ℕ) × (inverse m a ≡ Some b) × (m.product a b ≡ 1)
  inverse_found a some =
      let i = inverse_below m laws lawful (a % m.size) (omega arith) (remainder_below m laws a) in
      let unit : m.product a i.0 ≡ 1 = sym (laws.product_remainder a i.0) ∙ i.3 in
      let f = first_finds (λ b. eqb (m.product a b) 1) 0 m.size i.0 (omega arith) (omega (arith, i.2)) (eq-eqb _ 1 unit) in
      (f.0, f.1, eqb-true _ 1 (first_found (λ b. eqb (m.product a b) 1) 0 m.size f.0 f.1).passes)

  -- What stands for a root comes to one.
  pub finishes : (mark g tests : ℕ) (e : Ratio) → Stands m mark e → Reaches m mark (finished m mark g tests e)
  finishes mark g tests e stands = from (inverse_found e.bottom stands.some)
    where
      from : (b : ℕ) × (inverse m e.bottom ≡ Some b) × (m.product e.bottom b ≡ 1) → Reaches m mark (finished m mark g tests e)
      from (b, found, unit) =
          let root = m.product e.top b in
          let square : m.product root root ≡ mark = stands.squares b unit in
          record {
            root = root;
            tests = tests;
            below = laws.product_below e.top b;
            square = square;
            is =
                ap (λ (o : Option ℕ). rooted_check m mark g tests (quotient_by m e.top e.bottom o)) found
                ∙ cond-true (eqb (m.product root root) mark) (Ok (ordered root (m.negative root), tests)) (Err (Unlawful Search 6 g))
                (eq-eqb (m.product root root) mark square);
          }
