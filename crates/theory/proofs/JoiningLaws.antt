-- Both joinings keep the laws of an operation, over every ring.
use Rattle.std.proofs.Common.{◌≡◌, ℕ, ◌%◌, eqb, [], ◌∷◌, sym, ap, ◌∙◌, ap₂, mod-lt, mod-eq_of_lt, arith}
use native.Mathlib.Nat.{mod-mod}
use Rattle.theory.specs.Meaning.{Meaning, Laws}
use Rattle.theory.specs.Operation.{OperationLaws, multiplication, ratio, ratios}
use Rattle.theory.specs.declared.Ratio.{Ratio}
use Rattle.theory.proofs.Codes.{code, code_ring, code_injective, code_remainder, code_rules}
use Rattle.theory.proofs.Solver.{solve, quote}

-- A number times 1 is the code that it counts as.
pub one_product : (m : Meaning) → Laws m → (a : ℕ) → m.product 1 a ≡ a % m.size
one_product m laws a =
    laws.product_comm 1 a ∙ sym (laws.product_remainder a 1)
    ∙ laws.product_one _ (mod-lt a (omega (arith, laws.size_low)))

pub multiplication_laws : (m : Meaning) → Laws m → OperationLaws (multiplication m)
multiplication_laws m laws = record {
  comm = laws.product_comm;
  assoc = laws.product_assoc;
  neutral_join = λ a b. one_product m laws _ ∙ mod-eq_of_lt (laws.product_below a b);
  neutral_neutral = laws.product_one 1 laws.size_low;
  neutral_spent = ap (λ (k : ℕ). eqb k 1) (mod-eq_of_lt laws.size_low);
  spent_join = λ a. ap (λ (k : ℕ). eqb k 1) (ap (λ (k : ℕ). k % m.size) (one_product m laws a) ∙ mod-mod a m.size);
}

module _ (m : Meaning) (laws : Laws m) (mark : ℕ) where
  -- Two sums are equal where their codes in the ring are.
  sums : (a b c d : ℕ) → code m laws (m.sum a b) ≡ code m laws (m.sum c d) → m.sum a b ≡ m.sum c d
  sums a b c d e = code_injective m laws _ _ (laws.sum_below a b) (laws.sum_below c d) e

  pub ratios_comm : (a b : Ratio) → (ratios m mark).join a b ≡ (ratios m mark).join b a
  ratios_comm a b =
      ap₂ ratio
      (ap₂ m.sum (laws.product_comm _ _) (ap (m.product mark) (laws.product_comm _ _)))
      (laws.sum_comm _ _ ∙ ap₂ m.sum (laws.product_comm _ _) (laws.product_comm _ _))

  pub ratios_assoc : (a b c : Ratio)
      → (ratios m mark).join ((ratios m mark).join a b) c ≡ (ratios m mark).join a ((ratios m mark).join b c)
  ratios_assoc a b c =
      let a1 = code m laws a.top in
      let a2 = code m laws a.bottom in
      let b1 = code m laws b.top in
      let b2 = code m laws b.bottom in
      let c1 = code m laws c.top in
      let c2 = code m laws c.bottom in
      let n = code m laws mark in
      ap₂ ratio
      (sums _ _ _ _ (simp code_rules (solve (code_ring m laws) (n ∷ a1 ∷ a2 ∷ b1 ∷ b2 ∷ c1 ∷ c2 ∷ []) (search quote depth 20) tt)))
      (sums _ _ _ _ (simp code_rules (solve (code_ring m laws) (n ∷ a1 ∷ a2 ∷ b1 ∷ b2 ∷ c1 ∷ c2 ∷ []) (search quote depth 20) tt)))

  -- With the neutral element first nothing changes, modulo the size.
  pub ratios_neutral : (a : Ratio) → (ratios m mark).join (ratio 1 0) a ≡ ratio (a.top % m.size) (a.bottom % m.size)
  ratios_neutral a =
      let x = code m laws a.top in
      let y = code m laws a.bottom in
      let n = code m laws mark in
      ap₂ ratio
      (sym (mod-eq_of_lt (laws.sum_below _ _))
      ∙ code_remainder m laws _ _ (simp code_rules (solve (code_ring m laws) (n ∷ x ∷ y ∷ []) (search quote depth 20) tt)))
      (sym (mod-eq_of_lt (laws.sum_below _ _))
      ∙ code_remainder m laws _ _ (simp code_rules (solve (code_ring m laws) (n ∷ x ∷ y ∷ []) (search quote depth 20) tt)))

pub ratios_laws : (m : Meaning) → Laws m → (mark : ℕ) → OperationLaws (ratios m mark)
ratios_laws m laws mark = record {
  comm = ratios_comm m laws mark;
  assoc = ratios_assoc m laws mark;
  neutral_join = λ a b.
      ratios_neutral m laws mark _
      ∙ ap₂ ratio (mod-eq_of_lt (laws.sum_below _ _)) (mod-eq_of_lt (laws.sum_below _ _));
  neutral_neutral =
      ratios_neutral m laws mark _
      ∙ ap₂ ratio (mod-eq_of_lt laws.size_low) (mod-eq_of_lt (omega (arith, laws.size_low)));
  neutral_spent = ap (λ (k : ℕ). eqb k 0) (mod-eq_of_lt (omega (arith, laws.size_low)));
  spent_join = λ a.
      ap (λ (k : ℕ). eqb k 0) (ap (λ (e : Ratio). e.bottom % m.size) (ratios_neutral m laws mark a) ∙ mod-mod _ _);
}
