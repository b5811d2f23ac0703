-- Step 3 of rooting: the ladder by 2 has a rank. At rank 2 or more what stands two before it gives a root; else h ^ (2 × odd) is 1.
use Rattle.std.proofs.Common.{◌≡◌, ℕ, suc, ◌-◌, ◌*◌, ◌%◌, ◌^◌, ◌<◌, true, ◌⊎◌, Some, None, Ok, sym, ap, ◌∙◌, inl, inr, mul_assoc, mul_comm, pow-suc, arith}
use Rattle.theory.specs.Meaning.{Meaning, Laws, Lawful}
use Rattle.theory.specs.Operation.{Operation, OperationLaws, pow, ratio, ratios}
use Rattle.theory.specs.Power.{power}
use Rattle.theory.specs.declared.Ratio.{Ratio}
use Rattle.theory.proofs.Euler.{fermat}
use Rattle.theory.proofs.Images.{Image, fourth_step}
use Rattle.theory.proofs.JoiningLaws.{ratios_laws}
use Rattle.theory.proofs.PowerLaws.{power_one_multiple}
use Rattle.theory.proofs.Powers.{pow_suc_is, pow_one, pow_mul, join_reduced}
use Rattle.joining.specs.Ladder.{climbed}
use Rattle.joining.specs.declared.Back.TheVariants.{Two}
use Rattle.roots.specs.State.{twos, odd}
use Rattle.roots.proofs.Climbs.{TwoBefore, climb_two}
use Rattle.roots.proofs.StepSix.{Stands}

-- in any joining, a rung of a ladder by 2 is the one before it joined with itself
doubled : {E : Type 0} (o : Operation E) → OperationLaws o → (x : E) (u i : ℕ)
    → pow o x (u * 2 ^ suc i) ≡ o.join (pow o x (u * 2 ^ i)) (pow o x (u * 2 ^ i))
doubled {E} o laws x u i =
    ap (pow o x) (ap (◌*◌ u) (pow-suc 2 i) ∙ sym (mul_assoc u (2 ^ i) 2)) ∙ sym (pow_mul o laws x (u * 2 ^ i) 2) ∙ twice (pow o x (u * 2 ^ i))
  where
    twice : (y : E) → pow o y 2 ≡ o.join y y
    twice y = pow_suc_is o y 1 ∙ ap (λ (z : E). o.join z y) (pow_one o y) ∙ join_reduced o laws y y

module _ (m : Meaning) (laws : Laws m) (lawful : Lawful m) (uneven : m.size % 2 ≡ 1) (α mark g : ℕ) (image : Image m α mark g) where
  -- the power size − 1 of g : 1 is spent
  pub last_spent : (k : ℕ) → k ≡ m.size - 1 → (ratios m mark).spent (pow (ratios m mark) (ratio g 1) k) ≡ true
  last_spent k whole =
      (image.spent_exactly k).1
      (ap (power m image.h) whole ∙ fermat m laws lawful uneven image.h image.above image.below)

  -- What step 3 comes to.
  abbrev pub Third : ℕ → Type 0
  Third i =
      ((n : ℕ) × (power m image.h (2 * odd m.size) ≡ 1)
      × (climbed (ratios m mark) g (odd m.size) 2 (twos m.size) Two ≡ Ok (None, n)))
      ⊎ ((e : Ratio) × (n : ℕ) × Stands m mark (ratio (m.product e.top i) e.bottom)
      × (climbed (ratios m mark) g (odd m.size) 2 (twos m.size) Two ≡ Ok (Some e, n)))

  pub third : (i : ℕ) → m.product i i ≡ m.negative 1 → mark < m.size → m.size - 1 ≡ 2 ^ twos m.size * odd m.size → Third i
  third i minus below parts = from (climb_two o (ratios_laws m laws mark) g u 2 e (last_spent (u * 2 ^ e) (mul_comm u (2 ^ e) ∙ sym parts)))
    where
      o : Operation Ratio
      o = ratios m mark

      u : ℕ
      u = odd m.size

      e : ℕ
      e = twos m.size

      h : ℕ
      h = image.h

      from : TwoBefore o (ratios_laws m laws mark) g u 2 e → Third i
      from (inl (n, inl spent, is)) =
          inl (n, ap (power m h) (omega arith) ∙ power_one_multiple m laws h (u * 2 ^ 0) 2 ((image.spent_exactly (u * 2 ^ 0)).0 spent), is)
      from (inl (n, inr spent, is)) = inl (n, ap (power m h) (omega arith) ∙ (image.spent_exactly (u * 2 ^ 1)).0 spent, is)
      from (inr (k, n, within, unspent, spent, is)) =
          let x = pow o (ratio g 1) (u * 2 ^ k) in
          let once = doubled o (ratios_laws m laws mark) (ratio g 1) u k in
          let twice = doubled o (ratios_laws m laws mark) (ratio g 1) u (suc k) ∙ ap (λ (y : Ratio). o.join y y) once in
          let root = fourth_step m laws lawful mark i x below minus (sym (ap o.spent once) ∙ unspent) (sym (ap o.spent twice) ∙ spent) in
          inr (x, n, record { some = root.0; squares = root.1 }, is)
