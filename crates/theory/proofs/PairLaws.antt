-- The pairs modulo p are a ring.
use Rattle.std.proofs.Common.{◌≡◌, ℕ, ◌+◌, ◌-◌, ◌*◌, ◌<◌, ◌≤◌, List, [], ◌∷◌, ap₂, mul-le-mul, arith}
use Rattle.theory.specs.Meaning.{Laws}
use Rattle.theory.specs.Pairs.{imaginary, pair, pairs, real}
use Rattle.theory.specs.Residues.{residues}
use Rattle.theory.proofs.Codes.{Code}
use Rattle.theory.proofs.PairParts.{im, imaginary_remainder, pair_below, pair_path, part_rules, parts, re, real_remainder}
use Rattle.theory.proofs.Solver.{solve, quote}

module _ (p : ℕ) (low : 2 ≤ p) (high : p ≤ 2147483647) where
  some : 0 < p
  some = omega arith

  -- the two parts of a code, for the list of what stands in an identity
  abbrev pub both : ℕ → List (Code (residues p)) → List (Code (residues p))
  both a rest = re p low high a ∷ im p low high a ∷ rest

  pub square_low : 2 ≤ p * p
  square_low = omega (arith, mul-le-mul {n₁ = 2} {m₁ = 2} low low)

  square_some : 0 < p * p
  square_some = omega (arith, square_low)

  sum_below : (a b : ℕ) → (pairs p).sum a b < p * p
  sum_below a b = pair_below p some _ _

  pub product_below : (a b : ℕ) → (pairs p).product a b < p * p
  product_below a b = pair_below p some _ _

  sum_assoc : (a b c : ℕ) → (pairs p).sum ((pairs p).sum a b) c ≡ (pairs p).sum a ((pairs p).sum b c)
  sum_assoc a b c =
      pair_path p low high _ _ (sum_below _ _) (sum_below _ _)
      (simp part_rules (solve (parts p low high) (both a (both b (both c []))) (search quote depth 20) tt))
      (simp part_rules (solve (parts p low high) (both a (both b (both c []))) (search quote depth 20) tt))

  sum_comm : (a b : ℕ) → (pairs p).sum a b ≡ (pairs p).sum b a
  sum_comm a b =
      pair_path p low high _ _ (sum_below _ _) (sum_below _ _)
      (simp part_rules (solve (parts p low high) (both a (both b [])) (search quote depth 20) tt))
      (simp part_rules (solve (parts p low high) (both a (both b [])) (search quote depth 20) tt))

  sum_zero : (a : ℕ) → a < p * p → (pairs p).sum a 0 ≡ a
  sum_zero a h =
      pair_path p low high _ _ (sum_below _ _) h
      (simp part_rules (solve (parts p low high) (both a []) (search quote depth 20) tt))
      (simp part_rules (solve (parts p low high) (both a []) (search quote depth 20) tt))

  sum_negative : (a : ℕ) → (pairs p).sum a ((pairs p).negative a) ≡ 0
  sum_negative a =
      pair_path p low high _ _ (sum_below _ _) square_some
      (simp part_rules (solve (parts p low high) (both a []) (search quote depth 20) tt))
      (simp part_rules (solve (parts p low high) (both a []) (search quote depth 20) tt))

  product_assoc : (a b c : ℕ) → (pairs p).product ((pairs p).product a b) c ≡ (pairs p).product a ((pairs p).product b c)
  product_assoc a b c =
      pair_path p low high _ _ (product_below _ _) (product_below _ _)
      (simp part_rules (solve (parts p low high) (both a (both b (both c []))) (search quote depth 20) tt))
      (simp part_rules (solve (parts p low high) (both a (both b (both c []))) (search quote depth 20) tt))

  product_comm : (a b : ℕ) → (pairs p).product a b ≡ (pairs p).product b a
  product_comm a b =
      pair_path p low high _ _ (product_below _ _) (product_below _ _)
      (simp part_rules (solve (parts p low high) (both a (both b [])) (search quote depth 20) tt))
      (simp part_rules (solve (parts p low high) (both a (both b [])) (search quote depth 20) tt))

  product_one : (a : ℕ) → a < p * p → (pairs p).product a 1 ≡ a
  product_one a h =
      pair_path p low high _ _ (product_below _ _) h
      (simp part_rules (solve (parts p low high) (both a []) (search quote depth 20) tt))
      (simp part_rules (solve (parts p low high) (both a []) (search quote depth 20) tt))

  product_sum : (a b c : ℕ) → (pairs p).product a ((pairs p).sum b c) ≡ (pairs p).sum ((pairs p).product a b) ((pairs p).product a c)
  product_sum a b c =
      pair_path p low high _ _ (product_below _ _) (sum_below _ _)
      (simp part_rules (solve (parts p low high) (both a (both b (both c []))) (search quote depth 20) tt))
      (simp part_rules (solve (parts p low high) (both a (both b (both c []))) (search quote depth 20) tt))

  -- The laws of the pairs modulo any p from 2 to 2,147,483,647.
  pub pairs_laws : Laws (pairs p)
  pairs_laws =
      record {
        size_low = square_low;
        size_high = omega (arith, mul-le-mul {n₂ = 2147483647} {m₂ = 2147483647} high high);
        sum_below = sum_below;
        negative_below = λ a. pair_below p some _ _;
        product_below = product_below;
        sum_remainder =
            λ a b. ap₂ (λ x y. pair p (x + real p b) (y + imaginary p b)) (real_remainder p some a) (imaginary_remainder p some a);
        negative_remainder =
            λ a. ap₂ (λ x y. pair p (p - x) (p - y)) (real_remainder p some a) (imaginary_remainder p some a);
        product_remainder =
            λ a b. ap₂
            (λ x y. pair p (x * real p b + (p * p - y * imaginary p b)) (x * imaginary p b + y * real p b))
            (real_remainder p some a) (imaginary_remainder p some a);
        sum_assoc = sum_assoc;
        sum_comm = sum_comm;
        sum_zero = sum_zero;
        sum_negative = sum_negative;
        product_assoc = product_assoc;
        product_comm = product_comm;
        product_one = product_one;
        product_sum = product_sum;
      }

-- The same for the moduli that the code offers.
pub pairs_laws_31 : (p : ℕ) → 3 ≤ p → p ≤ 2147483647 → Laws (pairs p)
pairs_laws_31 p low high = pairs_laws p (omega arith) high
