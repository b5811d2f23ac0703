-- Inverses of pairs modulo p, through the norm x × x + y × y of x + y·i: it is multiplicative.
use Rattle.std.proofs.Common.{◌≡◌, ℕ, ◌+◌, ◌-◌, ◌*◌, ◌/◌, ◌%◌, ◌≤◌, [], ◌∷◌, sym, ap, ◌∙◌, ap₂, mod-lt, mod-eq_of_lt, arith}
use native.Mathlib.Nat.{mod_self}
use Rattle.theory.specs.Pairs.{imaginary, pair, pairs, real}
use Rattle.theory.specs.Residues.{residues}
use Rattle.theory.proofs.Algebra.{CommRing}
use Rattle.theory.proofs.Codes.{Code}
use Rattle.theory.proofs.PairLaws.{product_below, square_low}
use Rattle.theory.proofs.PairParts.{im, im_one, im_pair, im_product, pair_path, part, part_less, part_one, part_product, part_rules, part_same, part_sum, part_value, parts, re, re_one, re_pair, re_product}
use Rattle.theory.proofs.Solver.{quote, solve}

abbrev pub norm : ℕ → ℕ → ℕ
norm p a = real p a * real p a + imaginary p a * imaginary p a

-- what inverts a where v inverts the norm
abbrev pub conjugate_times : ℕ → ℕ → ℕ → ℕ
conjugate_times p a v = pair p (real p a * v) ((p - imaginary p a) * v)

-- ---- the identities, in any ring

module _ {R : Type 0} (r : CommRing R) (x y : R) where
  abbrev sum_of_squares : R
  sum_of_squares = r.add (r.mul x x) (r.mul y y)

  -- (x + y·i) × (x − y·i) × v = 1 where (x × x + y × y) × v = 1
  conjugate_real : (v : R) → r.mul sum_of_squares v ≡ r.one
      → r.add (r.mul x (r.mul x v)) (r.neg (r.mul y (r.mul (r.neg y) v))) ≡ r.one
  conjugate_real v e = solve r (x ∷ y ∷ v ∷ []) (search quote depth 20) tt ∙ e

  conjugate_imaginary : (v : R) → r.add (r.mul x (r.mul (r.neg y) v)) (r.mul y (r.mul x v)) ≡ r.zero
  conjugate_imaginary v = solve r (x ∷ y ∷ v ∷ []) (search quote depth 20) tt

-- the norm of a product is the product of the norms
norms : {R : Type 0} (r : CommRing R) (x y z w : R)
    → r.mul (sum_of_squares r x y) (sum_of_squares r z w)
    ≡ sum_of_squares r (r.add (r.mul x z) (r.neg (r.mul y w))) (r.add (r.mul x w) (r.mul y z))
norms r x y z w = solve r (x ∷ y ∷ z ∷ w ∷ []) (search quote depth 20) tt

norm_of_one : {R : Type 0} (r : CommRing R) → sum_of_squares r r.one r.zero ≡ r.one
norm_of_one r = solve r [] (search quote depth 20) tt

-- ---- and for codes

module _ (p : ℕ) (low : 2 ≤ p) (high : p ≤ 2147483647) (a : ℕ) where
  pub part_norm : part p low high (norm p a) ≡ sum_of_squares (parts p low high) (re p low high a) (im p low high a)
  unfolding re im
  part_norm =
      part_sum p low high (real p a * real p a) (imaginary p a * imaginary p a)
      ∙ ap₂ (parts p low high).add (part_product p low high _ _) (part_product p low high _ _)

  re_conjugate : (v : ℕ) → re p low high (conjugate_times p a v) ≡ (parts p low high).mul (re p low high a) (part p low high v)
  unfolding re
  re_conjugate v = re_pair p low high (real p a * v) ((p - imaginary p a) * v) ∙ part_product p low high (real p a) v

  im_conjugate : (v : ℕ)
      → im p low high (conjugate_times p a v)
      ≡ (parts p low high).mul ((parts p low high).neg (im p low high a)) (part p low high v)
  unfolding im
  im_conjugate v =
      im_pair p low high (real p a * v) ((p - imaginary p a) * v) ∙ part_product p low high (p - imaginary p a) v
      ∙ ap (λ (z : Code (residues p)). (parts p low high).mul z (part p low high v))
      (part_less p low high p (imaginary p a) (mod_self p) (omega (arith, mod-lt (a / p) {m = p} (omega arith))))

  -- Where v inverts the norm, there is an inverse.
  pub norm_inverts : (v : ℕ) → norm p a * v % p ≡ 1 → (pairs p).product a (conjugate_times p a v) ≡ 1
  norm_inverts v e =
      let inverts : (parts p low high).mul (sum_of_squares (parts p low high) (re p low high a) (im p low high a)) (part p low high v)
      ≡ (parts p low high).one
      = ap (λ (z : Code (residues p)). (parts p low high).mul z (part p low high v)) (sym part_norm)
      ∙ sym (part_product p low high (norm p a) v)
      ∙ part_same p low high (norm p a * v) 1 (e ∙ sym (mod-eq_of_lt low)) ∙ part_one p low high in
      pair_path p low high _ 1 (product_below p low high _ _) (square_low p low high)
      (simp (part_rules, re_conjugate, im_conjugate) (conjugate_real (parts p low high) (re p low high a) (im p low high a) (part p low high v) inverts))
      (simp (part_rules, re_conjugate, im_conjugate) (conjugate_imaginary (parts p low high) (re p low high a) (im p low high a) (part p low high v)))

-- Where there is an inverse, its norm inverts the norm.
pub norm_needed : (p : ℕ) → 2 ≤ p → p ≤ 2147483647 → (a b : ℕ) → (pairs p).product a b ≡ 1 → norm p a * norm p b % p ≡ 1
norm_needed p low high a b e =
    part_value p low high (norm p a * norm p b) 1
    (part_product p low high (norm p a) (norm p b) ∙ ap₂ (parts p low high).mul (part_norm p low high a) (part_norm p low high b)
    ∙ norms (parts p low high) (re p low high a) (im p low high a) (re p low high b) (im p low high b)
    ∙ ap₂ (sum_of_squares (parts p low high))
    (sym (re_product p low high a b) ∙ ap (re p low high) e ∙ re_one p low high)
    (sym (im_product p low high a b) ∙ ap (im p low high) e ∙ im_one p low high)
    ∙ norm_of_one (parts p low high) ∙ sym (part_one p low high))
    ∙ mod-eq_of_lt low
