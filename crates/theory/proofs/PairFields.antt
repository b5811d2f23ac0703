-- The pairs modulo p are a lawful field where p is a prime that leaves 3 on division by 4: there −1 has no root modulo p.
use Rattle.std.proofs.Common.{◌≡◌, ℕ, suc, ◌+◌, ◌-◌, ◌*◌, ◌/◌, ◌%◌, ◌<◌, ◌≤◌, [], ◌∷◌, sym, ap, ◌∙◌, ap₂, ⊎_elim, mod-lt, mod-eq_of_lt, div-lt_iff_lt-mul, eq-zero-or-pos, add_comm, div-add-mod', arith}
use native.Mathlib.Nat.{zero-mod}
use Rattle.theory.specs.Meaning.{Lawful, Laws, Meaning}
use Rattle.theory.specs.Numbers.{Prime}
use Rattle.theory.specs.Pairs.{imaginary, pairs, real}
use Rattle.theory.specs.Power.{power}
use Rattle.theory.specs.Residues.{residues}
use Rattle.theory.proofs.Algebra.{CommRing}
use Rattle.theory.proofs.Codes.{Code, code_injective, code_negative, code_product}
use Rattle.theory.proofs.Euler.{euler_of_square}
use Rattle.theory.proofs.Fields.{negative_positive, product_negatives}
use Rattle.theory.proofs.Odd.{negative_differs}
use Rattle.theory.proofs.PairInverses.{conjugate_times, norm, norm_inverts}
use Rattle.theory.proofs.PairParts.{part, part_one, part_product, part_same, part_sum, part_zero, parts}
use Rattle.theory.proofs.PowerLaws.{one_product, power_mul, power_of_one, power_suc, power_two}
use Rattle.theory.proofs.ResidueFields.{prime_lawful}
use Rattle.theory.proofs.ResidueLaws.{product_left, residues_laws_31}
use Rattle.theory.proofs.Solver.{by_equations, quote, solve}

module _ (m : Meaning) (laws : Laws m) where
  -- an odd power of −1 is −1
  odd_power : (k : ℕ) → power m (m.negative 1) (suc (2 * k)) ≡ m.negative 1
  odd_power k =
      power_suc m laws (m.negative 1) (2 * k)
      ∙ ap (λ x. m.product x (m.negative 1))
      (sym (power_mul m laws (m.negative 1) 2 k)
      ∙ ap (λ x. power m x k)
      (power_two m laws (m.negative 1) ∙ product_negatives m laws 1 1 ∙ laws.product_one 1 laws.size_low)
      ∙ power_of_one m laws k)
      ∙ one_product m laws (m.negative 1) (laws.negative_below 1)

  -- In a lawful field whose size leaves 3 on division by 4, −1 has no root.
  pub minus_one_rootless : Lawful m → m.size % 4 ≡ 3 → (x : ℕ) → m.product x x ≡ m.negative 1 → ⊥
  minus_one_rootless lawful three x e =
      let odd : m.size % 2 ≡ 1 = omega arith in
      let half : (m.size - 1) / 2 ≡ suc (2 * (m.size / 4)) = omega arith in
      negative_differs m laws lawful odd 1 (omega arith) laws.size_low
      (sym (odd_power (m.size / 4)) ∙ ap (power m (m.negative 1)) (sym half)
      ∙ euler_of_square m laws lawful odd (m.negative 1)
      (negative_positive m laws 1 (omega arith) laws.size_low) (laws.negative_below 1) x e)

-- where x × x + y × y is 0 and v inverts y, the square of x × v is −1
root_of_minus_one : {R : Type 0} (r : CommRing R) (x y v : R) → r.add (r.mul x x) (r.mul y y) ≡ r.zero
    → r.mul y v ≡ r.one → r.mul (r.mul x v) (r.mul x v) ≡ r.neg r.one
root_of_minus_one r x y v h k =
    by_equations r (r.mul v v) (r.neg (r.add (r.mul y v) r.one)) h k
    (solve r (x ∷ y ∷ v ∷ []) (search quote depth 20) tt)

module _ (p : ℕ) (low : 3 ≤ p) (high : p ≤ 2147483647) (prime : Prime p) (three : p % 4 ≡ 3) where
  low_two : 2 ≤ p
  low_two = omega arith

  abbrev laws : Laws (residues p)
  laws = residues_laws_31 p low_two high

  abbrev ring : CommRing (Code (residues p))
  ring = parts p low_two high

  abbrev of : ℕ → Code (residues p)
  of = part p low_two high

  -- Modulo p, x × x + y × y is 0 only where y is,
  no_norm : (x y : ℕ) → 0 < y → y < p → (x * x + y * y) % p ≡ 0 → ⊥
  no_norm x y some below e =
      let (v, i) = prime_lawful p prime y some below in
      let sum : ring.add (ring.mul (of x) (of x)) (ring.mul (of y) (of y)) ≡ ring.zero
      = sym (part_sum p low_two high (x * x) (y * y)
      ∙ ap₂ ring.add (part_product p low_two high x x) (part_product p low_two high y y))
      ∙ part_same p low_two high (x * x + y * y) 0 (e ∙ sym (zero-mod p)) ∙ part_zero p low_two high in
      let inverts : ring.mul (of y) (of v) ≡ ring.one
      = sym (part_product p low_two high y v) ∙ part_same p low_two high (y * v) 1 (i ∙ sym (mod-eq_of_lt low_two))
      ∙ part_one p low_two high in
      minus_one_rootless (residues p) laws (prime_lawful p prime) three (x * v)
      (code_injective (residues p) laws _ _ (laws.product_below (x * v) (x * v)) (laws.negative_below 1)
      (code_product (residues p) laws (x * v) (x * v)
      ∙ ap₂ ring.mul (part_product p low_two high x v) (part_product p low_two high x v)
      ∙ root_of_minus_one ring (of x) (of y) (of v) sum inverts
      ∙ sym (code_negative (residues p) laws 1 ∙ ap ring.neg (part_one p low_two high))))

  -- so the norm of a number other than 0 is not 0,
  norm_some : (a : ℕ) → 0 < a → a < p * p → norm p a % p ≡ 0 → ⊥
  norm_some a some below e =
      let x = real p a in
      let y = imaginary p a in
      let positive : 0 < p = omega arith in
      ⊎_elim
      (λ (zero-y : y ≡ 0). ⊎_elim
      (λ (zero-x : x ≡ 0).
      let quotient : a / p ≡ 0
      = sym (mod-eq_of_lt ((div-lt_iff_lt-mul positive).1 below)) ∙ zero-y in
      let back : a ≡ 0 * p + 0 = sym (div-add-mod' a p) ∙ ap₂ (λ m n. m * p + n) quotient zero-x in
      omega arith)
      (λ some-x. no_norm y x some-x (mod-lt a positive) (ap (λ n. n % p) (add_comm (y * y) (x * x)) ∙ e))
      (eq-zero-or-pos x))
      (λ some-y. no_norm x y some-y (mod-lt (a / p) positive) e) (eq-zero-or-pos y)

  -- and has an inverse, which gives one of the number.
  pub prime_pairs_lawful : Lawful (pairs p)
  prime_pairs_lawful a some below =
      let positive : 0 < p = omega arith in
      let apart = norm_some a some below in
      let (v, e) = prime_lawful p prime (norm p a % p) (omega arith) (mod-lt (norm p a) positive) in
      (conjugate_times p a v, norm_inverts p low_two high a v (sym (product_left p (norm p a) v) ∙ e))
