-- The inverse of a pair from that of its norm, with x and y the parts of a.
use Rattle.std.proofs.Common.{◌≡◌, ℕ, ◌+◌, ◌-◌, ◌*◌, ◌/◌, ◌%◌, ◌<◌, ◌≤◌, sym, ap, ◌∙◌, subst, ap₂, mod-lt, mul-le-mul, arith}
use Rattle.theory.specs.Pairs.{imaginary, pair, pairs, real}
use Rattle.theory.proofs.PairInverses.{conjugate_times, norm, norm_inverts, norm_needed}
use Rattle.theory.proofs.PairParts.{pair_below}

module _ (p a x y : ℕ) (low : 2 ≤ p) (high : p ≤ 2147483647) (first : x ≡ real p a) (second : y ≡ imaginary p a) where
  some : 0 < p
  some = omega arith

  norm_is : x * x + y * y ≡ norm p a
  norm_is = ap₂ (λ m n. m * m + n * n) first second

  pub norm_fits : x * x + y * y ≤ 2 * (2147483647 * 2147483647)
  norm_fits =
      let square : (z n : ℕ) → z ≡ n % p → z * z ≤ 2147483647 * 2147483647
      = λ z n e. let h : z ≤ 2147483647 = omega (arith, mod-lt n some) in mul-le-mul h h in
      omega (arith, square x a first, square y (a / p) second)

  pub conjugate_found : (v r : ℕ) → (x * x + y * y) * v % p ≡ 1 → r ≡ pair p (x * v) ((p - y) * v)
      → (r < p * p) × ((pairs p).product a r ≡ 1)
  conjugate_found v r e f =
      let g : r ≡ conjugate_times p a v = f ∙ ap₂ (λ m n. pair p (m * v) ((p - n) * v)) first second in (
        subst (λ n. n < p * p) (sym f) (pair_below p some (x * v) ((p - y) * v)),
        (ap ((pairs p).product a) g ∙ norm_inverts p low high a v (ap (λ n. n * v % p) (sym norm_is) ∙ e)),
      )

  pub conjugate_none : ((v : ℕ) → (x * x + y * y) * v % p ≡ 1 → ⊥) → (b : ℕ) → (pairs p).product a b ≡ 1 → ⊥
  conjugate_none none b e =
      none (norm p b) (ap (λ n. n * norm p b % p) norm_is ∙ norm_needed p low high a b e)
