-- The parts x and y of a number x + y·i of the pairs modulo p, as numbers of the residues modulo p.
use Rattle.std.proofs.Common.{◌≡◌, ℕ, ◌+◌, ◌-◌, ◌*◌, ◌/◌, ◌%◌, ◌<◌, ◌≤◌, sym, ap, ◌∙◌, ap₂, mod-lt, mod-eq_of_lt, div-lt_iff_lt-mul, add-sub_of_le, mul-le-mul, div-add-mod', zero-add, arith}
use native.Mathlib.Nat.{add-mul-div_left, add-mul-mod_self_left, div-eq_of_lt, mod-mod, mod_self, mul-mod_left, zero-div}
use lib.Arith.{digits_div, digits_mod, mod-mul}
use Rattle.theory.specs.Pairs.{imaginary, pair, pairs, real}
use Rattle.theory.specs.Residues.{residues}
use Rattle.theory.proofs.Algebra.{CommRing, neg_only}
use Rattle.theory.proofs.Codes.{Code, code, code_is_zero, code_one, code_product, code_remainder, code_ring, code_same, code_sum, code_zero}
use Rattle.theory.proofs.ResidueLaws.{residues_laws_31}

-- ---- the parts of a code

module _ (p : ℕ) (some : 0 < p) where
  -- the parts of a pair are its parts
  pub real_pair : (x y : ℕ) → real p (pair p x y) ≡ x % p
  real_pair x y = add-mul-mod_self_left (x % p) p (y % p) ∙ mod-mod x p

  pub imaginary_pair : (x y : ℕ) → imaginary p (pair p x y) ≡ y % p
  imaginary_pair x y =
      ap (λ n. n % p)
      (add-mul-div_left (x % p) (y % p) some ∙ ap (λ n. n + y % p) (div-eq_of_lt (mod-lt x some)) ∙ zero-add (y % p))
      ∙ mod-mod y p

  pub pair_below : (x y : ℕ) → pair p x y < p * p
  pair_below x y =
      let h : p * (y % p + 1) ≤ p * p = mul-le-mul {n₁ = p} {m₁ = y % p + 1} {n₂ = p} {m₂ = p} (omega arith) (omega (arith, mod-lt y some)) in
      omega (arith, mod-lt x some)

  -- a code counts as its remainder by p × p
  pub real_remainder : (a : ℕ) → real p (a % (p * p)) ≡ real p a
  real_remainder a = ap (λ n. n % p) (mod-mul a some some) ∙ digits_mod (a / p % p) (mod-lt a some)

  pub imaginary_remainder : (a : ℕ) → imaginary p (a % (p * p)) ≡ imaginary p a
  imaginary_remainder a =
      ap (λ n. n / p % p) (mod-mul a some some) ∙ ap (λ n. n % p) (digits_div (a / p % p) (mod-lt a some)) ∙ mod-mod (a / p) p

  -- two codes below p × p are equal where their parts are
  pub parts_same : (a b : ℕ) → a < p * p → b < p * p → real p a ≡ real p b → imaginary p a ≡ imaginary p b → a ≡ b
  parts_same a b h k e f =
      let small : (c : ℕ) → c < p * p → c / p < p = λ c l. (div-lt_iff_lt-mul some).1 l in
      let g : a / p ≡ b / p = sym (mod-eq_of_lt (small a h)) ∙ f ∙ mod-eq_of_lt (small b k) in
      sym (div-add-mod' a p) ∙ ap₂ (λ m n. m * p + n) g e ∙ div-add-mod' b p

-- ---- the parts as numbers of the residues modulo p

module _ (p : ℕ) (low : 2 ≤ p) (high : p ≤ 2147483647) where
  some : 0 < p
  some = omega arith

  -- the residues modulo p
  abbrev pub parts : CommRing (Code (residues p))
  parts = code_ring (residues p) (residues_laws_31 p low high)

  abbrev pub part : ℕ → Code (residues p)
  part = code (residues p) (residues_laws_31 p low high)

  pub part_same : (x y : ℕ) → x % p ≡ y % p → part x ≡ part y
  part_same = code_same (residues p) (residues_laws_31 p low high)

  pub part_zero : part 0 ≡ parts.zero
  part_zero = code_zero (residues p) (residues_laws_31 p low high)

  pub part_one : part 1 ≡ parts.one
  part_one = code_one (residues p) (residues_laws_31 p low high)

  -- equal parts are of numbers that leave the same on division by p
  pub part_value : (x y : ℕ) → part x ≡ part y → x % p ≡ y % p
  part_value = code_remainder (residues p) (residues_laws_31 p low high)

  pub part_sum : (x y : ℕ) → part (x + y) ≡ parts.add (part x) (part y)
  part_sum x y =
      part_same (x + y) ((x + y) % p) (sym (mod-mod (x + y) p)) ∙ code_sum (residues p) (residues_laws_31 p low high) x y

  pub part_product : (x y : ℕ) → part (x * y) ≡ parts.mul (part x) (part y)
  part_product x y =
      part_same (x * y) (x * y % p) (sym (mod-mod (x * y) p))
      ∙ code_product (residues p) (residues_laws_31 p low high) x y

  -- a multiple of p less x is the negative of x
  pub part_less : (c x : ℕ) → c % p ≡ 0 → x ≤ c → part (c - x) ≡ parts.neg (part x)
  part_less c x e h =
      neg_only parts (part x) (part (c - x))
      (sym (part_sum x (c - x)) ∙ ap part (add-sub_of_le h) ∙ code_is_zero (residues p) (residues_laws_31 p low high) c e)

  -- the real and the imaginary part of a code
  unfoldable pub re : ℕ → Code (residues p)
  re a = part (real p a)

  unfoldable pub im : ℕ → Code (residues p)
  im a = part (imaginary p a)

  pub re_pair : (x y : ℕ) → re (pair p x y) ≡ part x
  unfolding re
  re_pair x y = part_same (real p (pair p x y)) x (ap (λ n. n % p) (real_pair p some x y) ∙ mod-mod x p)

  pub im_pair : (x y : ℕ) → im (pair p x y) ≡ part y
  unfolding im
  im_pair x y = part_same (imaginary p (pair p x y)) y (ap (λ n. n % p) (imaginary_pair p some x y) ∙ mod-mod y p)

  pub re_sum : (a b : ℕ) → re ((pairs p).sum a b) ≡ parts.add (re a) (re b)
  unfolding re
  re_sum a b = re_pair (real p a + real p b) (imaginary p a + imaginary p b) ∙ part_sum (real p a) (real p b)

  pub im_sum : (a b : ℕ) → im ((pairs p).sum a b) ≡ parts.add (im a) (im b)
  unfolding im
  im_sum a b = im_pair (real p a + real p b) (imaginary p a + imaginary p b) ∙ part_sum (imaginary p a) (imaginary p b)

  pub re_negative : (a : ℕ) → re ((pairs p).negative a) ≡ parts.neg (re a)
  unfolding re
  re_negative a =
      re_pair (p - real p a) (p - imaginary p a) ∙ part_less p (real p a) (mod_self p) (omega (arith, mod-lt a some))

  pub im_negative : (a : ℕ) → im ((pairs p).negative a) ≡ parts.neg (im a)
  unfolding im
  im_negative a =
      im_pair (p - real p a) (p - imaginary p a)
      ∙ part_less p (imaginary p a) (mod_self p) (omega (arith, mod-lt (a / p) some))

  pub re_product : (a b : ℕ)
      → re ((pairs p).product a b) ≡ parts.add (parts.mul (re a) (re b)) (parts.neg (parts.mul (im a) (im b)))
  unfolding re im
  re_product a b =
      let x = real p a in
      let y = imaginary p a in
      let x' = real p b in
      let y' = imaginary p b in
      re_pair (x * x' + (p * p - y * y')) (x * y' + y * x') ∙ part_sum (x * x') (p * p - y * y')
      ∙ ap₂ parts.add (part_product x x')
      (part_less (p * p) (y * y') (mul-mod_left p p)
      (mul-le-mul {n₁ = y} {m₁ = y'} {n₂ = p} {m₂ = p} (omega (arith, mod-lt (a / p) some)) (omega (arith, mod-lt (b / p) some)))
      ∙ ap parts.neg (part_product y y'))

  pub im_product : (a b : ℕ)
      → im ((pairs p).product a b) ≡ parts.add (parts.mul (re a) (im b)) (parts.mul (im a) (re b))
  unfolding re im
  im_product a b =
      let x = real p a in
      let y = imaginary p a in
      let x' = real p b in
      let y' = imaginary p b in
      im_pair (x * x' + (p * p - y * y')) (x * y' + y * x') ∙ part_sum (x * y') (y * x')
      ∙ ap₂ parts.add (part_product x y') (part_product y x')

  pub re_zero : re 0 ≡ parts.zero
  unfolding re
  re_zero = part_same (real p 0) 0 (mod-mod 0 p) ∙ part_zero

  pub im_zero : im 0 ≡ parts.zero
  unfolding im
  im_zero = part_same (imaginary p 0) 0 (mod-mod (0 / p) p ∙ ap (λ n. n % p) (zero-div p)) ∙ part_zero

  pub re_one : re 1 ≡ parts.one
  unfolding re
  re_one = part_same (real p 1) 1 (mod-mod 1 p) ∙ part_one

  pub im_one : im 1 ≡ parts.zero
  unfolding im
  im_one = part_same (imaginary p 1) 0 (mod-mod (1 / p) p ∙ ap (λ n. n % p) (div-eq_of_lt low)) ∙ part_zero

  -- Two codes below p × p are equal where their parts are.
  pub pair_path : (a b : ℕ) → a < p * p → b < p * p → re a ≡ re b → im a ≡ im b → a ≡ b
  unfolding re im
  pair_path a b h k e f =
      parts_same p some a b h k
      (sym (mod-mod a p) ∙ part_value (real p a) (real p b) e ∙ mod-mod b p)
      (sym (mod-mod (a / p) p) ∙ part_value (imaginary p a) (imaginary p b) f ∙ mod-mod (b / p) p)

-- What rewrites the parts of a code into the residues.
pub ruleset part_rules = (re_sum, im_sum, re_negative, im_negative, re_product, im_product, re_zero, im_zero, re_one, im_one)
