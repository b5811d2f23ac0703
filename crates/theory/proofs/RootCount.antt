-- A polynomial over a lawful field has at most as many roots as its degree; so has the equation x^k = 1.
-- A polynomial here begins with its constant, and its leading coefficient, a 1 after the last of the list, is not written.
use Rattle.std.proofs.Common.{◌≡◌, ℕ, zero, suc, ◌+◌, ◌%◌, ◌<◌, ◌≤◌, ◌⊎◌, List, [], ◌∷◌, length, replicate, sym, refl, ap, ◌∙◌, inl, inr, mod-eq_of_lt, arith}
use native.Mathlib.Decide.{ℕ_discrete}
use lib.ListN.{length-replicate}
use Rattle.theory.specs.Meaning.{Meaning, Laws, Lawful}
use Rattle.theory.specs.Power.{power}
use Rattle.theory.proofs.Bounded.{bounded_some}
use Rattle.theory.proofs.Codes.{code, code_ring, code_injective, code_rules}
use Rattle.theory.proofs.Fields.{zero_sum, negative_only, negative_negative, zero_divisors}
use Rattle.theory.proofs.Lists.{All, Distinct, all_has, has_all, all_map, images, length_images, distinct_images, all_images}
use Rattle.theory.proofs.PowerLaws.{one_below, power_zero, power_suc}
use Rattle.theory.proofs.Solver.{solve, quote}

-- The value at x.
value : Meaning → List ℕ → ℕ → ℕ
value m [] x = 1
value m (c ∷ cs) x = m.sum c (m.product x (value m cs x))

-- The quotient of c ∷ cs by x − a, for any c.
divided : Meaning → ℕ → List ℕ → List ℕ
divided m a [] = []
divided m a (d ∷ ds) = value m (d ∷ ds) a ∷ divided m a ds

length_divided : (m : Meaning) (a : ℕ) (cs : List ℕ) → length (divided m a cs) ≡ length cs
unfolding divided
length_divided m a [] = refl
length_divided m a (d ∷ ds) = ap suc (length_divided m a ds)

module _ (m : Meaning) (laws : Laws m) where
  value_below : (cs : List ℕ) (x : ℕ) → value m cs x < m.size
  unfolding value
  value_below [] x = one_below m laws
  value_below (c ∷ cs) x = laws.sum_below c (m.product x (value m cs x))

  -- c + x = (c + a) + (x − a)
  factor_last : (c x a : ℕ)
      → m.sum c (m.product x 1) ≡ m.sum (m.sum c (m.product a 1)) (m.product (m.sum x (m.negative a)) 1)
  factor_last c x a =
      code_injective m laws _ _ (laws.sum_below _ _) (laws.sum_below _ _)
      (simp code_rules (solve (code_ring m laws) (code m laws c ∷ code m laws x ∷ code m laws a ∷ []) (search quote depth 20) tt))

  -- c + x(q + (x − a)s) = (c + aq) + (x − a)(q + xs)
  factor_more : (c x a q s : ℕ)
      → m.sum c (m.product x (m.sum q (m.product (m.sum x (m.negative a)) s)))
      ≡ m.sum (m.sum c (m.product a q)) (m.product (m.sum x (m.negative a)) (m.sum q (m.product x s)))
  factor_more c x a q s =
      code_injective m laws _ _ (laws.sum_below _ _) (laws.sum_below _ _)
      (simp code_rules
      (solve (code_ring m laws) (code m laws c ∷ code m laws x ∷ code m laws a ∷ code m laws q ∷ code m laws s ∷ []) (search quote depth 20) tt))

  -- division with remainder by x − a: the remainder is the value at a
  factor : (c x a : ℕ) (cs : List ℕ)
      → value m (c ∷ cs) x ≡ m.sum (value m (c ∷ cs) a) (m.product (m.sum x (m.negative a)) (value m (divided m a cs) x))
  unfolding value divided
  factor c x a [] = factor_last c x a
  factor c x a (d ∷ ds) =
      ap (λ y. m.sum c (m.product x y)) (factor d x a ds)
      ∙ factor_more c x a (value m (d ∷ ds) a) (value m (divided m a ds) x)

  -- x^j is the value of the polynomial with j zeros
  value_zeros : (j x : ℕ) → value m (replicate j 0) x ≡ power m x j
  unfolding value
  value_zeros zero x = sym (power_zero m laws x)
  value_zeros (suc j) x =
      ap (λ y. m.sum 0 (m.product x y)) (value_zeros j x) ∙ zero_sum m laws (m.product x (power m x j)) (laws.product_below x (power m x j))
      ∙ laws.product_comm x (power m x j) ∙ sym (power_suc m laws x j)

  -- x^(j + 1) = 1 as a polynomial: −1 and j zeros
  equation_root : (x j : ℕ) → power m x (suc j) ≡ 1 → value m (m.negative 1 ∷ replicate j 0) x ≡ 0
  unfolding value
  equation_root x j one =
      ap (m.sum (m.negative 1))
      (ap (m.product x) (value_zeros j x) ∙ laws.product_comm x (power m x j) ∙ sym (power_suc m laws x j) ∙ one)
      ∙ laws.sum_comm (m.negative 1) 1 ∙ laws.sum_negative 1

  -- x − a = 0 gives x = a
  difference_zero : (x a : ℕ) → x < m.size → a < m.size → m.sum x (m.negative a) ≡ 0 → x ≡ a
  difference_zero x a below-x below-a e =
      negative_only m laws (m.negative a) x below-x (laws.sum_comm (m.negative a) x ∙ e) ∙ negative_negative m laws a below-a

module _ (m : Meaning) (laws : Laws m) (lawful : Lawful m) where
  -- a root other than the root a is a root of the quotient
  other_root : (c a x : ℕ) (cs : List ℕ) → a < m.size → x < m.size → (a ≡ x → ⊥) → value m (c ∷ cs) a ≡ 0
      → value m (c ∷ cs) x ≡ 0 → value m (divided m a cs) x ≡ 0
  other_root c a x cs below-a below-x apart zero_a zero-x = from (zero_divisors m laws lawful difference rest product)
    where
      difference : ℕ
      difference = m.sum x (m.negative a)

      rest : ℕ
      rest = value m (divided m a cs) x

      product : m.product difference rest ≡ 0
      product =
          sym (zero_sum m laws (m.product difference rest) (laws.product_below difference rest))
          ∙ ap (λ y. m.sum y (m.product difference rest)) (sym zero_a) ∙ sym (factor m laws c x a cs) ∙ zero-x

      from : (difference % m.size ≡ 0) ⊎ (rest % m.size ≡ 0) → rest ≡ 0
      from (inl e) =
          absurd
          (apart
          (sym (difference_zero m laws x a below-x below-a (sym (mod-eq_of_lt (laws.sum_below x (m.negative a))) ∙ e))))
      from (inr e) = sym (mod-eq_of_lt (value_below m laws (divided m a cs) x)) ∙ e

  abbrev Root : List ℕ → ℕ → Type 0
  Root cs x = (x < m.size) × (value m cs x ≡ 0)

  roots_in : (fuel : ℕ) (cs xs : List ℕ) → length cs ≤ fuel → Distinct xs → All (Root cs) xs → length xs ≤ length cs
  unfolding value
  roots_in fuel cs [] h distinct roots = omega arith
  roots_in fuel [] (a ∷ xs) h distinct roots = absurd (omega (arith, roots.0.1))
  roots_in zero (c ∷ cs) (a ∷ xs) h distinct roots = absurd (omega (arith, h))
  roots_in (suc fuel) (c ∷ cs) (a ∷ xs) h distinct roots =
      omega (arith, roots_in fuel (divided m a cs) xs (omega (arith, h, length_divided m a cs)) distinct.1 others, length_divided m a cs)
    where
      others : All (Root (divided m a cs)) xs
      others =
          has_all (Root (divided m a cs)) xs
          (λ x g.
          let root = all_has (Root (c ∷ cs)) xs roots.1 x g in (
            root.0,
            other_root c a x cs roots.0.0 root.0 (all_has (λ y. a ≡ y → ⊥) xs distinct.0 x g) roots.0.1 root.1,
          ))

  -- distinct codes whose power k is 1 number at most k
  pub power_roots : (k : ℕ) → 0 < k → (xs : List ℕ) → Distinct xs → All (λ x. (x < m.size) × (power m x k ≡ 1)) xs → length xs ≤ k
  power_roots zero positive xs distinct roots = absurd (omega arith)
  power_roots (suc j) positive xs distinct roots =
      omega (arith, roots_in (suc j) equation xs (omega (arith, degree)) distinct each, degree)
    where
      equation : List ℕ
      equation = m.negative 1 ∷ replicate j 0

      degree : length equation ≡ suc j
      degree = ap suc (length-replicate j 0)

      each : All (Root equation) xs
      each = all_map _ (Root equation) xs (λ x root. (root.0, equation_root m laws x j root.1)) roots

  -- so among k + 1 distinct codes one has another power k
  pub power_escapes : (k : ℕ) → 0 < k → (f : ℕ → ℕ) → ((i j : ℕ) → i < j → j ≤ k → f i ≡ f j → ⊥)
      → ((i : ℕ) → i ≤ k → f i < m.size) → (i : ℕ) × (i ≤ k) × (power m (f i) k ≡ 1 → ⊥)
  power_escapes k positive f apart below =
      let found = bounded_some (λ i. power m (f i) k ≡ 1 → ⊥) (λ i. differs (power m (f i) k) 1) (suc k) none in
      (found.0, omega (arith, found.1), found.2)
    where
      differs : (a b : ℕ) → Dec (a ≡ b → ⊥)
      differs a b = elim (ℕ_discrete a b) [ yes e ↦ no (λ other. other e) | no other ↦ yes other ]

      equal : (a b : ℕ) → ((a ≡ b → ⊥) → ⊥) → a ≡ b
      equal a b not-other = elim (ℕ_discrete a b) [ yes e ↦ e | no other ↦ absurd (not-other other) ]

      none : ((i : ℕ) → i < suc k → (power m (f i) k ≡ 1 → ⊥) → ⊥) → ⊥
      none each =
          omega (
            arith,
            length_images f (suc k),
            power_roots k positive (images f (suc k)) (distinct_images f (suc k) (λ i j h g. apart i j h (omega arith)))
                (all_images (λ x. (x < m.size) × (power m x k ≡ 1)) f (suc k)
                (λ i h. (below i (omega arith), equal (power m (f i) k) 1 (each i h)))),
          )

  -- and one of the codes 1 to k + 1 has
  pub power_escapes_codes : (k : ℕ) → 0 < k → k + 1 < m.size → (g : ℕ) × (0 < g) × (g ≤ k + 1) × (power m g k ≡ 1 → ⊥)
  power_escapes_codes k positive room =
      let found = power_escapes k positive suc (λ i j h g e. omega arith) (λ i h. omega arith) in
      (suc found.0, omega arith, omega (arith, found.1), found.2)
