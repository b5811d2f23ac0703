-- Ratios x : y over a ring, for a mark β = α × α: the algebra behind Images. The two images of x : y are x + αy and x − αy.
use Rattle.std.proofs.Common.{◌≡◌, ℕ, [], ◌∷◌, sym, ap, ◌∙◌}
use Rattle.theory.proofs.Algebra.{CommRing, IsField, ring_pow, ring_pow_one, ring_pow_mul, no_zero_divisors, unit_cancel, sub_zero}
use Rattle.theory.proofs.Solver.{solve, quote, by_equation, by_equations}

module _ {R : Type 0} (r : CommRing R) where
  infixl 65 ◌⊕◌
  abbrev ◌⊕◌ : R → R → R
  ◌⊕◌ = r.add

  infixl 70 ◌⊗◌
  abbrev ◌⊗◌ : R → R → R
  ◌⊗◌ = r.mul

  infix 75 ⊖◌
  abbrev ⊖◌ : R → R
  ⊖◌ = r.neg

  -- The images of x : y joined with g : 1 are the images of x : y times g + α and g − α.
  pub plus_step : (α β x y g : R) → α ⊗ α ≡ β
      → (x ⊗ g ⊕ β ⊗ (y ⊗ r.one)) ⊕ α ⊗ (x ⊗ r.one ⊕ y ⊗ g) ≡ (x ⊕ α ⊗ y) ⊗ (g ⊕ α)
  plus_step α β x y g h = by_equation r (⊖ y) h (solve r (α ∷ β ∷ x ∷ y ∷ g ∷ []) (search quote depth 20) tt)

  pub minus_step : (α β x y g : R) → α ⊗ α ≡ β
      → (x ⊗ g ⊕ β ⊗ (y ⊗ r.one)) ⊕ ⊖ (α ⊗ (x ⊗ r.one ⊕ y ⊗ g)) ≡ (x ⊕ ⊖ (α ⊗ y)) ⊗ (g ⊕ ⊖ α)
  minus_step α β x y g h = by_equation r (⊖ y) h (solve r (α ∷ β ∷ x ∷ y ∷ g ∷ []) (search quote depth 20) tt)

  -- x + αy = h·(x − αy) with y = 0 and x − αy a unit gives h = 1.
  pub spent_one : (α x y h i : R) → y ≡ r.zero → (x ⊕ ⊖ (α ⊗ y)) ⊗ i ≡ r.one
      → x ⊕ α ⊗ y ≡ h ⊗ (x ⊕ ⊖ (α ⊗ y)) → h ≡ r.one
  spent_one α x y h i none unit e =
      unit_cancel r (x ⊕ ⊖ (α ⊗ y)) i h r.one unit
      (by_equations r (⊖ r.one) (α ⊕ α) e none (solve r (α ∷ x ∷ y ∷ h ∷ []) (search quote depth 20) tt))

  -- x + αy = x − αy gives y = 0, where 2 and α are not 0.
  pub one_spent : IsField r → (α x y : R) → (r.one ⊕ r.one ≡ r.zero → ⊥) → (α ≡ r.zero → ⊥)
      → x ⊕ α ⊗ y ≡ x ⊕ ⊖ (α ⊗ y) → y ≡ r.zero
  one_spent field α x y two some e =
      no_zero_divisors r field α y some
      (no_zero_divisors r field (r.one ⊕ r.one) (α ⊗ y) two
      (by_equation r r.one e (solve r (α ∷ x ∷ y ∷ []) (search quote depth 20) tt)))

  -- The images of g : 1 multiply to g × g − β, which is not 0 if g × g is not β.
  pub images_product : (α β g : R) → α ⊗ α ≡ β → (g ⊕ α) ⊗ (g ⊕ ⊖ α) ≡ g ⊗ g ⊕ ⊖ β
  images_product α β g h = by_equation r (⊖ r.one) h (solve r (α ∷ β ∷ g ∷ []) (search quote depth 20) tt)

  pub plus_some : (α β g : R) → α ⊗ α ≡ β → (g ⊗ g ≡ β → ⊥) → g ⊕ α ≡ r.zero → ⊥
  plus_some α β g h apart e =
      apart
      (by_equations r (g ⊕ ⊖ α) r.one e h (solve r (α ∷ β ∷ g ∷ []) (search quote depth 20) tt))

  pub minus_some : (α β g : R) → α ⊗ α ≡ β → (g ⊗ g ≡ β → ⊥) → g ⊕ ⊖ α ≡ r.zero → ⊥
  minus_some α β g h apart e =
      apart (by_equations r (g ⊕ α) r.one e h (solve r (α ∷ β ∷ g ∷ []) (search quote depth 20) tt))

  -- g + α = h·(g − α): h is not 1; it is −1 only for g = 0; and distinct g have distinct h.
  pub image_not_one : IsField r → (α g : R) → (r.one ⊕ r.one ≡ r.zero → ⊥) → (α ≡ r.zero → ⊥)
      → g ⊕ α ≡ r.one ⊗ (g ⊕ ⊖ α) → ⊥
  image_not_one field α g two some e =
      some
      (no_zero_divisors r field (r.one ⊕ r.one) α two
      (by_equation r r.one e (solve r (α ∷ g ∷ []) (search quote depth 20) tt)))

  pub image_minus_one : IsField r → (α g : R) → (r.one ⊕ r.one ≡ r.zero → ⊥)
      → g ⊕ α ≡ ⊖ r.one ⊗ (g ⊕ ⊖ α) → g ≡ r.zero
  image_minus_one field α g two e =
      no_zero_divisors r field (r.one ⊕ r.one) g two
      (by_equation r r.one e (solve r (α ∷ g ∷ []) (search quote depth 20) tt))

  pub image_distinct : IsField r → (α g g' h : R) → (r.one ⊕ r.one ≡ r.zero → ⊥) → (α ≡ r.zero → ⊥)
      → g ⊕ α ≡ h ⊗ (g ⊕ ⊖ α) → g' ⊕ α ≡ h ⊗ (g' ⊕ ⊖ α) → g ≡ g'
  image_distinct field α g g' h two some e e' =
      sub_zero r g g'
      (no_zero_divisors r field α _ some
      (no_zero_divisors r field (r.one ⊕ r.one) _ two
      (by_equations r (⊖ (g' ⊕ ⊖ α)) (g ⊕ ⊖ α) e e' (solve r (α ∷ g ∷ g' ∷ h ∷ []) (search quote depth 20) tt))))

  -- The powers of the images: with g + α = h·(g − α), also (g + α)^k = h^k·(g − α)^k.
  pub image_powers : (h u v : R) → u ≡ h ⊗ v → (k : ℕ) → ring_pow r u k ≡ ring_pow r h k ⊗ ring_pow r v k
  image_powers h u v e k = ap (λ (x : R). ring_pow r x k) e ∙ ring_pow_mul r h v k

  -- A power of a unit is a unit.
  pub unit_powers : (v w : R) → v ⊗ w ≡ r.one → (k : ℕ) → ring_pow r v k ⊗ ring_pow r w k ≡ r.one
  unit_powers v w e k =
      sym (ring_pow_mul r v w k) ∙ ap (λ (x : R). ring_pow r x k) e ∙ ring_pow_one r k

  -- Squared twice: if 2xy is not 0 and 2·(x² + βy²)·2xy is, then x² + βy² = 0.
  pub fourth_null : IsField r → (β x y : R) → (x ⊗ y ⊕ y ⊗ x ≡ r.zero → ⊥)
      → (x ⊗ x ⊕ β ⊗ (y ⊗ y)) ⊗ (x ⊗ y ⊕ y ⊗ x) ⊕ (x ⊗ y ⊕ y ⊗ x) ⊗ (x ⊗ x ⊕ β ⊗ (y ⊗ y)) ≡ r.zero
      → x ⊗ x ⊕ β ⊗ (y ⊗ y) ≡ r.zero
  fourth_null field β x y some e =
      no_zero_divisors r field _ _ some
      (no_zero_divisors r field (r.one ⊕ r.one) _ two
      (by_equation r r.one e (solve r (β ∷ x ∷ y ∷ []) (search quote depth 20) tt)))
    where
      two : r.one ⊕ r.one ≡ r.zero → ⊥
      two t = some (by_equation r (x ⊗ y) t (solve r (x ∷ y ∷ []) (search quote depth 20) tt))

  pub fourth_some : (x y : R) → (x ⊗ y ⊕ y ⊗ x ≡ r.zero → ⊥) → y ≡ r.zero → ⊥
  fourth_some x y some e = some (by_equation r (x ⊕ x) e (solve r (x ∷ y ∷ []) (search quote depth 20) tt))

  -- x² = −βy², i² = −1 and yb = 1 give (xib)² = β.
  pub fourth_root : (β x y i b : R) → i ⊗ i ≡ ⊖ r.one → x ⊗ x ⊕ β ⊗ (y ⊗ y) ≡ r.zero → y ⊗ b ≡ r.one
      → (x ⊗ i) ⊗ b ⊗ ((x ⊗ i) ⊗ b) ≡ β
  fourth_root β x y i b i-square e unit = apart ∙ joined
    where
      apart : (x ⊗ i) ⊗ b ⊗ ((x ⊗ i) ⊗ b) ≡ β ⊗ (y ⊗ b ⊗ (y ⊗ b))
      apart =
          by_equations r (x ⊗ x ⊗ (b ⊗ b)) (⊖ (b ⊗ b)) i-square e
          (solve r (β ∷ x ∷ y ∷ i ∷ b ∷ []) (search quote depth 20) tt)

      joined : β ⊗ (y ⊗ b ⊗ (y ⊗ b)) ≡ β
      joined = by_equation r (β ⊗ (y ⊗ b ⊕ r.one)) unit (solve r (β ∷ y ∷ b ∷ []) (search quote depth 20) tt)

  -- top² = β·bottom² and bottom·b = 1 give (top·b)² = β.
  pub match_root : (β top bottom b : R) → top ⊗ top ≡ β ⊗ (bottom ⊗ bottom) → bottom ⊗ b ≡ r.one
      → top ⊗ b ⊗ (top ⊗ b) ≡ β
  match_root β top bottom b e unit =
      by_equations r (b ⊗ b) (β ⊗ (bottom ⊗ b ⊕ r.one)) e unit
      (solve r (β ∷ top ∷ bottom ∷ b ∷ []) (search quote depth 20) tt)

  -- x + αy = z·(x − αy) gives x(z − 1) = αy(z + 1).
  pub match_linear : (α x y z : R) → x ⊕ α ⊗ y ≡ z ⊗ (x ⊕ ⊖ (α ⊗ y))
      → x ⊗ (z ⊕ ⊖ r.one) ≡ α ⊗ (y ⊗ (z ⊕ r.one))
  match_linear α x y z e =
      by_equation r (⊖ r.one) e (solve r (α ∷ x ∷ y ∷ z ∷ []) (search quote depth 20) tt)

  -- top = α·bottom gives top² = β·bottom².
  pub match_square : (α β top bottom : R) → α ⊗ α ≡ β → top ≡ α ⊗ bottom → top ⊗ top ≡ β ⊗ (bottom ⊗ bottom)
  match_square α β top bottom h e =
      by_equations r (top ⊕ α ⊗ bottom) (bottom ⊗ bottom) e h
      (solve r (α ∷ β ∷ top ∷ bottom ∷ []) (search quote depth 20) tt)

  -- What matches for 1/z matches for z.
  pub match_turned : (β x y z z' : R) → z ⊗ z' ≡ r.one
      → x ⊗ (z' ⊕ ⊖ r.one) ⊗ (x ⊗ (z' ⊕ ⊖ r.one)) ≡ β ⊗ (y ⊗ (z' ⊕ r.one) ⊗ (y ⊗ (z' ⊕ r.one)))
      → x ⊗ (z ⊕ ⊖ r.one) ⊗ (x ⊗ (z ⊕ ⊖ r.one)) ≡ β ⊗ (y ⊗ (z ⊕ r.one) ⊗ (y ⊗ (z ⊕ r.one)))
  match_turned β x y z z' inv e =
      by_equations r (z ⊗ z)
      (⊖ (x ⊗ x ⊗ (r.one ⊕ z ⊗ z' ⊕ ⊖ (z ⊕ z)) ⊕ ⊖ (β ⊗ (y ⊗ y) ⊗ (r.one ⊕ z ⊗ z' ⊕ (z ⊕ z))))) e inv
      (solve r (β ∷ x ∷ y ∷ z ∷ z' ∷ []) (search quote depth 20) tt)
