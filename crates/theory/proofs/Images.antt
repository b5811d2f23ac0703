-- The ratio group without division: for a mark β = α × α the powers of g : 1 go with the powers of one number h.
use Rattle.std.proofs.Common.{◌≡◌, ℕ, zero, suc, ◌%◌, ◌<◌, true, false, ◌↔◌, sym, refl, ap, ◌∙◌, subst, ap₂, mod-eq_of_lt, arith, eq-eqb, eqb-true}
use borrow.Author.Tests.{eqb-false}
use Rattle.theory.specs.Meaning.{Meaning, Laws, Lawful}
use Rattle.theory.specs.Operation.{pow, ratio, ratios}
use Rattle.theory.specs.Power.{power}
use Rattle.theory.specs.declared.Ratio.{Ratio}
use Rattle.theory.proofs.Algebra.{CommRing, IsField, ring_pow, mul_zero, zero_mul, one_mul, neg_zero, neg_mul_neg}
use Rattle.theory.proofs.Codes.{Code, code, code_ring, code_field, code_of_value, code_injective, code_zero, code_one, code_negative, code_product, code_power, code_is_zero, zero_code, power_below, code_rules}
use Rattle.theory.proofs.RingRatios.{plus_step, minus_step, spent_one, one_spent, plus_some, minus_some, image_not_one, image_minus_one, image_distinct, image_powers, unit_powers, fourth_null, fourth_some, fourth_root, match_root, match_linear, match_square, match_turned}

-- The number h of g for the mark β = α × α: h·(g − α) = g + α.
pub record Image (m : Meaning) (α β g : ℕ) : Type 0 where
  pub h : ℕ
  pub above : 0 < h
  pub below : h < m.size
  pub quotient : m.sum g α ≡ m.product h (m.sum g (m.negative α))
  -- a power of g : 1 is spent exactly when the same power of h is 1
  pub spent_exactly : (k : ℕ)
      → (ratios m β).spent (pow (ratios m β) (ratio g 1) k) ≡ true ↔ power m h k ≡ 1
  -- the images of a power x : y of g : 1 are x + αy and x − αy, and the power of h is their quotient
  pub matches : (k : ℕ)
      → m.sum (pow (ratios m β) (ratio g 1) k).top (m.product α (pow (ratios m β) (ratio g 1) k).bottom)
      ≡ m.product (power m h k)
      (m.sum (pow (ratios m β) (ratio g 1) k).top
      (m.negative (m.product α (pow (ratios m β) (ratio g 1) k).bottom)))
  pub not_one : h ≡ 1 → ⊥
  pub minus_one : h ≡ m.negative 1 → g ≡ 0

-- The square of the negative is the square.
pub negative_square : (m : Meaning) → Laws m → (a : ℕ) → m.product (m.negative a) (m.negative a) ≡ m.product a a
negative_square m laws a =
    code_injective m laws _ _ (laws.product_below _ _) (laws.product_below _ _)
    (simp code_rules (neg_mul_neg (code_ring m laws) _ _))

-- What is 0 in the ring is 0, for a number below the size.
zero_below : (m : Meaning) (laws : Laws m) (a : ℕ) → a < m.size → code m laws a ≡ (code_ring m laws).zero → a ≡ 0
zero_below m laws a h e = sym (mod-eq_of_lt h) ∙ zero_code m laws a e

-- 1 + 1 is not 0 in the ring.
pub two_some : (m : Meaning) (laws : Laws m) → (m.sum 1 1 ≡ 0 → ⊥)
    → (code_ring m laws).add (code_ring m laws).one (code_ring m laws).one ≡ (code_ring m laws).zero → ⊥
two_some m laws two e = two (zero_below m laws _ (laws.sum_below 1 1) (simp code_rules e))

module _ (m : Meaning) (laws : Laws m) (α β g : ℕ) (square : m.product α α ≡ β) where
  -- the ring, the two images of g : 1, and the parts of a power of g : 1
  abbrev r : CommRing (Code m)
  r = code_ring m laws

  abbrev plus : Code m
  plus = r.add (code m laws g) (code m laws α)

  abbrev minus : Code m
  minus = r.add (code m laws g) (r.neg (code m laws α))

  abbrev top : ℕ → Code m
  top k = code m laws (pow (ratios m β) (ratio g 1) k).top

  abbrev bottom : ℕ → Code m
  bottom k = code m laws (pow (ratios m β) (ratio g 1) k).bottom

  square_code : r.mul (code m laws α) (code m laws α) ≡ code m laws β
  square_code = sym (code_product m laws α α) ∙ ap (code m laws) square

  -- The two images of a power of g : 1 are the powers of its images.
  plus_power : (k : ℕ) → r.add (top k) (r.mul (code m laws α) (bottom k)) ≡ ring_pow r plus k
  unfolding pow ring_pow
  plus_power zero = ap₂ r.add (code_one m laws) (ap (r.mul _) (code_zero m laws) ∙ mul_zero r _) ∙ r.add_zero _
  plus_power (suc k) =
      simp code_rules
      (plus_step r _ _ (top k) (bottom k) (code m laws g) square_code ∙ ap (λ (x : Code m). r.mul x plus) (plus_power k))

  minus_power : (k : ℕ) → r.add (top k) (r.neg (r.mul (code m laws α) (bottom k))) ≡ ring_pow r minus k
  unfolding pow ring_pow
  minus_power zero =
      ap₂ r.add (code_one m laws) (ap r.neg (ap (r.mul _) (code_zero m laws) ∙ mul_zero r _) ∙ neg_zero r)
      ∙ r.add_zero _
  minus_power (suc k) =
      simp code_rules
      (minus_step r _ _ (top k) (bottom k) (code m laws g) square_code
      ∙ ap (λ (x : Code m). r.mul x minus) (minus_power k))

  β_below : β < m.size
  β_below = subst (λ (b : ℕ). b < m.size) square (laws.product_below α α)

  -- α is not 0 where β is not, and the images of g : 1 are not 0 where g × g is not β.
  α_some : (β ≡ 0 → ⊥) → code m laws α ≡ r.zero → ⊥
  α_some some e =
      some
      (zero_below m laws β β_below
      (sym square_code ∙ ap (λ (x : Code m). r.mul x (code m laws α)) e ∙ zero_mul r _))

  g_apart : (m.product g g ≡ β → ⊥) → r.mul (code m laws g) (code m laws g) ≡ code m laws β → ⊥
  g_apart apart e =
      apart (code_injective m laws _ _ (laws.product_below g g) β_below (code_product m laws g g ∙ e))

  -- With h·(g − α) = g + α: what the powers of h say of the powers of g : 1.
  module _ (h : ℕ) (quotient : plus ≡ r.mul (code m laws h) minus) where
    power_matches : (k : ℕ)
        → r.add (top k) (r.mul (code m laws α) (bottom k))
        ≡ r.mul (ring_pow r (code m laws h) k) (r.add (top k) (r.neg (r.mul (code m laws α) (bottom k))))
    power_matches k =
        plus_power k ∙ image_powers r (code m laws h) plus minus quotient k ∙ ap (r.mul _) (sym (minus_power k))

    power_spent : (w : Code m) → r.mul minus w ≡ r.one → (k : ℕ)
        → (ratios m β).spent (pow (ratios m β) (ratio g 1) k) ≡ true → power m h k ≡ 1
    power_spent w unit k e =
        code_injective m laws _ _ (power_below m laws h k) laws.size_low
        (simp code_rules
        (spent_one r (code m laws α) (top k) (bottom k) (ring_pow r (code m laws h) k) (ring_pow r w k)
        (code_is_zero m laws _ (eqb-true _ _ e))
        (ap (λ (x : Code m). r.mul x (ring_pow r w k)) (minus_power k) ∙ unit_powers r minus w unit k) (power_matches k)))

    spent_power : IsField r → (m.sum 1 1 ≡ 0 → ⊥) → (β ≡ 0 → ⊥) → (k : ℕ) → power m h k ≡ 1
        → (ratios m β).spent (pow (ratios m β) (ratio g 1) k) ≡ true
    spent_power field two some k e =
        eq-eqb _ _
        (zero_code m laws _
        (one_spent r field (code m laws α) (top k) (bottom k) (two_some m laws two) (α_some some)
        (power_matches k ∙ ap₂ r.mul (sym (code_power m laws h k) ∙ ap (code m laws) e ∙ code_one m laws) refl
        ∙ one_mul r _)))

    h_some : (m.product g g ≡ β → ⊥) → h ≡ 0 → ⊥
    h_some apart e =
        plus_some r (code m laws α) (code m laws β) (code m laws g) square_code (g_apart apart)
        (quotient ∙ ap₂ r.mul (ap (code m laws) e ∙ code_zero m laws) refl ∙ zero_mul r _)

    image : IsField r → (m.sum 1 1 ≡ 0 → ⊥) → (β ≡ 0 → ⊥) → g < m.size → (m.product g g ≡ β → ⊥) → h < m.size
        → (w : Code m) → r.mul minus w ≡ r.one → Image m α β g
    image field two some low apart below w unit = record {
      h = h;
      above = let other : h ≡ 0 → ⊥ = h_some apart in omega arith;
      below = below;
      quotient =
          code_injective m laws _ _ (laws.sum_below _ _) (laws.product_below _ _) (simp code_rules quotient);
      spent_exactly = λ k. (power_spent w unit k, spent_power field two some k);
      matches = λ k.
          code_injective m laws _ _ (laws.sum_below _ _) (laws.product_below _ _) (simp code_rules (power_matches k));
      not_one = λ e.
          image_not_one r field (code m laws α) (code m laws g) (two_some m laws two) (α_some some)
          (quotient ∙ ap₂ r.mul (ap (code m laws) e ∙ code_one m laws) refl);
      minus_one = λ e.
          zero_below m laws g low
          (image_minus_one r field (code m laws α) (code m laws g) (two_some m laws two)
          (quotient
          ∙ ap₂ r.mul (ap (code m laws) e ∙ code_negative m laws 1 ∙ ap r.neg (code_one m laws)) refl));
    }

-- Every g below the size whose square is not β has its h.
pub images : (m : Meaning) (laws : Laws m) → Lawful m → (m.sum 1 1 ≡ 0 → ⊥) → (α β g : ℕ) → m.product α α ≡ β
    → (β ≡ 0 → ⊥) → g < m.size → (m.product g g ≡ β → ⊥) → Image m α β g
images m laws lawful two α β g square some low apart =
    let ring = code_ring m laws in
    let u = plus m laws α β g square in
    let v = minus m laws α β g square in
    let field = code_field m laws lawful in
    let (w, unit) =
    field v (minus_some ring _ _ _ (square_code m laws α β g square) (g_apart m laws α β g square apart)) in
    let h = ring.mul u w in
    let quotient : u ≡ ring.mul (code m laws h.0) v =
    sym
    (ap₂ ring.mul (code_of_value m laws h) refl ∙ ring.mul_assoc u w v
    ∙ ap (ring.mul u) (ring.mul_comm w v ∙ unit) ∙ ring.mul_one u) in
    image m laws α β g square h.0 quotient field two some low apart h.1 w unit

-- Distinct g have distinct h.
pub images_distinct : (m : Meaning) (laws : Laws m) → Lawful m → (m.sum 1 1 ≡ 0 → ⊥) → (α β g g' : ℕ)
    → m.product α α ≡ β → (β ≡ 0 → ⊥) → g < m.size → g' < m.size → (i : Image m α β g) (j : Image m α β g')
    → i.h ≡ j.h → g ≡ g'
images_distinct m laws lawful two α β g g' square some low low' i j same =
    code_injective m laws g g' low low'
    (image_distinct (code_ring m laws) (code_field m laws lawful) (code m laws α) _ _ (code m laws j.h)
    (two_some m laws two) (α_some m laws α β g square some)
    (in_ring g i.h i.quotient ∙ ap₂ (code_ring m laws).mul (ap (code m laws) same) refl)
    (in_ring g' j.h j.quotient))
  where
    in_ring : (x h : ℕ) → m.sum x α ≡ m.product h (m.sum x (m.negative α))
        → (code_ring m laws).add (code m laws x) (code m laws α)
        ≡ (code_ring m laws).mul (code m laws h)
        ((code_ring m laws).add (code m laws x) ((code_ring m laws).neg (code m laws α)))
    in_ring x h e = simp code_rules at (ap (code m laws) e)

-- The step to a fourth root: e joined with itself is not spent, and that joined with itself is. With i × i = −1, (top·i/bottom)² = β.
pub fourth_step : (m : Meaning) (laws : Laws m) → Lawful m → (β i : ℕ) (e : Ratio) → β < m.size
    → m.product i i ≡ m.negative 1
    → (ratios m β).spent ((ratios m β).join e e) ≡ false
    → (ratios m β).spent ((ratios m β).join ((ratios m β).join e e) ((ratios m β).join e e)) ≡ true
    → (e.bottom % m.size ≡ 0 → ⊥)
    × ((b : ℕ) → m.product e.bottom b ≡ 1
    → m.product (m.product (m.product e.top i) b) (m.product (m.product e.top i) b) ≡ β)
fourth_step m laws lawful β i e low i-square some none = (
  λ zeros. fourth_some r x y apart (code_is_zero m laws _ zeros),
  λ b unit.
      code_injective m laws _ _ (laws.product_below _ _) low
      (simp code_rules
      (fourth_root r (code m laws β) x y (code m laws i) (code m laws b) (simp code_rules at (ap (code m laws) i-square))
      (fourth_null r (code_field m laws lawful) (code m laws β) x y apart
      (simp code_rules at (code_is_zero m laws _ (eqb-true _ _ none))))
      (simp code_rules at (ap (code m laws) unit)))),
)
  where
    r : CommRing (Code m)
    r = code_ring m laws

    x : Code m
    x = code m laws e.top

    y : Code m
    y = code m laws e.bottom

    apart : r.add (r.mul x y) (r.mul y x) ≡ r.zero → ⊥
    apart zeros = eqb-false _ _ some (zero_code m laws _ (simp code_rules zeros))

-- The match test for z at the element x : y. With top = x·(z − 1) and bottom = y·(z + 1) it is top² = β·bottom².
abbrev pub match_top : Meaning → ℕ → ℕ → ℕ
match_top m x z = m.product x (m.sum z (m.negative 1))

abbrev pub match_bottom : Meaning → ℕ → ℕ → ℕ
match_bottom m y z = m.product y (m.sum z 1)

abbrev pub Matches : Meaning → ℕ → ℕ → ℕ → ℕ → Type 0
Matches m β x y z =
    m.product (match_top m x z) (match_top m x z)
    ≡ m.product β (m.product (match_bottom m y z) (match_bottom m y z))

-- Any match gives a root, top/bottom.
pub match_squares : (m : Meaning) (laws : Laws m) (β x y z b : ℕ) → β < m.size → Matches m β x y z
    → m.product (match_bottom m y z) b ≡ 1
    → m.product (m.product (match_top m x z) b) (m.product (match_top m x z) b) ≡ β
match_squares m laws β x y z b low e unit =
    code_injective m laws _ _ (laws.product_below _ _) low
    (code_product m laws _ _ ∙ ap₂ (code_ring m laws).mul (code_product m laws _ _) (code_product m laws _ _)
    ∙ match_root (code_ring m laws) (code m laws β) _ (code m laws (match_bottom m y z)) _
    (sym (code_product m laws _ _) ∙ ap (code m laws) e ∙ code_product m laws _ _
    ∙ ap ((code_ring m laws).mul _) (code_product m laws _ _))
    (sym (code_product m laws _ _) ∙ ap (code m laws) unit ∙ code_one m laws))

-- The quotient of the two images matches, whatever the ring.
pub match_exists : (m : Meaning) (laws : Laws m) (α β x y z : ℕ) → m.product α α ≡ β
    → m.sum x (m.product α y) ≡ m.product z (m.sum x (m.negative (m.product α y))) → Matches m β x y z
match_exists m laws α β x y z square e =
    code_injective m laws _ _ (laws.product_below _ _) (laws.product_below _ _)
    (simp code_rules
    (match_square (code_ring m laws) (code m laws α) (code m laws β) _ _
    (sym (code_product m laws α α) ∙ ap (code m laws) square)
    (match_linear (code_ring m laws) (code m laws α) (code m laws x) (code m laws y) (code m laws z)
    (simp code_rules at (ap (code m laws) e)))))

-- What matches for 1/z matches for z.
pub match_inverse : (m : Meaning) (laws : Laws m) (β x y z z' : ℕ) → m.product z z' ≡ 1 → Matches m β x y z'
    → Matches m β x y z
match_inverse m laws β x y z z' inv e =
    code_injective m laws _ _ (laws.product_below _ _) (laws.product_below _ _)
    (simp code_rules
    (match_turned (code_ring m laws) (code m laws β) (code m laws x) (code m laws y) (code m laws z) (code m laws z')
    (simp code_rules at (ap (code m laws) inv)) (simp code_rules at (ap (code m laws) e))))
