-- Step 2 of rooting: one of the codes 1 to 2t − 1 ends the search.
-- Otherwise 1, the numbers h of these codes and the negative of 1 would be 2t + 1 solutions of x ^ (2t) = 1.
use Rattle.std.proofs.Common.{◌≡◌, ℕ, ◌-◌, ◌*◌, ◌%◌, ◌<◌, ◌≤◌, false, not, ◌⊎◌, Some, None, sym, refl, ap, ◌∙◌, inl, inr, arith}
use Rattle.std.proofs.lemmas.Bool.{cases_lt, eqb-false, or_parts, not-false}
use Rattle.theory.specs.First.{first}
use Rattle.theory.specs.Meaning.{Meaning, Laws, Lawful}
use Rattle.theory.specs.Operation.{pow, ratio, ratios}
use Rattle.theory.specs.Power.{power}
use Rattle.theory.proofs.Fields.{product_negatives}
use Rattle.theory.proofs.Images.{Image, images, images_distinct}
use Rattle.theory.proofs.Odd.{two_not_zero, negative_differs}
use Rattle.theory.proofs.PowerLaws.{one_below, power_mul, power_two, power_of_one}
use Rattle.theory.proofs.RootCount.{power_escapes}
use Rattle.theory.proofs.Search.{Least, cases_option, first_found, first_fails}
use Rattle.roots.specs.Rooting.{squares, ends}

module _ (m : Meaning) (laws : Laws m) (lawful : Lawful m) (uneven : m.size % 2 ≡ 1)
    (α mark : ℕ) (square : m.product α α ≡ mark) (some : mark ≡ 0 → ⊥) where
  -- the number h of a code whose square is not the mark
  pub image_of : (g : ℕ) → g < m.size → (m.product g g ≡ mark → ⊥) → Image m α mark g
  image_of g = images m laws lawful (two_not_zero m laws uneven) α mark g square some

  module _ (t : ℕ) (low : 0 < t) (room : 2 * t ≤ m.size) (none : (g : ℕ) → 1 ≤ g → g < 2 * t → ends m t mark g ≡ false) where
    parts : (g : ℕ) → 1 ≤ g → g < 2 * t
        → (squares m mark g ≡ false) × (not ((ratios m mark).spent (pow (ratios m mark) (ratio g 1) (2 * t))) ≡ false)
    parts g from to = or_parts (squares m mark g) (not ((ratios m mark).spent (pow (ratios m mark) (ratio g 1) (2 * t)))) (none g from to)

    image : (g : ℕ) → 1 ≤ g → g < 2 * t → Image m α mark g
    image g from to = image_of g (omega arith) (eqb-false (m.product g g) mark (parts g from to).0)

    -- The solutions in a row: 1, then the numbers h of the codes, then the negative of 1.
    data Place (i v : ℕ) : Type 0 where
      at_start : i < 1 → v ≡ 1 → Place i v
      inside : 1 ≤ i → i < 2 * t → (h : Image m α mark i) → v ≡ h.h → power m h.h (2 * t) ≡ 1 → Place i v
      at_end : 2 * t ≤ i → v ≡ m.negative 1 → Place i v

    place : (i : ℕ) → (v : ℕ) × Place i v
    place i = at (cases_lt i 1) (cases_lt i (2 * t))
      where
        at : (i < 1) ⊎ (1 ≤ i) → (i < 2 * t) ⊎ (2 * t ≤ i) → (v : ℕ) × Place i v
        at (inl start) inner = (1, at_start start refl)
        at (inr later) (inl inner) =
            let h = image i later inner in
            (h.h, inside later inner h refl ((h.spent_exactly (2 * t)).0 (not-false _ (parts i later inner).1)))
        at (inr later) (inr last) = (m.negative 1, at_end last refl)

    -- no two of them are equal
    distinct : (i j v w : ℕ) → i < j → j ≤ 2 * t → Place i v → Place j w → v ≡ w → ⊥
    distinct i j v w less within (at_start _ one) (at_start start _) e = omega arith
    distinct i j v w less within (at_start _ one) (inside _ _ h is _) e = h.not_one (sym is ∙ sym e ∙ one)
    distinct i j v w less within (at_start _ one) (at_end _ minus) e =
        negative_differs m laws lawful uneven 1 (omega arith) (one_below m laws) (sym minus ∙ sym e ∙ one)
    distinct i j v w less within (inside _ _ h is _) (at_start start _) e = omega arith
    distinct i j v w less within (inside from to h is _) (inside from' to' h' is' _) e =
        let same : i ≡ j = images_distinct m laws lawful (two_not_zero m laws uneven) α mark i j square some (omega arith) (omega arith) h h'
        (sym is ∙ e ∙ is') in
        omega arith
    distinct i j v w less within (inside from _ h is _) (at_end _ minus) e =
        let none : i ≡ 0 = h.minus_one (sym is ∙ e ∙ minus) in omega arith
    distinct i j v w less within (at_end last _) _ e = omega arith

    -- each is a code below the size whose power 2t is 1
    solves : (i v : ℕ) → Place i v → (v < m.size) × (power m v (2 * t) ≡ 1)
    solves i v (at_start _ one) =
        (omega (arith, one_below m laws), ap (λ x. power m x (2 * t)) one ∙ power_of_one m laws (2 * t))
    solves i v (inside _ _ h is unit) = (omega (arith, h.below), ap (λ x. power m x (2 * t)) is ∙ unit)
    solves i v (at_end _ minus) = (
      omega (arith, laws.negative_below 1),
      ap (λ x. power m x (2 * t)) minus ∙ sym (power_mul m laws (m.negative 1) 2 t)
          ∙ ap (λ x. power m x t) squared ∙ power_of_one m laws t,
    )
      where
        squared : power m (m.negative 1) 2 ≡ 1
        squared =
            power_two m laws (m.negative 1) ∙ product_negatives m laws 1 1 ∙ laws.product_one 1 (one_below m laws)

    too_many : ⊥
    too_many =
        let found = power_escapes m laws lawful (2 * t) (omega arith) (λ i. (place i).0)
        (λ i j less within. distinct i j (place i).0 (place j).0 less within (place i).1 (place j).1)
        (λ i within. (solves i (place i).0 (place i).1).0) in
        found.2 (solves found.0 (place found.0).0 (place found.0).1).1

  -- The search of step 2 ends at a code.
  pub search_ends : (t : ℕ) → 0 < t → 2 * t ≤ m.size
      → (g : ℕ) × (first (ends m t mark) 1 (2 * t - 1) ≡ Some g) × Least (ends m t mark) 1 (2 * t - 1) g
  search_ends t low room = from (cases_option (first (ends m t mark) 1 (2 * t - 1)))
    where
      from : (first (ends m t mark) 1 (2 * t - 1) ≡ None) ⊎ ((g : ℕ) × (first (ends m t mark) 1 (2 * t - 1) ≡ Some g))
          → (g : ℕ) × (first (ends m t mark) 1 (2 * t - 1) ≡ Some g) × Least (ends m t mark) 1 (2 * t - 1) g
      from (inl none) =
          absurd (too_many t low room (λ g from to. first_fails (ends m t mark) 1 (2 * t - 1) none g from (omega arith)))
      from (inr (g, found)) = (g, found, first_found (ends m t mark) 1 (2 * t - 1) g found)
