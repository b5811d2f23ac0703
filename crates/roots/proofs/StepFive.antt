-- Step 5 of rooting: at a serving factor a power of ζ matches, and whatever matches stands for a root.
use Rattle.std.proofs.Common.{◌≡◌, ℕ, ◌+◌, ◌-◌, ◌*◌, ◌/◌, ◌%◌, ◌<◌, ◌≤◌, true, false, ◌⊎◌, Some, sym, ap, ◌∙◌, inl, inr, mod-eq_of_lt, mul_comm, arith}
use Rattle.std.proofs.lemmas.Bool.{cases_lt, both_ways, eqb-true, eqb-false, eq-eqb}
use Rattle.theory.specs.First.{first}
use Rattle.theory.specs.Meaning.{Meaning, Laws, Lawful}
use Rattle.theory.specs.Operation.{pow, ratio, ratios}
use Rattle.theory.specs.Power.{power, Order}
use Rattle.theory.specs.declared.Ratio.{Ratio}
use Rattle.theory.proofs.Fields.{negative_only, product_negatives, zero_divisors}
use Rattle.theory.proofs.Images.{Image, match_squares, match_exists, match_inverse}
use Rattle.theory.proofs.Odd.{negative_differs}
use Rattle.theory.proofs.Orders.{power_difference, order_powers}
use Rattle.theory.proofs.PowerLaws.{one_below, power_below, power_zero, power_one, power_two, power_add, power_mul, power_one_multiple}
use Rattle.theory.proofs.Search.{first_finds, first_found}
use Rattle.roots.specs.Rooting.{turned, squares_to, matches}
use Rattle.roots.proofs.StepSix.{Stands}

module _ (m : Meaning) (laws : Laws m) (lawful : Lawful m) (uneven : m.size % 2 ≡ 1) where
  -- the negative of 1 has no odd power that is 1
  minus_one_odd : (r : ℕ) → r % 2 ≡ 1 → power m (m.negative 1) r ≡ 1 → ⊥
  minus_one_odd r odd one =
      let z = m.negative 1 in
      let two : power m z 2 ≡ 1 = power_two m laws z ∙ product_negatives m laws 1 1 ∙ laws.product_one 1 (one_below m laws) in
      let last : power m z (r - 2 * (r / 2)) ≡ 1 =
      power_difference m laws z r (2 * (r / 2)) (omega arith) one (power_one_multiple m laws z 2 (r / 2) two) in
      let same : r - 2 * (r / 2) ≡ 1 = omega arith in
      negative_differs m laws lawful uneven 1 (omega arith) (one_below m laws)
      (sym (mod-eq_of_lt (laws.negative_below 1)) ∙ sym (power_one m laws z) ∙ ap (power m z) (sym same) ∙ last)

  -- the bottom y(z + 1) is not 0, for y not 0 and z with an odd power that is 1
  bottom_some : (y z r : ℕ) → (y % m.size ≡ 0 → ⊥) → z < m.size → r % 2 ≡ 1 → power m z r ≡ 1 → m.product y (m.sum z 1) % m.size ≡ 0 → ⊥
  bottom_some y z r some below odd one e =
      from (zero_divisors m laws lawful y (m.sum z 1) (sym (mod-eq_of_lt (laws.product_below y (m.sum z 1))) ∙ e))
    where
      from : (y % m.size ≡ 0) ⊎ (m.sum z 1 % m.size ≡ 0) → ⊥
      from (inl null) = some null
      from (inr null) =
          let minus : z ≡ m.negative 1 =
          negative_only m laws 1 z below (laws.sum_comm 1 z ∙ sym (mod-eq_of_lt (laws.sum_below z 1)) ∙ null) in
          minus_one_odd r odd (ap (λ x. power m x r) (sym minus) ∙ one)

  -- Whatever matches stands for a root.
  match_stands : (mark : ℕ) (e : Ratio) (z r : ℕ) → mark < m.size → (e.bottom % m.size ≡ 0 → ⊥) → z < m.size → r % 2 ≡ 1 → power m z r ≡ 1
      → squares_to m mark (turned m e z) ≡ true → Stands m mark (turned m e z)
  match_stands mark e z r small some below odd one found = record {
    some = bottom_some e.bottom z r some below odd one;
    squares = λ b unit. match_squares m laws mark e.top e.bottom z b small (eqb-true _ _ found) unit;
  }

  module _ (α mark g : ℕ) (square : m.product α α ≡ mark) (small : mark < m.size) (image : Image m α mark g)
      (z r k : ℕ) (order : Order m z r) (below : z < m.size) (odd : r % 2 ≡ 1) where
    abbrev e : Ratio
    e = pow (ratios m mark) (ratio g 1) k

    -- Where the power k of h is a power j of ζ, j matches, and so does r − j.
    match_at : (j : ℕ) → power m image.h k ≡ power m z j → matches m mark e z j ≡ true
    match_at j same =
        eq-eqb _ _
        (match_exists m laws α mark e.top e.bottom (power m z j) square
        (image.matches k ∙ ap (λ x. m.product x (m.sum e.top (m.negative (m.product α e.bottom)))) same))

    match_back : (j j' : ℕ) → j' + j ≡ r → power m image.h k ≡ power m z j → matches m mark e z j' ≡ true
    match_back j j' whole same =
        eq-eqb _ _
        (match_inverse m laws mark e.top e.bottom (power m z j') (power m z j)
        (sym (power_add m laws z j' j) ∙ ap (power m z) whole ∙ order.one)
        (eqb-true _ _ (match_at j same)))

    -- some j up to r / 2 matches
    one_matches : (j : ℕ) → j < r → (j ≡ 0 → ⊥) → power m image.h k ≡ power m z j
        → (i : ℕ) × (1 ≤ i) × (i < 1 + r / 2) × (matches m mark e z i ≡ true)
    one_matches j less other same = from (cases_lt (r / 2) j)
      where
        from : (r / 2 < j) ⊎ (j ≤ r / 2) → (i : ℕ) × (1 ≤ i) × (i < 1 + r / 2) × (matches m mark e z i ≡ true)
        from (inl high) = (r - j, omega arith, omega arith, match_back j (r - j) (omega arith) same)
        from (inr low) = (j, omega arith, omega arith, match_at j same)

    -- Where the power k of g : 1 is not spent and the power r of that is, the search for a j ends, and what it finds stands for a root.
    pub fifth : (ratios m mark).spent (pow (ratios m mark) (ratio g 1) k) ≡ false → power m image.h (k * r) ≡ 1
        → (j : ℕ) × (first (matches m mark (pow (ratios m mark) (ratio g 1) k) z) 1 (r / 2) ≡ Some j)
        × Stands m mark (turned m (pow (ratios m mark) (ratio g 1) k) (power m z j))
    fifth unspent one =
        let root = order_powers m laws lawful z r order below (power m image.h k) (power_below m laws image.h k)
        (power_mul m laws image.h k r ∙ one) in
        let found = one_matches root.0 root.1 (not_first root.0 root.2) root.2 in
        let first_one = first_finds (matches m mark e z) 1 (r / 2) found.0 found.1 found.2 found.3 in
        let j = first_one.0 in
        let passes = (first_found (matches m mark e z) 1 (r / 2) j first_one.1).passes in (
          j,
          first_one.1,
          match_stands mark e (power m z j) r small (eqb-false _ _ unspent) (power_below m laws z j) odd (unit j) passes,
        )
      where
        -- the power k of h is not 1
        not_first : (j : ℕ) → power m image.h k ≡ power m z j → j ≡ 0 → ⊥
        not_first j same null =
            both_ways _ unspent
            ((image.spent_exactly k).1 (same ∙ ap (power m z) null ∙ power_zero m laws z))

        unit : (j : ℕ) → power m (power m z j) r ≡ 1
        unit j = power_mul m laws z j r ∙ ap (power m z) (mul_comm j r) ∙ power_one_multiple m laws z r j order.one
