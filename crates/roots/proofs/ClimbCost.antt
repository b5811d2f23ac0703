-- How many joinings a power and the ladder from it make at most. Of a power's joinings only one law is used here, and in no other file of the count:
-- at most two for each digit below the top.
use Rattle.std.proofs.Common.{◌≡◌, ℕ, suc, ◌+◌, ◌-◌, ◌*◌, ◌/◌, ◌^◌, ◌<◌, ◌≤◌, Some, None, Ok, Option, sym, refl, ap, ◌∙◌, le_trans, le_of_eq, mul-le-mul_right, mul_comm, mul-le-mul_left, one-mul, le-div_iff_mul-le, div-le_self, div-mul-le_self, arith, lit<}
use native.Mathlib.Nat.{one-le-pow}
use Rattle.theory.specs.Meaning.{Meaning, Laws}
use Rattle.theory.specs.Numbers.{bits, joinings}
use Rattle.theory.specs.Operation.{Operation, pow, rank}
use Rattle.theory.proofs.Bits.{bits_mono, bits_half, bits_power, joinings_le}
use Rattle.theory.proofs.Search.{first_found}
use Rattle.joining.specs.Ladder.{laddered_at, ladder_joinings_at, with_power, climbed, climb_joinings}
use Rattle.joining.specs.declared.Back.{Back}
use Rattle.roots.specs.State.{twos, odd}
use Rattle.roots.proofs.Divisions.{size_parted, odd_some}

-- Two joinings for each digit of the size less one below the top.
abbrev pub span : Meaning → ℕ
span m = 2 * (bits (m.size - 1) - 1)

-- costs of the power and of each step of the ladder, and the digits of exponent and step
both_costs : (jk jr a b f l : ℕ) → jk ≤ 2 * a → jr ≤ 2 * b → a + f * b ≤ l → jk + f * jr ≤ 2 * l
both_costs jk jr a b f l power ladder digits = omega (arith, mul-le-mul_left f ladder)

-- The power k and a ladder by r of length f make at most as many as the digits of the size less one allow, if k × r^f fits in it.
pub climb_fits : (m : Meaning) → Laws m → (k r f : ℕ) → 0 < k → 0 < r → k * r ^ f ≤ m.size - 1 → joinings k + f * joinings r ≤ span m
climb_fits m laws k r f k-some r_some fits =
    both_costs (joinings k) (joinings r) (bits k - 1) (bits r - 1) f (bits (m.size - 1) - 1) (joinings_le k) (joinings_le r)
    (bits_power k r f (m.size - 1) k-some r_some fits (omega (arith, laws.size_high)))

-- A climb makes no more than the power and the whole ladder, with a rank and without.
module _ {E : Type 0} (o : Operation E) (code exponent by length most : ℕ) (fits : joinings exponent + length * joinings by ≤ most) where
  abbrev start : E
  start = pow o (o.element code) exponent

  up_to : (k : ℕ) → rank o start by length ≡ Some k → joinings exponent + k * joinings by ≤ most
  up_to k e =
      let within = (first_found _ 0 (suc length) k e).within in
      omega (arith, mul-le-mul_right {m = k} {n = length} (joinings by) (omega arith))

  pub climb_joinings_le : climb_joinings o code exponent by length ≤ most
  climb_joinings_le = from (rank o start by length) refl
    where
      from : (r : Option ℕ) → rank o start by length ≡ r → joinings exponent + ladder_joinings_at by length r ≤ most
      from None e = fits
      from (Some k) e = up_to k e

  pub climbed_le : (back : Back) (found : Option E × ℕ) → climbed o code exponent by length back ≡ Ok found → found.1 ≤ most
  climbed_le back found e = from (rank o start by length) refl e
    where
      from : (r : Option ℕ) → rank o start by length ≡ r → with_power (joinings exponent) (laddered_at o start by back code r) ≡ Ok found → found.1 ≤ most
      from None r e = absurd (let z : ◌≡◌ {A = ℕ} 0 1 = cc in omega arith)
      from (Some k) r e =
          let made : joinings exponent + k * joinings by ≡ found.1 = cc in
          omega (arith, up_to k r)

-- ---- the powers and ladders of rooting

-- the power of step 1
pub half_le : (m : Meaning) → joinings ((m.size - 1) / 2) ≤ span m
half_le m = omega (arith, joinings_le ((m.size - 1) / 2), bits_mono ((m.size - 1) / 2) (m.size - 1) (div-le_self (m.size - 1) 2))

-- a power 2t, as step 2 takes it
pub twice_le : (t : ℕ) → 2 * t < 2 ^ 64 → joinings (2 * t) ≤ 2 * bits t
twice_le t small =
    let same : bits t ≡ bits (2 * t) - 1 = ap bits (omega arith) ∙ bits_half (2 * t) small in
    omega (arith, joinings_le (2 * t))

-- the power and the ladder by 2 of step 3
pub two_fits : (m : Meaning) → Laws m → joinings (odd m.size) + twos m.size * joinings 2 ≤ span m
two_fits m laws =
    let small : m.size < 2 ^ 64 = omega (arith, laws.size_high) in
    climb_fits m laws (odd m.size) 2 (twos m.size) (odd_some m.size laws.size_low small) (lit< tt)
    (le_of_eq (mul_comm (odd m.size) (2 ^ twos m.size) ∙ sym (size_parted m.size laws.size_low small).whole))

-- the power and the ladder that a factor takes, if r^f fits
pub factor_fits : (m : Meaning) → Laws m → (r f : ℕ) → 0 < r → r ^ f ≤ m.size - 1 → joinings ((m.size - 1) / r ^ f) + f * joinings r ≤ span m
factor_fits m laws r f some fits =
    let power-some : 0 < r ^ f = one-le-pow f r some in
    climb_fits m laws ((m.size - 1) / r ^ f) r f
    ((le-div_iff_mul-le power-some).1 (le_trans (le_of_eq (one-mul (r ^ f))) fits))
    some (div-mul-le_self (m.size - 1) (r ^ f))
