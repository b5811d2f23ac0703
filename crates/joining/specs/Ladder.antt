-- What a ladder answers, and how many joinings it makes.
use Rattle.std.specs.Prelude.{ℕ, ◌+◌, ◌*◌, Some, None, Ok, Err, Option, Result}
use Rattle.theory.specs.Numbers.{joinings}
use Rattle.theory.specs.Operation.{Operation, pow, rank, before}
use Rattle.joining.specs.declared.Back.{Back}
use Rattle.joining.specs.declared.Back.TheVariants.{One, Two}
use Rattle.joining.specs.declared.JoiningFault.{JoiningFault}
use Rattle.joining.specs.declared.JoiningFault.TheVariants.{NoRank}

abbrev pub places : Back → ℕ
places One = 1
places Two = 2

-- The rung so many before the rank, if the rank is so large, with the joinings made up to the rank; a ladder without rank is a fault.
abbrev pub laddered_at : {E : Type 0} → Operation E → E → ℕ → Back → ℕ → Option ℕ → Result (Option E × ℕ) JoiningFault
laddered_at o x by back code None = Err (NoRank by code)
laddered_at o x by back code (Some k) = Ok (before o x by (places back) k, k * joinings by)

abbrev pub laddered : {E : Type 0} → Operation E → E → ℕ → ℕ → Back → ℕ → Result (Option E × ℕ) JoiningFault
laddered o x by length back code = laddered_at o x by back code (rank o x by length)

-- The joinings that a ladder makes, also where it has no rank.
abbrev pub ladder_joinings_at : ℕ → ℕ → Option ℕ → ℕ
ladder_joinings_at by length None = length * joinings by
ladder_joinings_at by length (Some k) = k * joinings by

abbrev pub ladder_joinings : {E : Type 0} → Operation E → E → ℕ → ℕ → ℕ
ladder_joinings o x by length = ladder_joinings_at by length (rank o x by length)

-- The ladder from a power of the element of a code; the joinings of both count.
abbrev pub with_power : {E : Type 0} → ℕ → Result (Option E × ℕ) JoiningFault → Result (Option E × ℕ) JoiningFault
with_power made (Err fault) = Err fault
with_power made (Ok found) = Ok (found.0, made + found.1)

abbrev pub climbed : {E : Type 0} → Operation E → ℕ → ℕ → ℕ → ℕ → Back → Result (Option E × ℕ) JoiningFault
climbed o code exponent by length back =
    with_power (joinings exponent) (laddered o (pow o (o.element code) exponent) by length back code)

abbrev pub climb_joinings : {E : Type 0} → Operation E → ℕ → ℕ → ℕ → ℕ → ℕ
climb_joinings o code exponent by length = joinings exponent + ladder_joinings o (pow o (o.element code) exponent) by length
