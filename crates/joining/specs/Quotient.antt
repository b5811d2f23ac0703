-- The value of a ratio: its top times the inverse of its bottom, or the fault that names a bottom without one.
use Rattle.std.specs.Prelude.{ℕ, Some, None, Ok, Err, Option, Result}
use Rattle.theory.specs.Meaning.{Meaning, inverse}
use Rattle.joining.specs.declared.JoiningFault.{JoiningFault}
use Rattle.joining.specs.declared.JoiningFault.TheVariants.{NoInverse}

abbrev pub quotient_by : Meaning → ℕ → ℕ → Option ℕ → Result ℕ JoiningFault
quotient_by m top bottom None = Err (NoInverse bottom)
quotient_by m top bottom (Some b) = Ok (m.product top b)

abbrev pub quotient_of : Meaning → ℕ → ℕ → Result ℕ JoiningFault
quotient_of m top bottom = quotient_by m top bottom (inverse m bottom)
