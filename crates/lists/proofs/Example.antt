-- The example, computed.
use Rattle.std.proofs.Common.{refl}
use Rattle.std.specs.Fmt.{digits}
use Rattle.theory.specs.First.{first}
use Rattle.theory.specs.Numbers.{bits_in, ones_in, bits, ones, joinings}
use Rattle.theory.specs.Operation.{pow, rung}
use Rattle.roots.specs.Checks.{divided, apart}
use Rattle.roots.specs.Rooting.{searched}
use Rattle.roots.specs.Runs.{tried}
use Rattle.roots.specs.State.{multiplicity_in, multiplicity, cofactor}
use Rattle.books.specs.Layout.{offsets_right}
use Rattle.books.specs.Loading.{records}
use Rattle.lists.specs.Example.{Example}

pub example : Example
unfolding digits first bits_in ones_in bits ones joinings pow rung multiplicity_in multiplicity cofactor divided apart tried searched offsets_right records
example = record { head = refl; first = refl; second = refl; third = refl; over = refl }
