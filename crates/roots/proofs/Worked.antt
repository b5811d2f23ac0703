-- The marks worked by hand, computed.
use Rattle.std.proofs.Common.{refl}
use Rattle.theory.specs.First.{first, first_some}
use Rattle.theory.specs.Numbers.{bits_in, ones_in, bits, ones, joinings}
use Rattle.theory.specs.Operation.{pow, rung}
use Rattle.roots.specs.Checks.{divided, gcd_in, gcd, apart}
use Rattle.roots.specs.Rooting.{searched}
use Rattle.roots.specs.Runs.{run_from}
use Rattle.roots.specs.State.{multiplicity_in, multiplicity, cofactor}
use Rattle.roots.specs.Worked.{Worked}

pub worked : Worked
unfolding first first_some bits_in ones_in bits ones joinings pow rung multiplicity_in multiplicity cofactor divided gcd_in gcd apart run_from searched
worked = record {
  of_17 = (refl, refl, refl);
  of_97 = (refl, refl, refl);
  of_41 = refl;
  of_pairs = (refl, refl);
  of_65 = (refl, refl);
}
