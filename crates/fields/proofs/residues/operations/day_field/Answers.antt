use Rattle.std.proofs.Common.{refl}
use Rattle.theory.proofs.Primality.{prime_test, prime_tested, undivided}
use Rattle.theory.proofs.ResidueFields.{prime_lawful}
use Rattle.fields.proofs.residues.operations.day_field.Goals as goal

pub returns : goal.returns
unfolding prime_test undivided
returns c = (refl, prime_lawful _ (prime_tested 44868 _ refl))
