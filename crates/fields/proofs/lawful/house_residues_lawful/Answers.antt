use Rattle.std.proofs.Common.{refl}
use Rattle.theory.proofs.Primality.{all_prime, prime_test, undivided}
use Rattle.fields.proofs.EachLawful.{each_lawful}
use Rattle.fields.proofs.lawful.house_residues_lawful.Goals as goal

pub returns : goal.returns
unfolding all_prime prime_test undivided
returns c = each_lawful 15 _ refl
