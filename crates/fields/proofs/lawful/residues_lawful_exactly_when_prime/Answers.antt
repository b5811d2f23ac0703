use Rattle.std.proofs.Common.{arith}
use Rattle.theory.proofs.ResidueFields.{lawful_prime, prime_lawful}
use Rattle.fields.proofs.lawful.residues_lawful_exactly_when_prime.Goals as goal

pub returns : goal.returns
returns c = λ q low high. (prime_lawful q, lawful_prime q (omega arith))
