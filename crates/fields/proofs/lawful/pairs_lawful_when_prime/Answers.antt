use Rattle.std.proofs.Common.{arith}
use Rattle.theory.proofs.PairFields.{prime_pairs_lawful}
use Rattle.fields.proofs.lawful.pairs_lawful_when_prime.Goals as goal

pub returns : goal.returns
returns c = λ p low high rest prime. prime_pairs_lawful p (omega arith) (omega arith) prime (omega arith)
