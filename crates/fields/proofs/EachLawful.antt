-- Residues modulo numbers that pass the test of primes are lawful.
use Rattle.std.proofs.Common.{◌≡◌, ℕ, true, List}
use Rattle.std.proofs.ByRecursion.{All-weaker}
use Rattle.fields.specs.Lawfulness.{EachLawful}
use Rattle.theory.specs.Meaning.{Lawful}
use Rattle.theory.specs.Numbers.{Prime}
use Rattle.theory.specs.Residues.{residues}
use Rattle.theory.proofs.Primality.{all_prime, primes_tested}
use Rattle.theory.proofs.ResidueFields.{prime_lawful}

pub each_lawful : (k : ℕ) (moduli : List ℕ) → all_prime k moduli ≡ true → EachLawful moduli
each_lawful k moduli t =
    record { each = All-weaker Prime (λ q. Lawful (residues q)) prime_lawful moduli (primes_tested k moduli t) }
