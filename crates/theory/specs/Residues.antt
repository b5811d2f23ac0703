-- Residues modulo q: the codes are the remainders.
use Rattle.std.specs.Prelude.{ℕ, ◌+◌, ◌-◌, ◌*◌, ◌%◌}
use Rattle.theory.specs.Meaning.{Meaning}

abbrev pub residues : ℕ → Meaning
residues q = record {
  size = q;
  sum = λ a b. (a + b) % q;
  negative = λ a. (q - a % q) % q;
  product = λ a b. a * b % q;
}
