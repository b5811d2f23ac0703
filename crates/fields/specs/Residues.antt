-- The residues as a value of the program, and what they mean.
use Rattle.std.specs.Prelude.{◌≡◌, ℕ, ◌≤◌, Ok, Err, Result}
use Rattle.refusals.specs.declared.Refusal.{Refusal}
use Rattle.refusals.specs.declared.Refusal.TheVariants.{Modulus}
use Rattle.fields.specs.declared.residues.Residues.{Residues}
use Rattle.theory.specs.Meaning.{Meaning}
use Rattle.theory.specs.Residues.{residues}

abbrev pub of_residues : Residues → Meaning
of_residues r = residues r.q

-- What making the residues modulo q answers: they mean what they should, or q is outside 2 to 2,147,483,647.
abbrev pub ResiduesMade : ℕ → Result Residues Refusal → Type 0
ResiduesMade q (Ok f) = (2 ≤ q) × (q ≤ 2147483647) × (of_residues f ≡ residues q)
ResiduesMade q (Err e) = (e ≡ Modulus) × (2 ≤ q → q ≤ 2147483647 → ⊥)
