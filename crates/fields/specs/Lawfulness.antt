-- Which residues and which pairs are lawful fields.
use Rattle.std.specs.Prelude.{◌≡◌, ℕ, ◌%◌, ◌≤◌, List}
use Rattle.std.specs.List.{AllByRecursion}
use Rattle.theory.specs.Meaning.{Lawful}
use Rattle.theory.specs.Numbers.{Prime}
use Rattle.theory.specs.Pairs.{pairs}
use Rattle.theory.specs.Residues.{residues}

-- For every q from the least to the greatest, the residues modulo q are lawful exactly when q is a prime.
abbrev pub ResiduesLawful : ℕ → ℕ → Type 0
ResiduesLawful least greatest =
    (q : ℕ) → least ≤ q → q ≤ greatest → (Prime q → Lawful (residues q)) × (Lawful (residues q) → Prime q)

-- For every prime p from the least to the greatest that leaves the given remainder on division by 4, the pairs modulo p are lawful.
abbrev pub PairsLawful : ℕ → ℕ → ℕ → Type 0
PairsLawful least greatest remainder =
    (p : ℕ) → least ≤ p → p ≤ greatest → p % 4 ≡ remainder → Prime p → Lawful (pairs p)

-- The residues modulo each of the numbers are lawful.
pub record EachLawful (moduli : List ℕ) : Type 0 where
  pub each : AllByRecursion (λ q. Lawful (residues q)) moduli
