-- Marks worked by hand: what the definitions come to at some small fields.
use Rattle.std.specs.Prelude.{◌≡◌, ℕ, List, [], ◌∷◌, Ok, Err, Result}
use Rattle.theory.specs.Meaning.{Meaning}
use Rattle.theory.specs.Pairs.{pairs}
use Rattle.theory.specs.Residues.{residues}
use Rattle.refusals.specs.declared.Layer.TheVariants.{Joining}
use Rattle.refusals.specs.declared.Refusal.{Refusal}
use Rattle.refusals.specs.declared.Refusal.TheVariants.{NoSquare, Unlawful}
use Rattle.roots.specs.declared.call.Call.{Call}
use Rattle.roots.specs.declared.call.Call.TheVariants.{Adopt, Give}
use Rattle.roots.specs.Rooting.{Answer, rooted, answered}
use Rattle.roots.specs.Runs.{run}

-- what a mark comes to on the plan that a list of calls makes
abbrev pub comes_to : Meaning → List Call → ℕ → Result Answer Refusal
comes_to m calls mark = answered (rooted m (run m calls) mark)

pub record Worked : Type 0 where
  pub of_17 : (comes_to (residues 17) (Give 4 ∷ []) 1 ≡ Ok ((1, 16), (3, 0))) × (comes_to (residues 17) (Give 4 ∷ []) 2 ≡ Ok ((6, 11), (7, 0))) × (comes_to (residues 17) (Give 4 ∷ []) 3 ≡ Err NoSquare)
  pub of_97 : (comes_to (residues 97) (Adopt 3 1 35 ∷ Give 22 ∷ []) 2 ≡ Ok ((14, 83), (13, 0))) × (comes_to (residues 97) (Adopt 3 1 35 ∷ Give 22 ∷ []) 94 ≡ Ok ((26, 71), (16, 1))) × (comes_to (residues 97) (Adopt 3 1 35 ∷ Give 22 ∷ []) 5 ≡ Err NoSquare)
  -- the rest is 5 here
  pub of_41 : comes_to (residues 41) (Give 9 ∷ []) 10 ≡ Ok ((16, 25), (19, 0))
  pub of_pairs : (comes_to (pairs 3) (Give 3 ∷ []) 2 ≡ Ok ((3, 6), (5, 0))) × (comes_to (pairs 3) (Give 3 ∷ []) 4 ≡ Err NoSquare)
  -- not lawful: 2 × 2 is 4, and yet 4 is refused
  pub of_65 : (comes_to (residues 65) (Give 8 ∷ []) 4 ≡ Err NoSquare) × (comes_to (residues 65) (Give 8 ∷ []) 14 ≡ Err (Unlawful Joining 3 1))
