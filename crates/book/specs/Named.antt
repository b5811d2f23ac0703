-- The calls that numbers name: in pairs the factors to seek, and in triples those to adopt.
use Rattle.std.specs.Prelude.{ℕ, List, [], ◌∷◌}
use Rattle.roots.specs.declared.call.Call.{Call}
use Rattle.roots.specs.declared.call.Call.TheVariants.{Seek, Adopt}

unfoldable pub seek_calls : List ℕ → List Call
seek_calls [] = []
seek_calls (r ∷ []) = []
seek_calls (r ∷ f ∷ left) = Seek r f ∷ seek_calls left

unfoldable pub adopt_calls : List ℕ → List Call
adopt_calls [] = []
adopt_calls (r ∷ []) = []
adopt_calls (r ∷ f ∷ []) = []
adopt_calls (r ∷ f ∷ zeta ∷ left) = Adopt r f zeta ∷ adopt_calls left
