-- Held factors whose r rooting can divide by and count to.
use Rattle.std.specs.Prelude.{Bool, true, ◌&&◌, List, [], ◌∷◌}
use Rattle.roots.specs.declared.factor.Factor.{Factor}
use Rattle.roots.specs.Checks.{base}

-- each r is odd, from 3 to 4,095
unfoldable pub all_small : List Factor → Bool
all_small [] = true
all_small (h ∷ held) = base h.r && all_small held
