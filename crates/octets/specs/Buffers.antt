-- What a buffer holds, and what writing to it leaves.
use Rattle.std.specs.Prelude.{ℕ, List, ◌++◌, length, take, drop}

-- some bytes behind what is held; a buffer has room for 112 bytes, and leaves out the others
unfoldable pub joined : List ℕ → List ℕ → List ℕ
joined before more = take 112 (before ++ more)

-- some bytes over the front of others, which keep their length
unfoldable pub laid_over : List ℕ → List ℕ → List ℕ
laid_over front bytes = take (length bytes) (front ++ drop (length front) bytes)
