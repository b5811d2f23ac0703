-- Powers of the numbers of a ring, and their orders.
use Rattle.std.specs.Prelude.{◌≡◌, ℕ, ◌<◌, ◌≢◌}
use Rattle.theory.specs.Meaning.{Meaning}
use Rattle.theory.specs.Operation.{pow, multiplication}

-- the power k of a number, under multiplication
abbrev pub power : Meaning → ℕ → ℕ → ℕ
power m a k = pow (multiplication m) a k

-- z has order exactly r: its power r is 1, and no lower power above 0 is.
pub record Order (m : Meaning) (z r : ℕ) : Type 0 where
  pub some : 0 < r
  pub one : power m z r ≡ 1
  pub least : (k : ℕ) → 0 < k → k < r → power m z k ≢ 1
