-- What inverting a modulo q gives: the b below q whose product with a is 1, or nothing where no b has that.
use Rattle.std.specs.Prelude.{◌≡◌, ℕ, ◌*◌, ◌%◌, ◌<◌, Some, None, Option, ◌≢◌}

abbrev pub Inverse : ℕ → ℕ → Option ℕ → Type 0
Inverse q a (Some b) = (b < q) × (a * b % q ≡ 1)
Inverse q a None = (b : ℕ) → a * b % q ≢ 1
