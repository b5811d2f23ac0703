-- What inverting a answers: the b whose product with a is 1, or the fault that names a where no b has that.
use Rattle.std.specs.Prelude.{◌≡◌, ℕ, ◌<◌, Ok, Err, Result, ◌≢◌}
use Rattle.ring.specs.declared.RingFault.{RingFault}
use Rattle.ring.specs.declared.RingFault.TheVariants.{NoInverse}
use Rattle.theory.specs.Meaning.{Meaning}

abbrev pub Inverted : Meaning → ℕ → Result ℕ RingFault → Type 0
Inverted m a (Ok b) = (b < m.size) × (m.product a b ≡ 1)
Inverted m a (Err fault) = (fault ≡ NoInverse a) × ((b : ℕ) → m.product a b ≢ 1)
