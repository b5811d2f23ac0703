use Rattle.std.proofs.Common.{refl}
use Rattle.roots.specs.Small.{all_small}
use Rattle.roots.proofs.holdings.Held.new.Goals as goal

pub invariant_of-result : goal.invariant_of-result
unfolding all_small
invariant_of-result c = rw c.new.ensures refl
