use Rattle.std.proofs.Common.{refl, arith}
use Rattle.octets.proofs.buffer.Buffer.new.Goals as goal

pub invariant_of-result : goal.invariant_of-result
invariant_of-result c = (omega arith, refl, refl)
