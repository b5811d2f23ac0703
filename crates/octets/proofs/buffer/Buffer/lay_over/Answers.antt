use Rattle.octets.proofs.Joined.{laid_front}
use Rattle.octets.proofs.buffer.Buffer.lay_over.Goals as goal

pub returns-clause-after : goal.returns-clause-after
returns-clause-after c = let laid = laid_front c.args.self.now c.args.out.now c.min-n.result cc in cc
