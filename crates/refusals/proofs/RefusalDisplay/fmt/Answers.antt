use Rattle.std.proofs.Common.{append_assoc}
use Rattle.refusals.proofs.RefusalDisplay.fmt.Goals as goal

pub returns-in-Unlawful-clause-writes : goal.returns-in-Unlawful-clause-writes
returns-in-Unlawful-clause-writes g c = λ plain ok. rw c.in-Unlawful.is (simp append_assoc (c.write.ensures.writes plain ok))
