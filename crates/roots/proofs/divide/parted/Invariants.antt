use Rattle.roots.proofs.DivideLoops.{GoesOn}
use Rattle.roots.proofs.divide.parted.Given as goal

abbrev pub invariant-loop-times : goal.invariant-loop-times
invariant-loop-times l = GoesOn l.r l.n l.times l.left
