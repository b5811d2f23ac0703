use Rattle.theory.proofs.Euclid.{Euclid}
use Rattle.fields.proofs.residues.Residues.invert.Given as goal

abbrev pub invariant-loop-s : goal.invariant-loop-s
invariant-loop-s l = Euclid l.q l.a l.r l.t l.s l.u

abbrev pub decreases-loop-s : goal.decreases-loop-s
decreases-loop-s l = l.s
