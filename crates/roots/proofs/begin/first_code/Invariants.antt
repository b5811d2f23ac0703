use Rattle.roots.proofs.BeginLoop.{BeginsOn}
use Rattle.roots.proofs.begin.first_code.Given as goal

abbrev pub invariant-loop-g : goal.invariant-loop-g
invariant-loop-g g l = BeginsOn (g.R.Ring.meaning l.ratios.ring.now) l.t l.ratios.mark l.g l.joinings
