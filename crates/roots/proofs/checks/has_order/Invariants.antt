use Rattle.roots.proofs.OrderLoop.{PowersOn}
use Rattle.roots.proofs.checks.has_order.Given as goal

abbrev pub invariant-loop-k : goal.invariant-loop-k
invariant-loop-k g l = PowersOn (g.R.Ring.meaning l.ring) l.z l.r l.k l.power
