use Rattle.joining.proofs.Digits.{Partway}
use Rattle.joining.proofs.powers.power.Given as goal

abbrev pub invariant-loop-place : goal.invariant-loop-place
invariant-loop-place g l = Partway (g.J.Joining.meaning l.joining) l.x l.k l.place l.result l.count
