use Rattle.joining.proofs.Climbing.{Climbing}
use Rattle.joining.proofs.ladders.Ladder.rung_from.Given as goal

abbrev pub invariant-loop-rung : goal.invariant-loop-rung
invariant-loop-rung g l =
    Climbing (g.J.Joining.meaning l.joining) l.initial.here l.self.by l.self.length l._rung l.here l.one l.two l.count
