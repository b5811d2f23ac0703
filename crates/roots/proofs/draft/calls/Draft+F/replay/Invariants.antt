use Rattle.std.proofs.Common.{◌≡◌}
use Rattle.roots.proofs.RunLoop.{RunsOn}
use Rattle.roots.proofs.draft.calls.Draft+F.replay.Given as goal

abbrev pub invariant-loop-call : goal.invariant-loop-call
invariant-loop-call g l =
    (l.draft.field ≡ l.initial.draft.field)
    × RunsOn (g.F.Ring.meaning l.initial.draft.field) l.calls l.call-index l.draft.held
