use Rattle.std.proofs.Common.{refl, ap, ◌∙◌}
use Rattle.roots.proofs.Promises.{replay_keeps}
use Rattle.roots.proofs.RunLoop.{runs_start, runs_turn, runs_end}
use Rattle.roots.proofs.draft.calls.Draft+F.replay.Goals as goal

pub loop-call-init : goal.loop-call-init
loop-call-init g c = (
  refl,
  runs_start _ _ _ _ (ap g.F.Ring.meaning c.start-draft.ensures.field) c.start-draft.ensures.value,
)

pub loop-call-preserved : goal.loop-call-preserved
loop-call-preserved g c = (
  c.call.ensures.field ∙ c.loop-call.invariant.0,
  runs_turn _ _ _ _ _ _ _ c.loop-call-test.true (ap g.F.Ring.meaning c.loop-call.invariant.0) c.call.ensures.after c.loop-call.invariant.1,
)

pub returns : goal.returns
returns g c =
    let field = c.args.field in
    let ends = runs_end _ _ _ _ _ c.loop-call-test.false (ap g.F.Ring.meaning c.start-draft.ensures.field) c.loop-call.invariant.1 in
    record {
      value = ends;
      field = c.loop-call.invariant.0 ∙ c.start-draft.ensures.field;
      kept = replay_keeps (g.F.Ring.meaning field) (g.F.Ring.laws field) _ _ ends;
    }
