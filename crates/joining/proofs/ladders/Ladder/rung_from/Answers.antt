use Rattle.std.proofs.Common.{◌≡◌, ◌≤◌, false, sym, ◌∙◌, subst}
use Rattle.std.proofs.lemmas.Bool.{both_ways}
use Rattle.theory.specs.Operation.{before}
use Rattle.joining.specs.declared.Back.{Back}
use Rattle.joining.specs.Ladder.{places}
use Rattle.joining.proofs.Climbing.{begins, rises, few_so_far, answer_rung, answer_none}
use Rattle.joining.proofs.ladders.Ladder.rung_from.Goals as goal
use Rattle.joining.proofs.ladders.Ladder.rung_from.Goals.{else-loop-rung-test, then-loop-rung-test+then-is_spent, in-One, in-Two}

pub loop-rung-init : goal.loop-rung-init
loop-rung-init g c = begins _ (g.J.Joining.laws c.args.joining.now) _ _ _ _ c.reduced-here.ensures

pub loop-rung-preserved : goal.loop-rung-preserved
loop-rung-preserved g c =
    rises _ _ _ _ _ _ _ _ _ c.loop-rung.invariant _ _ c.loop-rung-test.true (sym c.if-is_spent.ensures)
    c.power-next.ensures.value c.power-next.ensures.count

pub returns-then-not-is_spent : goal.returns-then-not-is_spent
returns-then-not-is_spent g c =
    let unspent : (g.J.Joining.meaning c.args.joining.now).spent c.loop-rung.here ≡ false = sym c.if-not-is_spent.ensures in
    let last : c.args.self.length ≤ c.loop-rung._rung = elim c.loop-rung-test.branch [
      | else-loop-rung-test w ↦ w.loop-rung-test.false
      | then-loop-rung-test+then-is_spent w ↦ absurd (both_ways ((g.J.Joining.meaning c.args.joining.now).spent c.loop-rung.here) unspent (sym w.if-is_spent.ensures))
    ] in
    record {
      value =
          answer_none _ _ _ _ _ _ _ _ _ c.loop-rung.invariant (g.J.Joining.laws c.args.joining.now) c.args.x
          c.reduced-here.ensures c.args.self.back c.args.code last unspent;
      few = tt;
    }

pub returns : goal.returns
returns g c =
    let o = g.J.Joining.meaning c.args.joining.now in
    let up = c.loop-rung.invariant in
    let Before : Back → Type 0 = λ back. c.match-self.rung ≡ before o c.reduced-here.result c.args.self.by (places back) c.loop-rung._rung in
    let asked : Before c.args.self.back = elim c.match-self.branch [
      | in-One w ↦ subst Before (sym w.in-One.is) (w.rung-is ∙ up.one_back)
      | in-Two w ↦ subst Before (sym w.in-Two.is) (w.rung-is ∙ up.two_back)
    ] in
    record {
      value =
          answer_rung _ _ _ _ _ _ _ _ _ up (g.J.Joining.laws c.args.joining.now) c.args.x
          c.reduced-here.ensures c.args.self.back c.args.code _ asked (sym c.if-not-is_spent.ensures);
      few = few_so_far _ _ _ _ _ _ _ _ _ up;
    }
