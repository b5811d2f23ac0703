use Rattle.std.proofs.Common.{arith}
use Rattle.joining.proofs.Digits.{nothing, starts, ends, turn_zero, turn_one, few_so_far}
use Rattle.joining.proofs.powers.power.Goals as goal

pub returns-then-k-eq0 : goal.returns-then-k-eq0
returns-then-k-eq0 g c = nothing _ _ _ _ c.if-k-eq0.true c.neutral.ensures

pub loop-place-init : goal.loop-place-init
loop-place-init g c =
    let top = c.ilog2-place.ensures in starts _ _ _ _ _ top.power_le top.next_power_gt c.reduced-result.ensures

pub overflow_add-count : goal.overflow_add-count
overflow_add-count g c = omega (arith, few_so_far _ _ _ _ _ _ c.loop-place.invariant)

pub overflow_add-count-then-k-place-eq1 : goal.overflow_add-count-then-k-place-eq1
overflow_add-count-then-k-place-eq1 g c = omega (arith, few_so_far _ _ _ _ _ _ c.loop-place.invariant)

pub loop-place-preserved-then-k-place-eq1 : goal.loop-place-preserved-then-k-place-eq1
loop-place-preserved-then-k-place-eq1 g c =
    turn_one _ (g.J.Joining.laws c.args.joining.now) _ _ _ _ _ _ _ (omega arith) c.loop-place-test.true c.loop-place.invariant
    c.join-result.ensures c.join-result-then-k-place-eq1.ensures c.if-k-place-eq1.true

pub loop-place-preserved : goal.loop-place-preserved
loop-place-preserved g c =
    turn_zero _ (g.J.Joining.laws c.args.joining.now) _ _ _ _ _ _ (omega arith) c.loop-place-test.true c.loop-place.invariant
    c.join-result.ensures c.if-k-place-eq1.false

pub returns : goal.returns
returns g c = ends _ _ _ _ _ _ c.loop-place-test.false c.loop-place.invariant
