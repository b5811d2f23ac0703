use Rattle.std.proofs.Common.{arith}
use Rattle.roots.proofs.DivideLoops.{goes_starts, goes_turn, goes_stops, goes_ends}
use Rattle.roots.proofs.divide.parted.Goals as goal

pub loop-times-init : goal.loop-times-init
loop-times-init c = goes_starts _ _

pub returns-then-left-r-ne0 : goal.returns-then-left-r-ne0
returns-then-left-r-ne0 c =
    let gone = goes_stops _ _ _ _ c.loop-times-test.true c.if-left-r-ne0.true c.loop-times.invariant in
    record { left = gone.left_is; times = gone.times_is; few = gone.few }

pub loop-times-preserved : goal.loop-times-preserved
loop-times-preserved c =
    goes_turn _ _ _ _ c.loop-times-test.true c.if-left-r-ne0.false c.loop-times.invariant

pub returns : goal.returns
returns c =
    let gone = goes_ends _ _ _ _ (omega (arith, c.loop-times-test.false)) c.loop-times.invariant in
    record { left = gone.left_is; times = gone.times_is; few = gone.few }
