use Rattle.std.proofs.Common.{arith}
use Rattle.roots.proofs.OrderLoop.{powers_start, powers_turn, powers_here, powers_end}
use Rattle.roots.proofs.checks.has_order.Goals as goal

pub loop-k-init : goal.loop-k-init
loop-k-init g c = powers_start _ _ _

pub returns-then-power-eq1 : goal.returns-then-power-eq1
returns-then-power-eq1 g c =
    powers_here _ _ _ _ _ _ (omega (arith, c.loop-k-test.true)) c.product-power.ensures c.if-power-eq1.true c.loop-k.invariant

pub loop-k-preserved : goal.loop-k-preserved
loop-k-preserved g c =
    powers_turn _ _ _ _ _ _ (omega (arith, c.loop-k-test.true)) c.product-power.ensures c.if-power-eq1.false c.loop-k.invariant

-- the last power is not 1 either
pub returns-else-power-eq1 : goal.returns-else-power-eq1
returns-else-power-eq1 g c =
    powers_end _ _ _ _ _ (omega arith)
    (powers_turn _ _ _ _ _ _ (omega (arith, c.loop-k-test.true)) c.product-power.ensures c.if-power-eq1.false c.loop-k.invariant)

pub returns : goal.returns
returns g c = powers_end _ _ _ _ _ (omega (arith, c.loop-k-test.false)) c.loop-k.invariant
