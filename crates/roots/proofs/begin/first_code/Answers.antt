use Rattle.roots.proofs.BeginLoop.{begins_root, begins_kept, begins_turn, begins_end}
use Rattle.roots.proofs.begin.first_code.Goals as goal

pub returns-then-product-ratios-clause-value : goal.returns-then-product-ratios-clause-value
returns-then-product-ratios-clause-value g c =
    begins_root (g.R.Ring.meaning c.args.ratios.now.ring.now) _ _ _ _ c.loop-g-test.true c.loop-g.invariant _ c.product.ensures c.if-product-ratios.true

pub returns-then-not-is_spent-clause-value : goal.returns-then-not-is_spent-clause-value
returns-then-not-is_spent-clause-value g c =
    begins_kept (g.R.Ring.meaning c.args.ratios.now.ring.now) _ _ _ _ c.loop-g-test.true c.loop-g.invariant _ _ _ _ _ c.product.ensures c.if-product-ratios.false
    c.power-raising.ensures.count c.element.ensures c.power-raising.ensures.value c.is_spent.ensures c.if-not-is_spent.true

pub loop-g-preserved : goal.loop-g-preserved
loop-g-preserved g c =
    begins_turn (g.R.Ring.meaning c.args.ratios.now.ring.now) _ _ _ _ c.loop-g-test.true c.loop-g.invariant _ _ _ _ _ c.product.ensures c.if-product-ratios.false
    c.power-raising.ensures.count c.element.ensures c.power-raising.ensures.value c.is_spent.ensures c.if-not-is_spent.false c.power-raising.ensures.few

pub returns-clause-value : goal.returns-clause-value
returns-clause-value g c = begins_end (g.R.Ring.meaning c.args.ratios.now.ring.now) _ _ _ _ c.loop-g-test.false c.loop-g.invariant
