use Rattle.std.proofs.Common.{sym, ◌∙◌, arith}
use Rattle.roots.proofs.DivideLoops.{gcd_turn, gcd_ends}
use Rattle.roots.proofs.divide.gcd.Goals as goal

pub loop-b-preserved : goal.loop-b-preserved
loop-b-preserved c = c.loop-b.invariant ∙ gcd_turn _ _ (omega (arith, c.loop-b-test.true))

pub returns : goal.returns
returns c = sym (c.loop-b.invariant ∙ gcd_ends _ _ c.loop-b-test.false)
