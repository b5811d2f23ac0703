use Rattle.std.proofs.Common.{◌≡◌}
use Rattle.roots.specs.Checks.{gcd}
use Rattle.roots.proofs.divide.gcd.Given as goal

abbrev pub invariant-loop-b : goal.invariant-loop-b
invariant-loop-b l = gcd l.fn.a l.fn.b ≡ gcd l.a l.b

abbrev pub decreases-loop-b : goal.decreases-loop-b
decreases-loop-b l = l.b
