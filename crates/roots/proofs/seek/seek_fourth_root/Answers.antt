use Rattle.std.proofs.Common.{rules}
use Rattle.roots.specs.Checks.{fourth_is}
use Rattle.roots.proofs.seek.seek_fourth_root.Goals as goal

pub returns : goal.returns
returns g c = c.first_led.ensures (fourth_is (g.R.Ring.meaning c.args.ring.now)) (λ z b p. search rules)
