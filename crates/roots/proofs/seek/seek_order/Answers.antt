use Rattle.std.proofs.Common.{rules}
use Rattle.roots.specs.Checks.{order_is}
use Rattle.roots.proofs.seek.seek_order.Goals as goal

pub returns : goal.returns
returns g c = c.first_led.ensures (λ z. order_is (g.R.Ring.meaning c.args.ring.now) z c.args.r) (λ z b p. search rules)
