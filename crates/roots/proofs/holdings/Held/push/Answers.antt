use Rattle.roots.proofs.Rows.{small_push}
use Rattle.roots.proofs.holdings.Held.push.Goals as goal

pub invariant_of-self : goal.invariant_of-self
invariant_of-self c = rw c.push.ensures.items (small_push c.self.inside.factors.items c.args.factor c.self.invariant c.requires.1)

pub returns-clause-small : goal.returns-clause-small
returns-clause-small c = rw c.push.ensures.items (small_push c.self.inside.factors.items c.args.factor c.self.invariant c.requires.1)
