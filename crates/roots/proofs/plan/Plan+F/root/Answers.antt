use Rattle.roots.proofs.Promises.{root_laws}
use Rattle.roots.proofs.plan.Plan+F.root.Goals as goal

pub returns : goal.returns
returns g c =
    let field = c.args.self.now.field in
    record {
      value = c.root_mark.ensures;
      laws = root_laws (g.F.Ring.meaning field) (g.F.Ring.laws field) _ _ _ c.root_mark.ensures;
    }
