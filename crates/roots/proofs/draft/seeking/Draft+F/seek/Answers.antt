use Rattle.std.proofs.Common.{rules, ◌≡◌}
use Rattle.roots.specs.Drafts.{answer, sought}
use Rattle.roots.proofs.Promises.{seek_finds}
use Rattle.roots.proofs.draft.seeking.Draft+F.seek.Goals as goal

pub returns-in_err-zeta-clause-finds : goal.returns-in_err-zeta-clause-finds
returns-in_err-zeta-clause-finds g c =
    let d = c.args.self.now in
    let value : c.from_residual-in_err-zeta.result ≡ answer (sought (g.F.Ring.meaning d.field) d.held c.args.r c.args.f) = search rules in
    seek_finds (g.F.Ring.meaning d.field) (g.F.Ring.laws d.field) _ _ _ _ value
