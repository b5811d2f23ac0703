use Rattle.std.proofs.Common.{rules, ◌≡◌}
use Rattle.roots.specs.Drafts.{answer, sought_fourth}
use Rattle.roots.proofs.Promises.{seek_fourth_finds}
use Rattle.roots.proofs.draft.seeking.Draft+F.seek_fourth.Goals as goal

pub returns-in_err-root-clause-finds : goal.returns-in_err-root-clause-finds
returns-in_err-root-clause-finds g c =
    let d = c.args.self.now in
    let value : c.from_residual.result ≡ answer (sought_fourth (g.F.Ring.meaning d.field) d.held) = search rules in
    seek_fourth_finds (g.F.Ring.meaning d.field) (g.F.Ring.laws d.field) _ _ value
