use Rattle.std.proofs.Common.{sym, ◌∙◌, ap₂}
use Rattle.theory.specs.Operation.{ratio}
use Rattle.theory.proofs.JoiningLaws.{ratios_neutral}
use Rattle.joining.proofs.joinings.RatiosJoining.reduced.Goals as goal

pub returns : goal.returns
returns g c =
    let ring = c.args.self.now.ring.now in
    ap₂ ratio c.remainder.ensures c.remainder-2.ensures
    ∙ sym (ratios_neutral (g.R.Ring.meaning ring) (g.R.Ring.laws ring) c.args.self.now.mark c.args.a)
