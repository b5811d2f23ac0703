use Rattle.std.proofs.Common.{◌/◌, ◌^◌, ap, ◌∙◌, rules}
use Rattle.roots.proofs.DivideLoops.{power_over, whole_run}
use Rattle.roots.proofs.divide.by_power.Goals as goal

pub returns : goal.returns
returns c =
    let runs = c.fold.ensures.runs in
    runs.3 (λ left _. left / c.args.r) (λ left x r f k. (search rules, search rules)) ∙ power_over c.args.r c.args.n runs.0.items
    ∙ ap (λ k. c.args.n / c.args.r ^ k) (whole_run c.args.f runs.0 runs.1 runs.2)
