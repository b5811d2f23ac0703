use Rattle.std.proofs.Common.{Ok, Err, ap, ◌∙◌}
use Rattle.std.proofs.lemmas.Result.{err_from_is_err_and}
use Rattle.joining.proofs.RatioValue.{quotient_ok, quotient_err}
use Rattle.joining.proofs.quotients.quotient.Goals as goal

pub returns-in_err-inverse : goal.returns-in_err-inverse
returns-in_err-inverse g c =
    let field = c.args.field.now in
    let p = err_from_is_err_and c.from_residual.result c.from_residual.ensures.1 in
    p.1 ∙ ap Err p.2
    ∙ quotient_err (g.F.Ring.meaning field) (g.F.Ring.laws field) c.args.ratio.top c.args.ratio.bottom _ c.in_err-inverse.ensures

pub returns : goal.returns
returns g c =
    let field = c.args.field.now in
    ap Ok c.product.ensures
    ∙ quotient_ok (g.F.Ring.meaning field) (g.F.Ring.laws field) c.args.ratio.top c.args.ratio.bottom _ c.in_ok-inverse.ensures
