use Rattle.std.proofs.Common.{rules}
use Rattle.roots.proofs.DivideLoops.{divides}
use Rattle.roots.proofs.divide.divided_out.Goals as goal

pub returns : goal.returns
returns c =
    divides _ _ c.args.r (λ left x v f k. (search rules, search rules)) c.args.f c.args.n _ _ c.if-f-eq0.false c.try_fold.ensures.ran
