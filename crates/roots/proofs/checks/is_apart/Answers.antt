use Rattle.std.proofs.Common.{eqb, ◌∙◌, rules}
use Rattle.std.proofs.lemmas.Iterator.{YieldsList-from_slice}
use Rattle.std.proofs.lemmas.Iterator.Search.{all_from_yields_List}
use borrow.Author.Tests.{tests}
use Rattle.roots.specs.Checks.{gcd}
use Rattle.roots.proofs.Rows.{apart_all}
use Rattle.roots.proofs.checks.is_apart.Goals as goal

pub returns : goal.returns
returns c =
    all_from_yields_List (λ h. eqb (gcd c.args.r h.r) 1) _ _ _ c.all.ensures.ran (YieldsList-from_slice c.args.factors.now cc) (λ x b q k. search (rules, tests))
    ∙ apart_all c.args.r c.args.factors.now
