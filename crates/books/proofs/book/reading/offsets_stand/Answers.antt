use Rattle.std.proofs.Common.{rules, refl, ◌∙◌, arith}
use Rattle.std.proofs.lemmas.Iterator.{YieldsList-from_range}
use Rattle.std.proofs.lemmas.Iterator.Search.{all_from_yields_List}
use Rattle.books.proofs.Offsets.{stated, all_stated}
use Rattle.books.proofs.book.reading.offsets_stand.Goals as goal

pub returns : goal.returns
returns c =
    let book = c.args.bytes.now in
    let n = c.args.count in
    all_from_yields_List (stated book n) _ _ c.all.result c.all.ensures.ran
    (YieldsList-from_range 0 n n refl (omega arith)) (λ x b q k. search rules)
    ∙ all_stated book n 0 n (omega arith)
