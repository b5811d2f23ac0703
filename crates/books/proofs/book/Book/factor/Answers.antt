use Rattle.std.proofs.Common.{◌∙◌, arith}
use Rattle.books.specs.Layout.{offset}
use Rattle.books.proofs.Shifted.{read_shift}
use Rattle.books.proofs.book.Book.factor.Goals as goal

pub returns-clause-value : goal.returns-clause-value
returns-clause-value c =
    c.read_record.ensures
    ∙ read_shift c.args.self.now.bytes.now (offset c.args.self.now.count c.args.k) (omega arith)
