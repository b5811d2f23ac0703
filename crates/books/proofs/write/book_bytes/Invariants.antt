use Rattle.std.proofs.Common.{◌≡◌, ◌-◌, ◌++◌, drop}
use Rattle.books.specs.Loading.{bound}
use Rattle.books.specs.Writing.{book_of, offset_words, records_bytes}
use Rattle.books.proofs.write.book_bytes.Given as goal

-- what is held and what is left to write make up the book
abbrev pub invariant-loop-k : goal.invariant-loop-k
invariant-loop-k l =
    l.buffer ++ (offset_words l.count l.k (l.count - l.k) ++ records_bytes l.factors) ≡ book_of (bound l.plan).0 (bound l.plan).1

abbrev pub invariant-loop-factor : goal.invariant-loop-factor
invariant-loop-factor l = l.buffer ++ records_bytes (drop l.factor-index l.factors) ≡ book_of (bound l.plan).0 (bound l.plan).1
