use Rattle.std.proofs.Common.{rules}
use Rattle.octets.proofs.Joined.{joined_four}
use Rattle.books.proofs.write.put_head.Goals as goal

pub returns : goal.returns
returns c = search (rules, joined_four)
