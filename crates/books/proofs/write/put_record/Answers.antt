use Rattle.std.proofs.Common.{rules}
use Rattle.octets.proofs.Joined.{joined_joined}
use Rattle.books.proofs.write.put_record.Goals as goal

pub returns : goal.returns
returns c = search (rules, joined_joined)
