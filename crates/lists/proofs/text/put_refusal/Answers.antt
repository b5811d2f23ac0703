use Rattle.std.proofs.Common.{rules}
use Rattle.octets.proofs.Joined.{joined_joined}
use Rattle.lists.proofs.text.put_refusal.Goals as goal

pub returns-in-Unlawful : goal.returns-in-Unlawful
returns-in-Unlawful c = search (rules, joined_joined)
