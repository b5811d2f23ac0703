use Rattle.std.proofs.Common.{sym}
use Rattle.std.proofs.lemmas.Nat.{mul-mod}
use Rattle.fields.proofs.residues.operations.ResiduesRing.product.Goals as goal

pub returns : goal.returns
returns c = rw (c.remainder.ensures, c.remainder-2.ensures) (sym (mul-mod c.args.a c.args.b c.args.self.now.q))
