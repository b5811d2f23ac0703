use Rattle.std.proofs.Common.{sym, ◌∙◌, mod-eq_of_lt, arith}
use Rattle.std.proofs.Math.Nat.{add-mod, mod-eq-sub-mod}
use Rattle.fields.proofs.residues.operations.ResiduesRing.sum.Goals as goal

pub returns-then-c-self : goal.returns-then-c-self
returns-then-c-self c =
    rw (add-mod, ← c.remainder.ensures, ← c.remainder-2.ensures) (sym (mod-eq_of_lt (omega arith)))

pub returns-else-c-self : goal.returns-else-c-self
returns-else-c-self c =
    rw (add-mod, ← c.remainder.ensures, ← c.remainder-2.ensures)
    (sym (mod-eq-sub-mod (omega arith) ∙ mod-eq_of_lt (omega arith)))
