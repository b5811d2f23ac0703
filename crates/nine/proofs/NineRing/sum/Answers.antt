use Rattle.std.proofs.Common.{ℕ, ◌+◌, ◌*◌, ◌%◌, ◌<◌, length, get_or, vec_items, ap, ◌∙◌, arith}
use Rattle.std.proofs.lemmas.List.{get_or_read}
use Rattle.nine_laws.proofs.NineLaws.{sums_length}
use Rattle.nine.proofs.NineRing.sum.Goals as goal

pub index-requires : goal.index-requires
index-requires c =
    let field = c.args.self.now in
    omega (arith, field.table.ok.0, ap length field.holds ∙ sums_length)

pub returns : goal.returns
returns c =
    let field = c.args.self.now in
    let place : ℕ = 9 * (c.args.a % 9) + c.args.b % 9 in
    let within : place < length (vec_items field.table) = omega (arith, ap length field.holds ∙ sums_length) in
    c.from.ensures
    ∙ get_or_read (vec_items field.table) place _ within c.index.ensures 0
    ∙ ap (λ items. get_or items place 0) field.holds
