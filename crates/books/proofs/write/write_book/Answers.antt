use Rattle.std.proofs.Common.{◌≡◌, ℕ, ◌+◌, ◌*◌, ◌≤◌, true, List, length, take, Ok, sym, ap, ◌∙◌, arith}
use Rattle.fields.specs.declared.residues.Residues.{Residues}
use Rattle.roots.specs.State.{served}
use Rattle.books.specs.Loading.{loaded}
use Rattle.books.proofs.WritesBook.{wrote_all, write_value, write_after, write_loads}
use Rattle.books.proofs.write.write_book.Goals as goal

pub returns : goal.returns
returns c =
    let plan = c.args.plan.now in
    let q = plan.field.q in
    let s = plan.held in
    let out = c.args.out.now in
    let buffer = c.book_bytes.result in
    let size : c.size.result ≡ q = c.size.ensures ∙ ap (λ (r : Residues). r.q) c.field.ensures in
    let serves : served q ≡ true = ap served (sym size) ∙ sym c.if-not-is_served.ensures in
    let room : 16 + 12 * length s.factors ≤ length out = omega (arith, c.if-out-factors.false, ap length c.factors.ensures.value) in
    let is = c.book_bytes.ensures in
    let wrote : c.lay_over.result ≡ length buffer = c.lay_over.ensures.value ∙ wrote_all q s out buffer room is in
    record {
      value = ap Ok wrote ∙ write_value q s out buffer serves room is;
      after = c.lay_over.ensures.after ∙ write_after q s out buffer serves room is;
      loads = λ calls made n e.
          ap (λ (b : List ℕ). loaded (take n b)) c.lay_over.ensures.after
          ∙ write_loads q s out buffer serves room is plan.field.low plan.field.high calls made n
          (ap Ok (sym wrote) ∙ e);
    }
