use Rattle.std.proofs.Common.{◌≡◌, ℕ, Ok, sym, ap, ◌∙◌, ap₂, arith}
use Rattle.fields.specs.declared.residues.Residues.{Residues}
use Rattle.roots.specs.State.{State}
use Rattle.books.specs.Loading.{bound, loaded}
use Rattle.books.proofs.Checked.{loaded_runs}
use Rattle.books.proofs.LoadedWrites.{loaded_writes}
use Rattle.books.proofs.LoadsTo.{loads_read}
use Rattle.books.proofs.load.load_book.Goals as goal

comes_to : (c : goal.After-close) → Ok (bound c.close.result) ≡ loaded c.args.bytes.now
comes_to c =
    let b = c.in_ok-book.book in
    let d = c.in_ok-draft.draft in
    let opened = c.in_ok-book.ensures in
    let begun = c.in_ok-draft.ensures in
    let loads = loads_read c.args.bytes.now b.bytes.now opened.1 c.from.result b.count d.field.q b.fourth d.held
    c.fill.new.draft.held opened.0 opened.2 (c.from.ensures ∙ c.modulus.ensures ∙ opened.3) opened.4 opened.5
    begun.0 begun.1 begun.2 c.in_ok-fill.ensures.value in
    let over = ap (λ (f : Residues). f.q) (c.close.ensures.field ∙ c.fill.ensures.field) ∙ begun.1 in
    ap₂ (λ (p : ℕ) (s : State). Ok (p, s)) over c.close.ensures.value ∙ sym loads

pub returns : goal.returns
returns c = record {
  value = comes_to c;
  reached = loaded_runs c.args.bytes.now c.close.result.field.q c.close.result.held (sym (comes_to c));
  back = loaded_writes c.args.bytes.now (λ i. omega (arith, c.type_inv.bytes i)) c.close.result.field.q c.close.result.held (sym (comes_to c));
}
