use Rattle.std.proofs.Common.{◌≡◌, ℕ, List, [], Ok, Result, sym, ap, ◌∙◌, ap₂, arith}
use Rattle.std.specs.Result.{result_ok}
use Rattle.theory.specs.Residues.{residues}
use Rattle.refusals.specs.declared.Refusal.{Refusal}
use Rattle.roots.specs.Rooting.{Answer, rooted, answered}
use Rattle.octets.specs.Buffers.{joined}
use Rattle.books.specs.Loading.{bound, loaded}
use Rattle.lists.specs.Calls.{rooted_text}
use Rattle.lists.specs.Texts.{text_of_mark}
use Rattle.lists.specs.Tracks.{mark_at, mark_in, tracked}
use Rattle.lists.proofs.Answering.{held_whole, mark_found, lined_at}
use Rattle.lists.proofs.MarkLines.{mark_lines}
use Rattle.lists.proofs.call.line_of.Goals as goal

pub returns : goal.returns
returns c =
    let track = c.args.track.now in
    let k = c.args.number in
    let p = bound c.in_ok-plan.plan in
    let t = c.in_ok-marks.marks in
    let opens = c.in_ok-marks.ensures in
    let there = sym (c.ok_or.ensures.ok_part ∙ ap result_ok c.in_ok-ok_or.was) ∙ c.mark.ensures.value in
    let found = mark_found track t.count k c.in_ok-ok_or.field-0 (there ∙ ap (λ (b : List ℕ). mark_in b t.count k) opens.0) in
    let mark : c.from-mark.result ≡ mark_at track k = c.from-mark.ensures ∙ found.1 in
    let root : c.root.result ≡ answered (rooted (residues p.0) p.1 (mark_at track k)) =
    c.root.ensures.value ∙ ap (λ (m : ℕ). answered (rooted (residues p.0) p.1 m)) mark in
    let text = rooted_text p k (mark_at track k) in
    let is = lined_at (loaded c.args.book.now) (tracked track) track p t.count k (sym c.in_ok-plan.ensures.value) opens.1 found.0 in
    let line = mark_lines c.args.book.now track (λ i. omega (arith, c.type_inv.track i)) k 96 text is in
    ap (λ (b : List ℕ). Ok b)
    (held_whole text c.mark_text.result
    (c.mark_text.ensures ∙ ap₂ (λ (m : ℕ) (r : Result Answer Refusal). joined [] (text_of_mark k m r)) mark root) line.fits)
    ∙ sym is
