use Rattle.std.proofs.Common.{◌≡◌, ◌≤◌, List, length, drop, get_or, ◌+◌, ◌++◌, sym, ap, ◌∙◌, arith}
use Rattle.std.specs.Option.{unwrap_or}
use Rattle.fields.specs.declared.residues.Residues.{Residues}
use Rattle.roots.specs.declared.gathered.Gathered.{Gathered}
use Rattle.roots.specs.declared.gathered.Closed.{Closed}
use Rattle.roots.specs.declared.factor.Factor.{Factor}
use Rattle.roots.specs.Drafts.{factor}
use Rattle.books.specs.Loading.{bound}
use Rattle.books.specs.Writing.{book_of, record_bytes, records_bytes}
use Rattle.books.proofs.WriteLoops.{book_length, head_first, records_over, records_turn, words_end, words_on, word_is, written_all, written_on}
use Rattle.books.proofs.write.book_bytes.Goals as goal

-- the book of a plan of eight factors at most finds room
room : (p : Gathered Residues Closed) (hs : List Factor) → hs ≡ p.held.factors → length hs ≤ 8 → length (book_of (bound p).0 (bound p).1) ≤ 112
room p hs e few = omega (arith, book_length (bound p).0 (bound p).1, ap length e, few)

pub loop-k-init : goal.loop-k-init
loop-k-init c =
    let plan = c.args.plan.now in
    head_first plan.field.q (bound plan).1 c.size.result c.unwrap_or-fourth.result c.factors-factors.result.now c.new-buffer.result c.put_head.new.buffer
    c.new-buffer.ensures (c.size.ensures ∙ ap (λ (r : Residues). r.q) c.field.ensures)
    (c.unwrap_or-fourth.ensures ∙ ap (λ o. unwrap_or o 0) c.fourth.ensures ∙ word_is plan.held.fourth) c.factors-factors.ensures.value c.put_head.ensures

pub loop-k-preserved : goal.loop-k-preserved
loop-k-preserved c =
    let n = length c.factors-factors.result.now in
    words_on n c.loop-k.k (records_bytes c.factors-factors.result.now) c.loop-k.buffer _ c.loop-k.invariant c.low.new.self
    c.loop-k-test.true (room c.args.plan.now _ c.factors-factors.ensures.value c.factors-factors.ensures.few) c.low.ensures

pub loop-factor-init : goal.loop-factor-init
loop-factor-init c =
    let n = length c.factors-factors.result.now in
    words_end n c.loop-k.k (records_bytes c.factors-factors.result.now) c.loop-k.buffer _ c.loop-k.invariant c.loop-k-test.false

pub loop-factor-preserved : goal.loop-factor-preserved
loop-factor-preserved c =
    let hs = c.factors-factors.result.now in
    let i = c.loop-factor.factor-index in
    let before = c.loop-factor.buffer in
    let h = get_or hs i (factor 0 0 0) in
    written_on before c.put_record.new.buffer (record_bytes h) (records_bytes (drop (i + 1) hs)) _ (room c.args.plan.now _ c.factors-factors.ensures.value c.factors-factors.ensures.few)
    c.put_record.ensures (ap (λ rs. before ++ rs) (sym (records_turn hs i (factor 0 0 0) c.loop-factor-test.true)) ∙ c.loop-factor.invariant)

pub returns : goal.returns
returns c =
    written_all c.loop-factor.buffer _ _ (records_over c.factors-factors.result.now c.loop-factor.factor-index c.loop-factor-test.false)
    c.loop-factor.invariant
