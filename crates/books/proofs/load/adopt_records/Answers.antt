use Rattle.std.proofs.Common.{Err, sym, ap, ◌∙◌, arith}
use Rattle.std.specs.Result.{result_ok}
use Rattle.std.proofs.lemmas.Result.{err_from_is_err_and}
use Rattle.fields.specs.declared.residues.Residues.{Residues}
use Rattle.books.proofs.RecordLoop.{Whole, adopts_on, adopts_not, adopts_all}
use Rattle.books.proofs.Turns.{tries_refused}
use Rattle.books.proofs.load.adopt_records.Goals as goal

pub loop-k-preserved : goal.loop-k-preserved
loop-k-preserved c =
    let book = c.args.book.now.bytes.now in
    let n = c.args.book.now.count in
    let q = c.args.draft.now.field.q in
    let s = c.loop-k.draft.held in
    let t = c.adopt.new.self.held in
    let same = ap (λ (f : Residues). f.q) c.loop-k.invariant.1 in (
      c.loop-k.invariant.0
          ∙ adopts_on book n q c.loop-k.k s c.in_ok-factor.factor c.loop-k.draft.field.q (omega (arith, c.loop-k-test.true, c.count-k-end.ensures)) same (sym (c.ok_or.ensures.ok_part ∙ ap result_ok c.in_ok-factor.was) ∙ c.factor.ensures.value) t
          c.in_ok-adopt.field-0 c.in_ok-adopt.ensures.value c.adopt.ensures.after,
      c.adopt.ensures.field ∙ c.loop-k.invariant.1,
    )

pub returns-in_err-adopt-clause-value : goal.returns-in_err-adopt-clause-value
returns-in_err-adopt-clause-value c =
    let p = err_from_is_err_and c.from_residual-in_err-adopt.result c.from_residual-in_err-adopt.ensures.1 in
    let book = c.args.book.now.bytes.now in
    let n = c.args.book.now.count in
    let q = c.args.draft.now.field.q in
    let s = c.loop-k.draft.held in
    let same = ap (λ (f : Residues). f.q) c.loop-k.invariant.1 in
    let why = c.in_err-adopt.field-0.0 in
    tries_refused (Whole book n q c.args.draft.now.held) c.from_residual-in_err-adopt.result c.adopt.new.self.held why
    (p.1 ∙ ap Err p.2)
    (c.loop-k.invariant.0
    ∙ adopts_not book n q c.loop-k.k s c.in_ok-factor.factor c.loop-k.draft.field.q (omega (arith, c.loop-k-test.true, c.count-k-end.ensures)) same (sym (c.ok_or.ensures.ok_part ∙ ap result_ok c.in_ok-factor.was) ∙ c.factor.ensures.value) why
    c.in_err-adopt.ensures.value)

pub returns-clause-value : goal.returns-clause-value
returns-clause-value c =
    let book = c.args.book.now.bytes.now in
    let n = c.args.book.now.count in
    let q = c.args.draft.now.field.q in
    c.loop-k.invariant.0 ∙ adopts_all book n q c.loop-k.k c.loop-k.draft.held (omega (arith, c.loop-k-test.false, c.count-k-end.ensures))
