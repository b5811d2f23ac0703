use Rattle.std.proofs.Common.{ℕ, ◌++◌, Err, Option, Result, sym, ap, ◌∙◌, subst, ap₂}
use Rattle.std.proofs.lemmas.Result.{err_from_is_err_and}
use Rattle.theory.specs.Residues.{residues}
use Rattle.refusals.specs.declared.Refusal.{Refusal}
use Rattle.fields.specs.declared.residues.Residues.{Residues}
use Rattle.roots.specs.Laws.{adopting, giving_fourth}
use Rattle.roots.specs.Runs.{tried}
use Rattle.roots.specs.State.{State}
use Rattle.roots.proofs.Rebuilt.{tried_append}
use Rattle.books.specs.Layout.{offset}
use Rattle.books.specs.Loading.{Tries, records}
use Rattle.books.proofs.Turns.{tries_refused, refused_append}
use Rattle.books.proofs.load.fill.Goals as goal

pub returns-in_err-adopt_records-clause-value : goal.returns-in_err-adopt_records-clause-value
returns-in_err-adopt_records-clause-value c =
    let p = err_from_is_err_and c.from_residual.result c.from_residual.ensures.1 in
    let b = c.args.book.now in
    let m = residues c.args.draft.now.field.q in
    let s = c.args.draft.now.held in
    let why = c.in_err-adopt_records.field-0.0 in
    tries_refused (tried m s (adopting (records b.bytes.now (offset b.count 0) b.count) ++ giving_fourth b.fourth)) c.from_residual.result
    c.adopt_records.new.draft.held why (p.1 ∙ ap Err p.2)
    (refused_append m s (adopting (records b.bytes.now (offset b.count 0) b.count)) (giving_fourth b.fourth) why
    c.in_err-adopt_records.ensures.value)

pub returns-clause-value : goal.returns-clause-value
returns-clause-value c =
    let b = c.args.book.now in
    let q = c.args.draft.now.field.q in
    let s = c.args.draft.now.held in
    let t = c.adopt_records.new.draft.held in
    let held = adopting (records b.bytes.now (offset b.count 0) b.count) in
    let same = ap (λ (f : Residues). f.q) c.adopt_records.ensures.field in
    let on = ap₂ (λ (p : ℕ) (o : Option ℕ). tried (residues p) t (giving_fourth o)) same c.fourth.ensures
    ∙ sym (tried_append (residues q) s t held (giving_fourth b.fourth) c.in_ok-adopt_records.ensures.value) in
    subst (λ (o : Result State Refusal). Tries o c.give_fourth.result c.give_fourth.new.draft.held) on c.give_fourth.ensures.value
