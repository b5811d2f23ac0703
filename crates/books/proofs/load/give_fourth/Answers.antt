use Rattle.std.proofs.Common.{ℕ, [], Some, Err, sym, ap, ◌∙◌}
use Rattle.std.proofs.lemmas.Result.{err_from_is_err_and}
use Rattle.theory.specs.Residues.{residues}
use Rattle.roots.specs.declared.call.Call.TheVariants.{Give}
use Rattle.roots.specs.Laws.{giving_fourth}
use Rattle.roots.specs.Runs.{tried}
use Rattle.roots.proofs.Rebuilt.{tried_none}
use Rattle.books.proofs.Turns.{goes_on, stops, tries_refused}
use Rattle.books.proofs.load.give_fourth.Goals as goal

pub returns-in_err-give-clause-value : goal.returns-in_err-give-clause-value
returns-in_err-give-clause-value c =
    let p = err_from_is_err_and c.from_residual.result c.from_residual.ensures.1 in
    let m = residues c.args.draft.now.field.q in
    let s = c.args.draft.now.held in
    let i = c.from.result in
    let is = c.in-Some.is ∙ ap (λ (root : ℕ). Some root) (sym c.from.ensures) in
    let why = c.in_err-give.field-0.0 in
    tries_refused (tried m s (giving_fourth c.args.fourth)) c.from_residual.result c.give.new.self.held why (p.1 ∙ ap Err p.2)
    (ap (λ o. tried m s (giving_fourth o)) is ∙ stops m s (Give i) [] why c.in_err-give.ensures.value)

pub returns-in_ok-give-clause-value : goal.returns-in_ok-give-clause-value
returns-in_ok-give-clause-value c =
    let m = residues c.args.draft.now.field.q in
    let s = c.args.draft.now.held in
    let t = c.give.new.self.held in
    let i = c.from.result in
    let is = c.in-Some.is ∙ ap (λ (root : ℕ). Some root) (sym c.from.ensures) in
    ap (λ o. tried m s (giving_fourth o)) is
    ∙ goes_on m s (Give i) [] t c.in_ok-give.field-0 c.in_ok-give.ensures.value c.give.ensures.after
    ∙ tried_none m t

pub returns-in_default-clause-value : goal.returns-in_default-clause-value
returns-in_default-clause-value c =
    let m = residues c.args.draft.now.field.q in
    let s = c.args.draft.now.held in
    ap (λ o. tried m s (giving_fourth o)) c.in_default.is ∙ tried_none m s
