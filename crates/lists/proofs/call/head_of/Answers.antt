use Rattle.std.proofs.Common.{ℕ, [], Result, sym, ap, ◌∙◌, ap₂}
use Rattle.refusals.specs.declared.Refusal.{Refusal}
use Rattle.octets.specs.Buffers.{joined}
use Rattle.books.specs.Loading.{Bound}
use Rattle.lists.specs.Calls.{headed}
use Rattle.lists.specs.Tracks.{tracked}
use Rattle.lists.proofs.HeadLines.{head_held}
use Rattle.lists.proofs.call.head_of.Goals as goal

pub returns-in-Err : goal.returns-in-Err
returns-in-Err c =
    head_held c.args.book.now c.args.track.now c.refused_text.result
    (c.refused_text.ensures ∙ ap (λ (l : Result Bound Refusal). joined [] (headed l (tracked c.args.track.now))) c.in-Err.ensures.value)

pub returns-in-Err-open : goal.returns-in-Err-open
returns-in-Err-open c =
    head_held c.args.book.now c.args.track.now c.refused_text-in-Err-open.result
    (c.refused_text-in-Err-open.ensures
    ∙ ap₂ (λ (l : Result Bound Refusal) (t : Result ℕ Refusal). joined [] (headed l t)) c.in-Ok.ensures.value (sym c.in-Err-open.ensures))

pub returns-in-Ok-open : goal.returns-in-Ok-open
returns-in-Ok-open c =
    head_held c.args.book.now c.args.track.now c.head_text.result
    (c.head_text.ensures
    ∙ ap₂ (λ (l : Result Bound Refusal) (t : Result ℕ Refusal). joined [] (headed l t)) c.in-Ok.ensures.value (sym c.in-Ok-open.ensures.1))
