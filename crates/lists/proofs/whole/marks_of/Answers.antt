use Rattle.std.proofs.Common.{◌≡◌, length, vec_items, sym, ap, ◌∙◌}
use Rattle.std.proofs.lemmas.Result.{IfOk-weaker}
use Rattle.lists.specs.Tracks.{marks_from, marks_in, tracked}
use Rattle.lists.proofs.Taken.{marks_length}
use Rattle.lists.proofs.whole.marks_of.Goals as goal

pub returns-in-Ok : goal.returns-in-Ok
returns-in-Ok c =
    let t = c.in-Ok.track in
    IfOk-weaker c.marks.result (λ v. vec_items v ≡ marks_from t.bytes.now 0 t.count) (λ v. length (vec_items v) ≡ marks_in (tracked c.args.track.now))
    (λ v is. ap length is ∙ marks_length t.bytes.now 0 t.count ∙ sym (ap marks_in c.in-Ok.ensures.1))
    c.marks.ensures
