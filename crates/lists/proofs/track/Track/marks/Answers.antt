use Rattle.std.proofs.Common.{◌≡◌, ℕ, ◌-◌, ◌/◌, List, length, take, drop, map, vec_items, rules, ap, ap₂, ◌∙◌, arith}
use Rattle.std.specs.Simd.{first_chunks}
use Rattle.std.proofs.lemmas.Iterator.{YieldsList-from_slice, YieldsList-from_map, items_from_collect}
use Rattle.std.proofs.lemmas.List.{length-drop, take_rest}
use Rattle.std.proofs.lemmas.Result.{IfOk-weaker}
use Rattle.octets.specs.Words.{word_at}
use Rattle.lists.specs.Tracks.{marks_from}
use Rattle.lists.proofs.Taken.{marks_taken}
use Rattle.lists.proofs.track.Track.marks.Goals as goal

pub returns : goal.returns
returns c =
    let t = c.args.self.now in
    let read = λ (w : List ℕ). word_at w 0 in
    let words = c.as_chunks.result.0.now in
    let tail = take_rest t.bytes.now 8 in
    let whole = t.whole in
    let many : length (take (length t.bytes.now - 8) (drop 8 t.bytes.now)) / 4 ≡ t.count =
    omega (arith, ap length tail, length-drop 8 t.bytes.now) in
    let is : words ≡ first_chunks 4 t.count (drop 8 t.bytes.now) = c.as_chunks.ensures.front ∙ ap₂ (first_chunks 4) many tail in
    IfOk-weaker c.collect.result (λ v. vec_items v ≡ map read words) (λ v. vec_items v ≡ marks_from t.bytes.now 0 t.count)
    (λ v e. e ∙ ap (map read) is ∙ marks_taken t.bytes.now 0 t.count)
    (items_from_collect c.collect.result c.collect.ensures.ran
    (YieldsList-from_map _ read (YieldsList-from_slice words cc) c.map.ensures.closure (λ x r q k. search rules)))
