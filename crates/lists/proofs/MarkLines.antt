-- The line of a mark is one line.
use Rattle.std.proofs.Common.{◌≡◌, ℕ, ◌+◌, ◌*◌, ◌^◌, ◌<◌, ◌≤◌, not, ltb, leb, List, length, Ok, Err, codes, decimal, Result, sym, refl, subst, arith}
use Rattle.std.proofs.lemmas.Bool.{not-false, leb-true, leb-false, and_parts}
use Rattle.std.specs.Result.{IfOk}
use Rattle.theory.specs.Residues.{residues}
use Rattle.refusals.specs.declared.Refusal.{Refusal}
use Rattle.refusals.specs.declared.Refusal.TheVariants.{Room, Track as BadTrack, Line}
use Rattle.roots.specs.Rooting.{Answer, rooted, answered}
use Rattle.roots.specs.State.{State}
use Rattle.roots.proofs.Accepted.{ok_apart, refuse_passed}
use Rattle.octets.specs.Words.{word_at}
use Rattle.books.specs.Loading.{Bound, loaded}
use Rattle.books.specs.RoundTrip.{Bytes, Reached}
use Rattle.books.proofs.Checked.{loaded_runs}
use Rattle.lists.specs.Calls.{rooted_text, lined}
use Rattle.lists.specs.Laws.{OneLine, MarkLines}
use Rattle.lists.specs.Texts.{noted, line_end, outcome_text, text_of_mark}
use Rattle.lists.specs.Tracks.{track_stands, tracked, mark_at}
use Rattle.lists.proofs.Outcomes.{outcome_plain}
use Rattle.lists.proofs.Plain.{Plain, Ends, plain_decimal, plain_noted, ends_here, ends_later, one_line}

-- a track that is accepted has at most 512 marks
tracked_few : (track : List ℕ) (count : ℕ) → tracked track ≡ Ok count → count ≤ 512
tracked_few track count e =
    let stands = refuse_passed (not (track_stands track)) BadTrack (Ok (word_at track 0)) count e in
    let parts = and_parts (leb 8 (length track)) _ (not-false (track_stands track) stands.0) in
    let low = leb-true (word_at track 0) 512 (and_parts (leb (word_at track 0) 512) _ parts.1).0 in
    let same : ◌≡◌ {A = Result ℕ Refusal} (Ok (word_at track 0)) (Ok count) = stands.1 in
    let is : word_at track 0 ≡ count = cc in
    omega arith

-- four bytes make a number below 2 ^ 32
mark_small : (track : List ℕ) → Bytes track → (k : ℕ) → mark_at track k < 2 ^ 32
mark_small track all k =
    let at = 8 + 4 * k in
    omega (arith, all at, all (at + 1), all (at + 2), all (at + 3))

-- a number of at most three digits, a mark of at most ten, and what it was rooted to
text_ends : (k mark : ℕ) (r : Result Answer Refusal) → k < 512 → mark < 2 ^ 32 → Plain 61 (outcome_text r) → Ends 75 (text_of_mark k mark r)
text_ends k mark r low small plain =
    ends_later 3 72 (decimal k) _ (plain_decimal 3 k (omega arith) (omega arith) (omega arith))
    (ends_later 11 61 (noted (codes " ") mark) _ (plain_noted 1 10 (codes " ") mark refl (omega arith) (omega arith) (omega arith))
    (ends_later 61 0 (outcome_text r) line_end plain ends_here))

rooted_line : (q : ℕ) (s : State) → Reached q s → (k mark : ℕ) → k < 512 → mark < 2 ^ 32 → OneLine (rooted_text (q, s) k mark)
rooted_line q s reached k mark low small =
    let m = residues q in
    let plain =
    subst (λ (t : State). Plain 61 (outcome_text (answered (rooted m t mark)))) (sym reached.run_is)
    (outcome_plain q reached.low reached.high reached.calls mark) in
    one_line 75 _ (omega arith) (text_ends k mark (answered (rooted m s mark)) low small plain)

pub mark_lines : MarkLines
mark_lines book track all k room text e =
    from (loaded book) refl (tracked track) refl (refuse_passed (ltb room 96) Room _ text e).1
  where
    from : (o : Result Bound Refusal) → loaded book ≡ o → (n : Result ℕ Refusal) → tracked track ≡ n → lined o n track k ≡ Ok text → OneLine text
    from (Err why) is n count e = absurd (ok_apart why text e)
    from (Ok p) is (Err why) count e = absurd (ok_apart why text e)
    from (Ok p) is (Ok n) count e =
        let mark = mark_at track k in
        let below = refuse_passed (leb n k) Line (Ok (rooted_text p k mark)) text e in
        let low : k < 512 = omega (arith, leb-false n k below.0, tracked_few track n count) in
        let same : ◌≡◌ {A = Result (List ℕ) Refusal} (Ok (rooted_text p k mark)) (Ok text) = below.1 in
        let is-text : rooted_text p k mark ≡ text = cc in
        subst OneLine is-text (rooted_line p.0 p.1 (loaded_runs book p.0 p.1 is) k mark low (mark_small track all k))

pub mark_fits : (book track : List ℕ) → Bytes track → (k : ℕ) → IfOk (lined (loaded book) (tracked track) track k) (λ text. length text ≤ 96)
mark_fits book track all k = from (lined (loaded book) (tracked track) track k) refl
  where
    from : (outcome : Result (List ℕ) Refusal) → lined (loaded book) (tracked track) track k ≡ outcome → IfOk outcome (λ text. length text ≤ 96)
    from (Err why) is = tt
    from (Ok text) is = (mark_lines book track all k 96 text is).fits
