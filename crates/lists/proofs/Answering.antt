-- What the two calls answer and leave, from what they come to.
use Rattle.std.proofs.Common.{◌≡◌, ℕ, ◌+◌, ◌*◌, ◌<◌, ◌≤◌, Bool, true, false, cond, ltb, leb, List, [], length, Some, None, Ok, Err, Result, min, sym, refl, ap, ◌∙◌, ap₂, subst, ⊎_elim, arith}
use Rattle.std.specs.Result.{IfOk}
use Rattle.std.proofs.lemmas.Bool.{cases_lt, ltb-true, lt-leb, le-ltb, lt-ltb}
use Rattle.refusals.specs.declared.Refusal.{Refusal}
use Rattle.refusals.specs.declared.Refusal.TheVariants.{Room, Line}
use Rattle.roots.specs.Drafts.{refuse}
use Rattle.roots.proofs.Passes.{through}
use Rattle.octets.specs.Buffers.{joined}
use Rattle.octets.specs.Words.{word_at, word_in}
use Rattle.octets.proofs.Joined.{joined_all, laid_whole}
use Rattle.books.specs.Loading.{Bound}
use Rattle.books.specs.Output.{Written, left_by, length_by}
use Rattle.lists.specs.Calls.{LaidOver, lined, rooted_text}
use Rattle.lists.specs.Tracks.{mark_at, mark_in}

-- ---- a call that checks the room and then lays its line over the output

-- the call comes to the refusal for want of room, or else to its line
no_room : (room : ℕ) (otherwise : Written) → room < 96 → refuse (ltb room 96) Room otherwise ≡ Err Room
no_room room otherwise short = ap (λ (b : Bool). refuse b Room otherwise) (lt-ltb room 96 short)

some_room : (room : ℕ) (otherwise : Written) → 96 ≤ room → refuse (ltb room 96) Room otherwise ≡ otherwise
some_room room otherwise enough = through (ltb room 96) Room otherwise (le-ltb room 96 enough)

-- the answer of a call, what it leaves, and the length of its line
abbrev pub Called : Written → List ℕ → Result ℕ Refusal → List ℕ → Type 0
Called outcome out answer after = (answer ≡ length_by outcome) × (after ≡ left_by outcome out) × IfOk answer (λ n. n ≤ 96)

laid : (outcome : Written) (out after : List ℕ) (answer : Result ℕ Refusal) → 96 ≤ length out → IfOk outcome (λ text. length text ≤ 96) → LaidOver outcome out answer after → Called outcome out answer after
laid (Err why) out after answer room fits is = (is.0, is.1, subst (λ r. IfOk r (λ n. n ≤ 96)) (sym is.0) tt)
laid (Ok text) out after answer room fits is =
    let all : min (length text) (length out) ≡ length text = omega arith in
    let value = is.0 ∙ ap (λ n. Ok n) all in
    (value, is.1 ∙ laid_whole text out (omega arith), subst (λ r. IfOk r (λ n. n ≤ 96)) (sym value) fits)

pub called : (outcome : Written) (out after : List ℕ) (answer : Result ℕ Refusal)
    → (length out < 96 → (answer ≡ Err Room) × (after ≡ out))
    → (96 ≤ length out → (text : Written) × (text ≡ outcome) × LaidOver text out answer after)
    → IfOk outcome (λ text. length text ≤ 96) → Called (refuse (ltb (length out) 96) Room outcome) out answer after
called outcome out after answer short long fits = ⊎_elim refused wrote (cases_lt (length out) 96)
  where
    refused : length out < 96 → Called (refuse (ltb (length out) 96) Room outcome) out answer after
    refused less =
        let r = short less in
        subst (λ w. Called w out answer after) (sym (no_room (length out) outcome less)) (r.0, r.1, subst (λ a. IfOk a (λ n. n ≤ 96)) (sym r.0) tt)

    wrote : 96 ≤ length out → Called (refuse (ltb (length out) 96) Room outcome) out answer after
    wrote room =
        let m = long room in
        subst (λ w. Called w out answer after) (sym (some_room (length out) outcome room))
        (laid outcome out after answer room fits (subst (λ w. LaidOver w out answer after) m.1 m.2))

-- ---- a line that fits is held whole

pub held_whole : (text buffer : List ℕ) → buffer ≡ joined [] text → length text ≤ 96 → buffer ≡ text
held_whole text buffer holds fits = holds ∙ joined_all [] text (omega arith)

-- ---- the mark of a line

-- a mark that is there has a number below the count
pub mark_found : (track : List ℕ) (count k mark : ℕ) → Some mark ≡ mark_in track count k → (k < count) × (mark ≡ mark_at track k)
mark_found track count k mark e = from (ltb k count) refl e
  where
    there : (b : Bool) → Some mark ≡ cond b (Some (word_at track (8 + 4 * k))) None → mark ≡ mark_at track k
    there true is = cc
    there false is = let z : ◌≡◌ {A = ℕ} 0 1 = cc in absurd (omega arith)

    from : (b : Bool) → ltb k count ≡ b → Some mark ≡ cond b (word_in track (8 + 4 * k)) None → (k < count) × (mark ≡ mark_at track k)
    from true t is = (ltb-true k count t, there (leb (8 + 4 * k + 4) (length track)) is)
    from false t is = let z : ◌≡◌ {A = ℕ} 0 1 = cc in absurd (omega arith)

pub lined_at : (loaded : Result Bound Refusal) (tracked : Result ℕ Refusal) (track : List ℕ) (p : Bound) (count k : ℕ) → loaded ≡ Ok p → tracked ≡ Ok count → k < count → lined loaded tracked track k ≡ Ok (rooted_text p k (mark_at track k))
lined_at loaded tracked track p count k a b below =
    ap₂ (λ (l : Result Bound Refusal) (t : Result ℕ Refusal). lined l t track k) a b
    ∙ through (leb count k) Line _ (lt-leb count k below)
