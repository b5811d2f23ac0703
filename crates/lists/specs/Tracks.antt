-- A track: a count word, an offset word of 8, and the marks as words.
use Rattle.std.specs.Prelude.{◌≡◌, ℕ, zero, suc, ◌+◌, ◌*◌, Bool, cond, not, ◌&&◌, List, [], ◌∷◌, length, None, Ok, Err, Option, Result, ◌==◌, nat_le, nat_lt}
use Rattle.refusals.specs.declared.Refusal.{Refusal}
use Rattle.refusals.specs.declared.Refusal.TheVariants.{Track as BadTrack}
use Rattle.roots.specs.Drafts.{refuse}
use Rattle.octets.specs.Words.{word_at, word_in}
use Rattle.lists.specs.declared.track.Track.{Track}

abbrev pub track_stands : List ℕ → Bool
track_stands track =
    nat_le 8 (length track) && (nat_le (word_at track 0) 512 && (word_at track 4 == 8 && length track == 8 + 4 * word_at track 0))

-- how many marks a track has, or the refusal
abbrev pub tracked : List ℕ → Result ℕ Refusal
tracked track = refuse (not (track_stands track)) BadTrack (Ok (word_at track 0))

-- the mark of a number, from 0
abbrev pub mark_at : List ℕ → ℕ → ℕ
mark_at track k = word_at track (8 + 4 * k)

-- so many marks, one after the other, from mark k on
unfoldable pub marks_from : List ℕ → ℕ → ℕ → List ℕ
marks_from track k zero = []
marks_from track k (suc n) = mark_at track k ∷ marks_from track (suc k) n

-- how many marks there are to take
abbrev pub marks_in : Result ℕ Refusal → ℕ
marks_in (Ok count) = count
marks_in (Err why) = 0

-- What opening a track answers: the same bytes with their count, or the refusal.
abbrev pub Opens : List ℕ → Result Track Refusal → Type 0
Opens bytes (Err why) = tracked bytes ≡ Err why
Opens bytes (Ok t) = (t.bytes.now ≡ bytes) × (tracked bytes ≡ Ok t.count)

-- the mark of a number below the count
abbrev pub mark_in : List ℕ → ℕ → ℕ → Option ℕ
mark_in bytes count k = cond (nat_lt k count) (word_in bytes (8 + 4 * k)) None
