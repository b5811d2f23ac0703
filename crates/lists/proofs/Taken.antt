-- The marks of a track, taken one after the other.
use Rattle.std.proofs.Common.{◌≡◌, ℕ, zero, suc, ◌+◌, ◌*◌, List, [], ◌∷◌, length, take, drop, map, sym, refl, ap, ap₂, ◌∙◌, arith}
use Rattle.std.specs.Simd.{first_chunks}
use Rattle.std.proofs.lemmas.List.{drop-drop}
use Rattle.octets.specs.Words.{word_at}
use Rattle.books.proofs.WordPlaces.{word_at_drop}
use Rattle.lists.specs.Tracks.{mark_at, marks_from}

marks_more : (track : List ℕ) (k n : ℕ) → marks_from track k (suc n) ≡ mark_at track k ∷ marks_from track (suc k) n
unfolding marks_from
marks_more track k n = refl

marks_none : (track : List ℕ) (k : ℕ) → marks_from track k 0 ≡ []
unfolding marks_from
marks_none track k = refl

pub marks_length : (track : List ℕ) (k n : ℕ) → length (marks_from track k n) ≡ n
marks_length track k zero = ap length (marks_none track k)
marks_length track k (suc n) = ap length (marks_more track k n) ∙ ap suc (marks_length track (suc k) n)

-- four bytes at the front are the word there
word_front : (bytes : List ℕ) → word_at (take 4 bytes) 0 ≡ word_at bytes 0
word_front [] = refl
word_front (a ∷ []) = refl
word_front (a ∷ b ∷ []) = refl
word_front (a ∷ b ∷ c ∷ []) = refl
word_front (a ∷ b ∷ c ∷ d ∷ rest) = refl

-- the marks are the words that stand behind one another
pub marks_taken : (track : List ℕ) (k n : ℕ) → map (λ w. word_at w 0) (first_chunks 4 n (drop (8 + 4 * k) track)) ≡ marks_from track k n
marks_taken track k zero = sym (marks_none track k)
marks_taken track k (suc n) =
    let at = 8 + 4 * k in
    let first = word_front (drop at track) ∙ sym (word_at_drop track at) in
    let next = drop-drop 4 at track ∙ ap (λ (j : ℕ). drop j track) (omega arith) in
    ap₂ (λ (m : ℕ) (ms : List ℕ). m ∷ ms) first (ap (λ (rest : List ℕ). map (λ w. word_at w 0) (first_chunks 4 n rest)) next ∙ marks_taken track (suc k) n)
    ∙ sym (marks_more track k n)
