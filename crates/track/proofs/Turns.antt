-- Writing the marks of a track, turn by turn.
use Rattle.std.proofs.Common.{◌≡◌, ℕ, ◌+◌, ◌<◌, ◌≤◌, List, ◌∷◌, ◌++◌, length, get_or, drop, sym, refl, ap, ◌∙◌, append_assoc}
use Rattle.std.proofs.lemmas.List.{append-nil, at_drop_more, at_drop_all}
use Rattle.octets.specs.Words.{word}
use Rattle.track.specs.Tracks.{words}

words_more : (mark : ℕ) (marks : List ℕ) → words (mark ∷ marks) ≡ word mark ++ words marks
unfolding words
words_more mark marks = refl

words_turn : (marks : List ℕ) (i : ℕ) → i < length marks → words (drop i marks) ≡ word (get_or marks i 0) ++ words (drop (i + 1) marks)
words_turn marks i h = at_drop_more words marks i 0 h ∙ words_more (get_or marks i 0) (drop (i + 1) marks)

-- a piece written, with what is left to write
written_on : (before after piece rest : List ℕ) → after ≡ before ++ piece → before ++ (piece ++ rest) ≡ after ++ rest
written_on before after piece rest e = sym (append_assoc before piece rest) ∙ ap (λ (h : List ℕ). h ++ rest) (sym e)

-- the mark at a place is written before those behind it
pub mark_turn : (track marks before after : List ℕ) (i n : ℕ) → i < length marks → n ≡ get_or marks i 0 → after ≡ before ++ word n → track ≡ before ++ words (drop i marks) → track ≡ after ++ words (drop (i + 1) marks)
mark_turn track marks before after i n h is put left =
    left ∙ ap (λ (rest : List ℕ). before ++ rest) (words_turn marks i h)
    ∙ written_on before after (word (get_or marks i 0)) (words (drop (i + 1) marks)) (put ∙ ap (λ (m : ℕ). before ++ word m) is)

-- nothing left to write
pub written_all : (bytes marks : List ℕ) (i : ℕ) → length marks ≤ i → bytes ++ words (drop i marks) ≡ bytes
unfolding words
written_all bytes marks i h = ap (λ (rest : List ℕ). bytes ++ rest) (at_drop_all words marks i h) ∙ append-nil bytes
