-- The offset words of a book, as they are written and as they are checked.
use Rattle.std.proofs.Common.{◌≡◌, ℕ, zero, suc, ◌+◌, ◌*◌, ◌≤◌, Bool, true, cond, ◌&&◌, eqb, List, Some, None, ◌++◌, length, drop, refl, ap, ap₂, ◌∙◌, add-one, arith}
use Rattle.std.specs.List.{list_all, range_with_len}
use Rattle.std.specs.Option.{option_eq}
use Rattle.std.proofs.lemmas.Bool.{eqb-true, eq-eqb, le-leb, and_parts, and_from}
use Rattle.octets.specs.Words.{word, word_at, word_in}
use Rattle.books.specs.Layout.{offset, offsets_right}
use Rattle.books.specs.RoundTrip.{Bytes}
use Rattle.books.specs.Writing.{offset_words}
use Rattle.books.proofs.WordPlaces.{word_reads, word_past, word_stands}

pub offset_words_length : (n k left : ℕ) → length (offset_words n k left) ≡ 4 * left
unfolding offset_words
offset_words_length n k zero = refl
offset_words_length n k (suc left) = let below = offset_words_length n (suc k) left in omega arith

-- where the offset words stand, the check on them passes
pub offsets_read : (book : List ℕ) (n k left : ℕ) (rest : List ℕ) → n ≤ 8 → k + left ≤ n → drop (16 + 4 * k) book ≡ offset_words n k left ++ rest → offsets_right book n k left ≡ true
unfolding offset_words offsets_right
offsets_read book n k zero rest few room stands = refl
offsets_read book n k (suc left) rest few room stands =
    let after : List ℕ = offset_words n (suc k) left ++ rest in
    let past : drop (16 + 4 * suc k) book ≡ after = ap (λ at. drop at book) (omega arith) ∙ word_past book (16 + 4 * k) (offset n k) after stands in
    and_from (eqb (word_at book (16 + 4 * k)) (offset n k)) (offsets_right book n (suc k) left)
    (eq-eqb _ _ (word_reads book (16 + 4 * k) (offset n k) after stands (omega arith)))
    (offsets_read book n (suc k) left rest few (omega arith) past)

-- and where the check passes, the offset words stand
pub offsets_written : (book : List ℕ) → Bytes book → (n k left : ℕ) → 16 + 4 * (k + left) ≤ length book → offsets_right book n k left ≡ true → drop (16 + 4 * k) book ≡ offset_words n k left ++ drop (16 + 4 * (k + left)) book
unfolding offset_words offsets_right
offsets_written book all n k zero room stand = ap (λ at. drop at book) (omega arith)
offsets_written book all n k (suc left) room stand =
    let parts = and_parts (eqb (word_at book (16 + 4 * k)) (offset n k)) (offsets_right book n (suc k) left) stand in
    let is : word_at book (16 + 4 * k) ≡ offset n k = eqb-true _ _ parts.0 in
    let below = offsets_written book all n (suc k) left (omega arith) parts.1 in
    word_stands book all (16 + 4 * k) (omega arith)
    ∙ ap (λ x. word x ++ drop (16 + 4 * k + 4) book) is
    ∙ ap (λ at. word (offset n k) ++ drop at book) (omega arith)
    ∙ ap (λ (xs : List ℕ). word (offset n k) ++ xs) below
    ∙ ap (λ at. word (offset n k) ++ (offset_words n (suc k) left ++ drop at book)) (omega arith)

-- ---- the check that the code makes: each offset word is there, and is as stated

abbrev pub stated : List ℕ → ℕ → ℕ → Bool
stated book n k = option_eq eqb (word_in book (16 + 4 * k)) (Some (offset n k))

pub all_stated : (book : List ℕ) (n k left : ℕ) → 16 + 4 * (k + left) ≤ length book → list_all (stated book n) (range_with_len k left) ≡ offsets_right book n k left
unfolding offsets_right
all_stated book n k zero room = refl
all_stated book n k (suc left) room =
    let there = le-leb (16 + 4 * k + 4) (length book) (omega arith) in
    ap₂ (λ (a b : Bool). a && b) (ap (λ b. option_eq eqb (cond b (Some (word_at book (16 + 4 * k))) None) (Some (offset n k))) there)
    (ap (λ j. list_all (stated book n) (range_with_len j left)) (add-one k) ∙ all_stated book n (suc k) left (omega arith))
