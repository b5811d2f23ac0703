-- Words and halves at places of a list of bytes.
use Rattle.std.proofs.Common.{◌≡◌, ℕ, ◌+◌, ◌^◌, ◌<◌, ◌≤◌, List, ◌∷◌, ◌++◌, length, get_or, drop, sym, ap, ◌∙◌, add-zero, arith}
use Rattle.std.proofs.lemmas.List.{get_or-drop, drop-drop, drop_more}
use Rattle.octets.specs.Words.{word, half, word_at, half_at}
use Rattle.books.specs.RoundTrip.{Bytes}
use Rattle.books.proofs.WordLaws.{word_joined, half_joined, word_parted, half_parted}

-- ---- what stands at a place is read there

first_at : (bytes : List ℕ) (at : ℕ) → get_or (drop at bytes) 0 0 ≡ get_or bytes at 0
first_at bytes at = get_or-drop at bytes 0 0 ∙ ap (λ k. get_or bytes k 0) (add-zero at)

pub word_at_drop : (bytes : List ℕ) (at : ℕ) → word_at bytes at ≡ word_at (drop at bytes) 0
word_at_drop bytes at =
    let a = first_at bytes at in
    let b = get_or-drop at bytes 1 0 in
    let c = get_or-drop at bytes 2 0 in
    let d = get_or-drop at bytes 3 0 in
    omega arith

half_at_drop : (bytes : List ℕ) (at : ℕ) → half_at bytes at ≡ half_at (drop at bytes) 0
half_at_drop bytes at =
    let a = first_at bytes at in
    let b = get_or-drop at bytes 1 0 in
    omega arith

module _ (bytes : List ℕ) (at n : ℕ) (rest : List ℕ) where
  pub word_reads : drop at bytes ≡ word n ++ rest → n < 2 ^ 32 → word_at bytes at ≡ n
  word_reads stands small = word_at_drop bytes at ∙ ap (λ (xs : List ℕ). word_at xs 0) stands ∙ word_joined n small

  pub word_past : drop at bytes ≡ word n ++ rest → drop (at + 4) bytes ≡ rest
  word_past stands = sym (drop-drop 4 at bytes) ∙ ap (drop 4) stands

  pub half_reads : drop at bytes ≡ half n ++ rest → n < 2 ^ 16 → half_at bytes at ≡ n
  half_reads stands small = half_at_drop bytes at ∙ ap (λ (xs : List ℕ). half_at xs 0) stands ∙ half_joined n small

  pub half_past : drop at bytes ≡ half n ++ rest → drop (at + 2) bytes ≡ rest
  half_past stands = sym (drop-drop 2 at bytes) ∙ ap (drop 2) stands

-- ---- what is read at a place stands there

module _ (bytes : List ℕ) (all : Bytes bytes) (at : ℕ) where
  pub half_stands : at + 2 ≤ length bytes → drop at bytes ≡ half (half_at bytes at) ++ drop (at + 2) bytes
  half_stands room =
      drop_more bytes at 0 (omega arith)
      ∙ ap (λ (xs : List ℕ). get_or bytes at 0 ∷ xs) (drop_more bytes (at + 1) 0 (omega arith))
      ∙ ap (λ k. get_or bytes at 0 ∷ get_or bytes (at + 1) 0 ∷ drop k bytes) (omega arith)
      ∙ ap (λ (xs : List ℕ). xs ++ drop (at + 2) bytes) (sym (half_parted (get_or bytes at 0) (get_or bytes (at + 1) 0) (all at) (all (at + 1))))

  pub word_stands : at + 4 ≤ length bytes → drop at bytes ≡ word (word_at bytes at) ++ drop (at + 4) bytes
  word_stands room =
      drop_more bytes at 0 (omega arith)
      ∙ ap (λ (xs : List ℕ). get_or bytes at 0 ∷ xs) (drop_more bytes (at + 1) 0 (omega arith))
      ∙ ap (λ (xs : List ℕ). get_or bytes at 0 ∷ get_or bytes (at + 1) 0 ∷ xs) (ap (λ k. drop k bytes) (omega arith) ∙ drop_more bytes (at + 2) 0 (omega arith))
      ∙ ap (λ (xs : List ℕ). get_or bytes at 0 ∷ get_or bytes (at + 1) 0 ∷ get_or bytes (at + 2) 0 ∷ xs)
      (ap (λ k. drop k bytes) (omega arith) ∙ drop_more bytes (at + 3) 0 (omega arith) ∙ ap (λ k. get_or bytes (at + 3) 0 ∷ drop k bytes) (omega arith))
      ∙ ap (λ (xs : List ℕ). xs ++ drop (at + 4) bytes)
      (sym (word_parted (get_or bytes at 0) (get_or bytes (at + 1) 0) (get_or bytes (at + 2) 0) (get_or bytes (at + 3) 0) (all at) (all (at + 1)) (all (at + 2)) (all (at + 3))))
