-- The records of a book, as they are written and as they are read.
use Rattle.std.proofs.Common.{◌≡◌, ℕ, zero, suc, ◌+◌, ◌*◌, ◌^◌, ◌<◌, ◌≤◌, List, [], ◌∷◌, ◌++◌, length, drop, refl, ap, ◌∙◌, arith}
use Rattle.std.specs.List.{AllByRecursion}
use Rattle.roots.specs.declared.factor.Factor.{Factor}
use Rattle.roots.specs.Drafts.{factor}
use Rattle.octets.specs.Words.{word, half, word_at, half_at}
use Rattle.books.specs.Loading.{records}
use Rattle.books.specs.Parts.{record_at}
use Rattle.books.specs.RoundTrip.{Bytes}
use Rattle.books.specs.Writing.{record_bytes, records_bytes}
use Rattle.books.proofs.WordPlaces.{word_reads, word_past, word_stands, half_reads, half_past, half_stands}

-- The numbers of a factor fit the bytes of its record.
abbrev pub Recorded : Factor → Type 0
Recorded h = (h.r < 2 ^ 16) × (h.f < 2 ^ 16) × (h.zeta < 2 ^ 32)

pub records_bytes_length : (held : List Factor) → length (records_bytes held) ≡ 8 * length held
unfolding records_bytes
records_bytes_length [] = refl
records_bytes_length (h ∷ held) = let below = records_bytes_length held in omega arith

pub records_length : (book : List ℕ) (at n : ℕ) → length (records book at n) ≡ n
unfolding records
records_length book at zero = refl
records_length book at (suc n) = ap suc (records_length book (at + 8) n)

-- ---- what is written is read

module _ (book : List ℕ) (at : ℕ) (h : Factor) (rest : List ℕ) (stands : drop at book ≡ record_bytes h ++ rest) where
  behind_r : drop (at + 2) book ≡ half h.f ++ (word h.zeta ++ rest)
  behind_r = half_past book at h.r (half h.f ++ (word h.zeta ++ rest)) stands

  behind_f : drop (at + 4) book ≡ word h.zeta ++ rest
  behind_f = ap (λ k. drop k book) (omega arith) ∙ half_past book (at + 2) h.f (word h.zeta ++ rest) behind_r

  record_past : drop (at + 8) book ≡ rest
  record_past = ap (λ k. drop k book) (omega arith) ∙ word_past book (at + 4) h.zeta rest behind_f

  record_reads : Recorded h → record_at book at ≡ h
  record_reads fits =
      let r = half_reads book at h.r (half h.f ++ (word h.zeta ++ rest)) stands fits.0 in
      let f = half_reads book (at + 2) h.f (word h.zeta ++ rest) behind_r fits.1 in
      let zeta = word_reads book (at + 4) h.zeta rest behind_f fits.2 in
      let same : record_at book at ≡ factor h.r h.f h.zeta = cc in
      same

pub records_read : (book : List ℕ) (at : ℕ) (held : List Factor) → AllByRecursion Recorded held → drop at book ≡ records_bytes held → records book at (length held) ≡ held
unfolding records records_bytes
records_read book at [] fits stands = refl
records_read book at (h ∷ held) fits stands =
    let first = record_reads book at h (records_bytes held) stands fits.0 in
    let others = records_read book (at + 8) held fits.1 (record_past book at h (records_bytes held) stands) in
    cc

-- ---- what is read is written

record_stands : (book : List ℕ) → Bytes book → (at : ℕ) → at + 8 ≤ length book → drop at book ≡ record_bytes (record_at book at) ++ drop (at + 8) book
record_stands book all at room =
    let r = half_at book at in
    let f = half_at book (at + 2) in
    let zeta = word_at book (at + 4) in
    half_stands book all at (omega arith)
    ∙ ap (λ (xs : List ℕ). half r ++ xs) (half_stands book all (at + 2) (omega arith))
    ∙ ap (λ k. half r ++ (half f ++ drop k book)) (omega arith)
    ∙ ap (λ (xs : List ℕ). half r ++ (half f ++ xs)) (word_stands book all (at + 4) (omega arith))
    ∙ ap (λ k. half r ++ (half f ++ (word zeta ++ drop k book))) (omega arith)

pub records_written : (book : List ℕ) → Bytes book → (at n : ℕ) → at + 8 * n ≤ length book → drop at book ≡ records_bytes (records book at n) ++ drop (at + 8 * n) book
unfolding records records_bytes
records_written book all at zero room = ap (λ k. drop k book) (omega arith)
records_written book all at (suc n) room =
    let first : List ℕ = record_bytes (record_at book at) in
    record_stands book all at (omega arith)
    ∙ ap (λ (xs : List ℕ). first ++ xs) (records_written book all (at + 8) n (omega arith))
    ∙ ap (λ k. first ++ (records_bytes (records book (at + 8) n) ++ drop k book)) (omega arith)
