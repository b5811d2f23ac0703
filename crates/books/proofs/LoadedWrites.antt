-- A book that is loaded is written back in the same bytes.
use Rattle.std.proofs.Common.{◌≡◌, ℕ, zero, suc, ◌+◌, ◌*◌, List, ◌++◌, length, drop, None, sym, refl, ap, ◌∙◌, arith}
use Rattle.std.proofs.lemmas.List.{append-nil, drop_all}
use Rattle.theory.specs.Residues.{residues}
use Rattle.roots.specs.declared.factor.Factor.{Factor}
use Rattle.roots.specs.State.{start}
use Rattle.octets.specs.Words.{word, word_at}
use Rattle.books.specs.Layout.{offset}
use Rattle.books.specs.Loading.{records}
use Rattle.books.specs.RoundTrip.{Bytes, LoadedWrites}
use Rattle.books.specs.Writing.{fourth_word, offset_words, records_bytes, entries}
use Rattle.books.proofs.Checked.{Laid, Loads, loaded_loads}
use Rattle.books.proofs.Leaves.{fourth_left, calls_leave}
use Rattle.books.proofs.Offsets.{offsets_written}
use Rattle.books.proofs.Records.{records_length, records_written}
use Rattle.books.proofs.WordPlaces.{word_stands}

-- the fourth root given by a word is written as that word
fourth_back : (i : ℕ) → fourth_word (fourth_left i None) ≡ i
fourth_back zero = refl
fourth_back (suc i) = refl

-- the records of a book that has n
abbrev held : List ℕ → ℕ → List Factor
held book n = records book (offset n 0) n

module _ (book : List ℕ) (all : Bytes book) where
  -- behind the head stand the offsets and the records, and nothing else
  entries_stand : (n : ℕ) → Laid book n → drop 16 book ≡ offset_words n 0 n ++ records_bytes (held book n)
  entries_stand n laid =
      let whole = laid.whole in
      offsets_written book all n 0 n (omega arith) laid.offsets
      ∙ ap (λ at. offset_words n 0 n ++ drop at book) (omega arith)
      ∙ ap (λ (xs : List ℕ). offset_words n 0 n ++ xs)
      (records_written book all (offset n 0) n (omega arith)
      ∙ ap (λ (xs : List ℕ). records_bytes (held book n) ++ xs) (drop_all (offset n 0 + 8 * n) book (omega arith))
      ∙ append-nil (records_bytes (held book n)))

  head_stands : (n : ℕ) → Laid book n
      → book ≡ word (word_at book 0) ++ (word (word_at book 4) ++ (word (word_at book 8) ++ (word (word_at book 12) ++ drop 16 book)))
  head_stands n laid =
      let whole = laid.whole in
      let a = word (word_at book 0) in
      let b = word (word_at book 4) in
      let c = word (word_at book 8) in
      word_stands book all 0 (omega arith)
      ∙ ap (λ (xs : List ℕ). a ++ xs) (word_stands book all 4 (omega arith))
      ∙ ap (λ (xs : List ℕ). a ++ (b ++ xs)) (word_stands book all 8 (omega arith))
      ∙ ap (λ (xs : List ℕ). a ++ (b ++ (c ++ xs))) (word_stands book all 12 (omega arith))

-- a book by its modulus, fourth root, count and what is behind them
abbrev written : ℕ → ℕ → ℕ → List ℕ → List ℕ
written p i k rest = word 1 ++ (word p ++ (word i ++ (word k ++ rest)))

pub loaded_writes : LoadedWrites
loaded_writes book all q s e =
    ap (λ x. written x (fourth_word s.fourth) (length s.factors) (entries s.factors)) (sym loads.modulus)
    ∙ ap (λ x. written (word_at book 4) x (length s.factors) (entries s.factors)) fourth
    ∙ ap (λ (hs : List Factor). written (word_at book 4) (word_at book 8) (length hs) (entries hs)) left.0
    ∙ ap (λ k. written (word_at book 4) (word_at book 8) k (offset_words k 0 k ++ records_bytes (held book n))) (records_length book (offset n 0) n)
    ∙ ap (written (word_at book 4) (word_at book 8) n) (sym (entries_stand book all n loads.laid))
    ∙ ap (λ x. word x ++ (word (word_at book 4) ++ (word (word_at book 8) ++ (word n ++ drop 16 book)))) (sym loads.laid.format)
    ∙ sym (head_stands book all n loads.laid)
  where
    loads : Loads book q s
    loads = loaded_loads book q s e

    n : ℕ
    n = word_at book 12

    left : (s.factors ≡ held book n) × (s.fourth ≡ fourth_left (word_at book 8) None)
    left = calls_leave (residues q) (start q) s (held book n) (word_at book 8) loads.over.accepted

    fourth : fourth_word s.fourth ≡ word_at book 8
    fourth = ap fourth_word left.1 ∙ fourth_back (word_at book 8)
