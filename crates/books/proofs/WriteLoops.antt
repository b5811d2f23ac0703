-- Writing the offsets and the records of a book, turn by turn.
use Rattle.std.proofs.Common.{◌≡◌, ℕ, suc, ◌+◌, ◌-◌, ◌*◌, ◌<◌, ◌≤◌, List, [], ◌∷◌, ◌++◌, length, get_or, drop, Some, None, Option, sym, refl, ap, ◌∙◌, add-one, arith}
use Rattle.std.specs.Option.{unwrap_or}
use Rattle.std.proofs.lemmas.List.{append-nil, append_assoc, at_drop_more, at_drop_all, length-append}
use Rattle.roots.specs.declared.factor.Factor.{Factor}
use Rattle.roots.specs.State.{State}
use Rattle.octets.specs.Buffers.{joined}
use Rattle.octets.specs.Words.{word}
use Rattle.octets.proofs.Joined.{joined_all}
use Rattle.books.specs.Layout.{offset}
use Rattle.books.specs.Writing.{book_of, fourth_word, head_bytes, offset_words, record_bytes, records_bytes}
use Rattle.books.proofs.Offsets.{offset_words_length}
use Rattle.books.proofs.Records.{records_bytes_length}

-- one piece more of a whole that finds room
pub written_on : (before after piece rest whole : List ℕ) → length whole ≤ 112 → after ≡ joined before piece → before ++ (piece ++ rest) ≡ whole → after ++ rest ≡ whole
written_on before after piece rest whole room e is =
    let all = ap length is in
    let fits : length before + length piece ≤ 112 = omega (arith, length-append before (piece ++ rest), length-append piece rest) in
    ap (λ h. h ++ rest) (e ∙ joined_all before piece fits) ∙ append_assoc before piece rest ∙ is

-- nothing left to write
pub written_all : (held rest whole : List ℕ) → rest ≡ [] → held ++ rest ≡ whole → held ≡ whole
written_all held rest whole none is = sym (append-nil held) ∙ ap (λ r. held ++ r) (sym none) ∙ is

-- ---- offsets

words_more : (n k left : ℕ) → offset_words n k (suc left) ≡ word (offset n k) ++ offset_words n (suc k) left
unfolding offset_words
words_more n k left = refl

words_turn : (n k : ℕ) → k < n → offset_words n k (n - k) ≡ word (offset n k) ++ offset_words n (k + 1) (n - (k + 1))
words_turn n k h =
    let left : n - k ≡ suc (n - (k + 1)) = omega arith in
    ap (offset_words n k) left ∙ words_more n k (n - (k + 1))
    ∙ ap (λ j. word (offset n k) ++ offset_words n j (n - (k + 1))) (sym (add-one k))

words_over : (n k : ℕ) → n ≤ k → offset_words n k (n - k) ≡ []
unfolding offset_words
words_over n k h = let none : n - k ≡ 0 = omega arith in ap (offset_words n k) none

module _ (n k : ℕ) (records before whole : List ℕ) (is : before ++ (offset_words n k (n - k) ++ records) ≡ whole) where
  pub words_on : (after : List ℕ) → k < n → length whole ≤ 112 → after ≡ joined before (word (offset n k))
      → after ++ (offset_words n (k + 1) (n - (k + 1)) ++ records) ≡ whole
  words_on after h room e =
      let piece = word (offset n k) in
      let others = offset_words n (k + 1) (n - (k + 1)) in
      written_on before after piece (others ++ records) whole room e
      (ap (λ ws. before ++ ws) (sym (append_assoc piece others records) ∙ ap (λ ws. ws ++ records) (sym (words_turn n k h))) ∙ is)

  pub words_end : n ≤ k → before ++ records ≡ whole
  words_end h = ap (λ ws. before ++ (ws ++ records)) (sym (words_over n k h)) ∙ is

-- ---- records

records_more : (h : Factor) (held : List Factor) → records_bytes (h ∷ held) ≡ record_bytes h ++ records_bytes held
unfolding records_bytes
records_more h held = refl

pub records_turn : (hs : List Factor) (i : ℕ) (d : Factor) → i < length hs → records_bytes (drop i hs) ≡ record_bytes (get_or hs i d) ++ records_bytes (drop (i + 1) hs)
records_turn hs i d h = at_drop_more records_bytes hs i d h ∙ records_more (get_or hs i d) (drop (i + 1) hs)

pub records_over : (hs : List Factor) (i : ℕ) → length hs ≤ i → records_bytes (drop i hs) ≡ []
unfolding records_bytes
records_over hs i h = at_drop_all records_bytes hs i h

-- ---- the whole book

pub book_length : (q : ℕ) (s : State) → length (book_of q s) ≡ 16 + 12 * length s.factors
book_length q s =
    let n = length s.factors in
    omega (arith, length-append (offset_words n 0 n) (records_bytes s.factors), offset_words_length n 0 n, records_bytes_length s.factors)

pub word_is : (o : Option ℕ) → unwrap_or o 0 ≡ fourth_word o
word_is None = refl
word_is (Some i) = refl

-- the head in an empty buffer, and what is left to write behind it
pub head_first : (q : ℕ) (s : State) (p i : ℕ) (hs : List Factor) (none one : List ℕ) → none ≡ [] → p ≡ q → i ≡ fourth_word s.fourth → hs ≡ s.factors
    → one ≡ joined none (head_bytes p i (length hs)) → one ++ (offset_words (length hs) 0 (length hs - 0) ++ records_bytes hs) ≡ book_of q s
head_first q s p i hs none one empty size root held e =
    let n = length hs in
    let head = joined_all [] (head_bytes p i n) (omega arith) in
    let all : n - 0 ≡ n = omega arith in
    cc
