-- Pieces of a line: short, and without the byte 10.
use Rattle.std.proofs.Common.{◌≡◌, ℕ, ◌+◌, ◌^◌, ◌<◌, ◌≤◌, Bool, true, not, ◌&&◌, eqb, leb, List, [], ◌∷◌, ◌++◌, length, decimal, sym, refl, ap, ◌∙◌, append_assoc, arith, length-append}
use Rattle.std.proofs.lemmas.Fmt.{length-decimal-le, decimal_by_steps}
use Rattle.std.proofs.ByRecursion.{All-append}
use Rattle.std.proofs.lemmas.Bool.{and_parts, leb-true, not-true, eqb-false}
use Rattle.std.specs.List.{AllByRecursion}
use Rattle.lists.specs.Laws.{OneLine}
use Rattle.lists.specs.Texts.{noted, line_end}

-- At most n bytes, and none of them is 10.
pub record Plain (n : ℕ) (text : List ℕ) : Type 0 where
  pub short : length text ≤ n
  pub only : AllByRecursion (λ b. b ≡ 10 → ⊥) text

pub plain_more : (m n : ℕ) (text : List ℕ) → m ≤ n → Plain m text → Plain n text
plain_more m n text low plain = record { short = omega (arith, plain.short); only = plain.only }

-- ---- words

abbrev clean : List ℕ → Bool
clean [] = true
clean (b ∷ text) = not (eqb b 10) && clean text

clean_only : (text : List ℕ) → clean text ≡ true → AllByRecursion (λ b. b ≡ 10 → ⊥) text
clean_only [] e = tt
clean_only (b ∷ text) e =
    let parts = and_parts (not (eqb b 10)) (clean text) e in
    (eqb-false b 10 (not-true (eqb b 10) parts.0), clean_only text parts.1)

-- the same as a test, which computes at words that are written out
abbrev pub worded : ℕ → List ℕ → Bool
worded n words = leb (length words) n && clean words

pub plain_words : (n : ℕ) (words : List ℕ) → worded n words ≡ true → Plain n words
plain_words n words e =
    let parts = and_parts (leb (length words) n) (clean words) e in
    record { short = leb-true (length words) n parts.0; only = clean_only words parts.1 }

-- ---- numbers

decimal_only : (n : ℕ) → n < 2 ^ 64 → AllByRecursion (λ b. b ≡ 10 → ⊥) (decimal n)
decimal_only =
    decimal_by_steps (λ n ds. AllByRecursion (λ b. b ≡ 10 → ⊥) ds) (λ n low. (λ e. omega arith, tt))
    (λ n ds high front. All-append (λ b. b ≡ 10 → ⊥) ds _ front (λ e. omega arith, tt))

pub plain_decimal : (k n : ℕ) → 0 < k → n < 10 ^ k → n < 2 ^ 64 → Plain k (decimal n)
plain_decimal k n some low fits = record { short = length-decimal-le k n some low fits; only = decimal_only n fits }

-- ---- one behind the other

pub plain_append : (m n : ℕ) (s t : List ℕ) → Plain m s → Plain n t → Plain (m + n) (s ++ t)
plain_append m n s t first second = record {
  short = omega (arith, length-append s t, first.short, second.short);
  only = All-append (λ b. b ≡ 10 → ⊥) s t first.only second.only;
}

-- some words and a number of at most k digits
pub plain_noted : (m k : ℕ) (words : List ℕ) (n : ℕ) → worded m words ≡ true → 0 < k → n < 10 ^ k → n < 2 ^ 64 → Plain (m + k) (noted words n)
plain_noted m k words n e some low fits =
    plain_append m k words (decimal n) (plain_words m words e) (plain_decimal k n some low fits)

-- ---- whole lines

-- The byte 10 stands behind at most n others, and nowhere else.
pub record Ends (n : ℕ) (text : List ℕ) : Type 0 where
  pub front : List ℕ
  pub plain : Plain n front
  pub ends : text ≡ front ++ line_end

pub ends_here : Ends 0 line_end
ends_here = record { front = []; plain = plain_words 0 [] refl; ends = refl }

pub ends_later : (m n : ℕ) (s t : List ℕ) → Plain m s → Ends n t → Ends (m + n) (s ++ t)
ends_later m n s t first rest = record {
  front = s ++ rest.front;
  plain = plain_append m n s rest.front first rest.plain;
  ends = ap (λ (x : List ℕ). s ++ x) rest.ends ∙ sym (append_assoc s rest.front line_end);
}

pub one_line : (n : ℕ) (text : List ℕ) → n ≤ 95 → Ends n text → OneLine text
one_line n text low line = record {
  fits =
      omega (arith, ap length line.ends, length-append line.front line_end, line.plain.short);
  front = line.front;
  ends = line.ends;
  only = line.plain.only;
}
