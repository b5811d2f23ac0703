-- How a book is laid out: a head of four words (format 1, modulus, fourth root or 0, count n), n offset words, and n records of eight bytes.
use Rattle.std.specs.Prelude.{ℕ, zero, suc, ◌+◌, ◌*◌, Bool, true, not, ◌&&◌, ◌||◌, List, length, Some, None, Ok, Option, Result, ◌==◌, nat_le, nat_lt}
use Rattle.refusals.specs.declared.Refusal.{Refusal}
use Rattle.refusals.specs.declared.Refusal.TheVariants.{Format, Layout}
use Rattle.roots.specs.Drafts.{refuse}
use Rattle.octets.specs.Words.{word_at}

-- the words of the head
pub record Head : Type 0 where
  pub modulus : ℕ
  -- 0 for none
  pub fourth : ℕ
  -- how many records there are
  pub count : ℕ

-- the fourth root that a word of the head stands for
abbrev pub fourth_in : ℕ → Option ℕ
fourth_in zero = None
fourth_in (suc i) = Some (suc i)

abbrev pub head_of : List ℕ → Head
head_of book = record { modulus = word_at book 4; fourth = word_at book 8; count = word_at book 12 }

-- where record k begins in a book of n records
abbrev pub offset : ℕ → ℕ → ℕ
offset n k = 16 + 4 * n + 8 * k

-- so many offset words, from the k-th on, are as stated
unfoldable pub offsets_right : List ℕ → ℕ → ℕ → ℕ → Bool
offsets_right book n k zero = true
offsets_right book n k (suc left) = word_at book (16 + 4 * k) == offset n k && offsets_right book n (suc k) left

abbrev pub laid_out : List ℕ → ℕ → Bool
laid_out book n = nat_le n 8 && (length book == 16 + 12 * n && offsets_right book n 0 n)

-- The checks on the layout, in their order.
abbrev pub opened : List ℕ → Result Head Refusal
opened book =
    refuse (nat_lt (length book) 16 || not (word_at book 0 == 1)) Format
    (refuse (not (laid_out book (head_of book).count)) Layout (Ok (head_of book)))
