-- The parts of a book.
use Rattle.std.specs.Prelude.{◌≡◌, ℕ, ◌+◌, ◌*◌, ◌<◌, ◌≤◌, cond, List, length, take, drop, Some, None, Ok, Err, Option, Result, nat_lt}
use Rattle.refusals.specs.declared.Refusal.{Refusal}
use Rattle.roots.specs.declared.factor.Factor.{Factor}
use Rattle.roots.specs.Drafts.{factor}
use Rattle.octets.specs.Words.{half_at, word_at}
use Rattle.books.specs.declared.book.Book.{Book}
use Rattle.books.specs.declared.part.Part.{Part}
use Rattle.books.specs.declared.part.Part.TheVariants.{Head as HeadPart, Offset, Record}
use Rattle.books.specs.Layout.{Head, fourth_in, opened, offset}

-- What opening answers: the book over the same bytes with its head's words, or the first refusal.
abbrev pub Opens : List ℕ → Result Book Refusal → Type 0
Opens bytes (Err why) = opened bytes ≡ Err why
Opens bytes (Ok b) =
    (b.bytes.now ≡ bytes) × (h : Head) × (opened bytes ≡ Ok h) × (b.modulus ≡ h.modulus) × (b.fourth ≡ fourth_in h.fourth) × (b.count ≡ h.count)

-- the factor whose record begins at a place
abbrev pub record_at : List ℕ → ℕ → Factor
record_at bytes at = factor (half_at bytes at) (half_at bytes (at + 2)) (word_at bytes (at + 4))

-- the factor in the first eight bytes, where there are so many
abbrev pub record_in : List ℕ → Option Factor
record_in bytes = cond (nat_lt (length bytes) 8) None (Some (record_at bytes 0))

-- the factor whose record begins at a place, where all its eight bytes are there
abbrev pub record_read : List ℕ → ℕ → Option Factor
record_read bytes at = cond (nat_lt (length bytes) (at + 8)) None (Some (record_at bytes at))

-- Part k of a book of n records: the head, then the offsets, then the records; none only where these are over.
abbrev pub Parted : List ℕ → ℕ → ℕ → Option Part → Type 0
Parted bytes n k None = 1 + 2 * n ≤ k
Parted bytes n k (Some (HeadPart at part)) = (k ≡ 0) × (at ≡ 0) × (part.now ≡ take 16 bytes)
Parted bytes n k (Some (Offset at part)) = (j : ℕ) × (k ≡ 1 + j) × (j < n) × (at ≡ 16 + 4 * j) × (part.now ≡ take 4 (drop at bytes))
Parted bytes n k (Some (Record at part)) = (j : ℕ) × (k ≡ 1 + n + j) × (j < n) × (at ≡ offset n j) × (part.now ≡ take 8 (drop at bytes))
