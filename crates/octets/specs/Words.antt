-- Words in bytes: a word is four bytes, low byte first, and half a word is two.
use Rattle.std.specs.Prelude.{ℕ, ◌+◌, ◌*◌, ◌/◌, ◌%◌, cond, List, [], ◌∷◌, length, Some, None, Option, nat_le, slice_index, take}
use Rattle.std.specs.Int.{w64, to_le_bytes}

-- the low k bytes of a number below 2 ^ 64, the lowest first; all eight where k is above 8
abbrev pub low_bytes : ℕ → ℕ → List ℕ
low_bytes k n = take k (to_le_bytes w64 n)

-- the low four bytes of a number, and its low two: all of a number below 2 ^ 32, or below 2 ^ 16
abbrev pub word : ℕ → List ℕ
word n = n % 256 ∷ n / 256 % 256 ∷ n / 65536 % 256 ∷ n / 16777216 % 256 ∷ []

abbrev pub half : ℕ → List ℕ
half n = n % 256 ∷ n / 256 % 256 ∷ []

-- the number whose bytes begin at a place
abbrev pub word_at : List ℕ → ℕ → ℕ
word_at bytes at =
    slice_index bytes at + slice_index bytes (at + 1) * 256 + slice_index bytes (at + 2) * 65536 + slice_index bytes (at + 3) * 16777216

abbrev pub half_at : List ℕ → ℕ → ℕ
half_at bytes at = slice_index bytes at + slice_index bytes (at + 1) * 256

-- the same, where all four bytes are there
abbrev pub word_in : List ℕ → ℕ → Option ℕ
word_in bytes at = cond (nat_le (at + 4) (length bytes)) (Some (word_at bytes at)) None
