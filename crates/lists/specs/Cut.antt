-- A book followed at once by a track: where the book ends.
use Rattle.std.specs.Prelude.{ℕ, ◌+◌, ◌*◌, cond, ◌||◌, List, length, nat_lt}
use Rattle.octets.specs.Words.{word_at}

-- After 16 + 12 × count bytes; all of the input is the book where it is shorter, or the count is above 8.
abbrev pub cut_at : List ℕ → ℕ
cut_at input =
    cond (nat_lt (length input) 16 || (nat_lt 8 (word_at input 12) || nat_lt (length input) (16 + 12 * word_at input 12))) (length input)
    (16 + 12 * word_at input 12)
