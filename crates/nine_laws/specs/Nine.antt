-- The field with nine elements. Code 0 is zero, and code k from 1 to 8 is the power k − 1 of ω, where ω × ω is ω + 1 and 3 is 0.
-- So ω has order 8: a product adds exponents modulo 8, the negative of 1 is the power 4, and only the sum wants a table.
use Rattle.std.specs.Prelude.{ℕ, ◌+◌, ◌-◌, ◌*◌, ◌%◌, cond, ◌||◌, List, [], ◌∷◌, ◌==◌, slice_index}
use Rattle.theory.specs.Meaning.{Meaning}

-- the sum of the codes a and b stands at place 9a + b
unfoldable pub sums : List ℕ
sums = 0 ∷ 1 ∷ 2 ∷ 3 ∷ 4 ∷ 5 ∷ 6 ∷ 7 ∷ 8
    ∷ 1 ∷ 5 ∷ 3 ∷ 8 ∷ 7 ∷ 0 ∷ 4 ∷ 6 ∷ 2
    ∷ 2 ∷ 3 ∷ 6 ∷ 4 ∷ 1 ∷ 8 ∷ 0 ∷ 5 ∷ 7
    ∷ 3 ∷ 8 ∷ 4 ∷ 7 ∷ 5 ∷ 2 ∷ 1 ∷ 0 ∷ 6
    ∷ 4 ∷ 7 ∷ 1 ∷ 5 ∷ 8 ∷ 6 ∷ 3 ∷ 2 ∷ 0
    ∷ 5 ∷ 0 ∷ 8 ∷ 2 ∷ 6 ∷ 1 ∷ 7 ∷ 4 ∷ 3
    ∷ 6 ∷ 4 ∷ 0 ∷ 1 ∷ 3 ∷ 7 ∷ 2 ∷ 8 ∷ 5
    ∷ 7 ∷ 6 ∷ 5 ∷ 0 ∷ 2 ∷ 4 ∷ 8 ∷ 3 ∷ 1
    ∷ 8 ∷ 2 ∷ 7 ∷ 6 ∷ 0 ∷ 3 ∷ 5 ∷ 1 ∷ 4 ∷ []

-- Of codes below 9.
abbrev pub added : ℕ → ℕ → ℕ
added a b = slice_index sums (9 * a + b)

abbrev pub opposite : ℕ → ℕ
opposite a = cond (a == 0) 0 (1 + (a - 1 + 4) % 8)

abbrev pub times : ℕ → ℕ → ℕ
times a b = cond (a == 0 || b == 0) 0 (1 + (a - 1 + (b - 1)) % 8)

-- of a code from 1 to 8
abbrev pub upturned : ℕ → ℕ
upturned a = 1 + (8 - (a - 1)) % 8

abbrev pub nine : Meaning
nine = record {
  size = 9;
  sum = λ a b. added (a % 9) (b % 9);
  negative = λ a. opposite (a % 9);
  product = λ a b. times (a % 9) (b % 9);
}
