-- A book and a track, and the list that they give.
use Rattle.std.specs.Prelude.{◌≡◌, ℕ, List, [], ◌∷◌, ◌++◌, Ok, Err, codes}
use Rattle.refusals.specs.declared.Refusal.TheVariants.{Line}
use Rattle.lists.specs.Calls.{line_of_head, mark_called}
use Rattle.lists.specs.Texts.{line_end}

-- modulo 97, with the fourth root 22 and the factor 3 with ζ = 35
abbrev pub book_97 : List ℕ
book_97 =
    1 ∷ 0 ∷ 0 ∷ 0 ∷ 97 ∷ 0 ∷ 0 ∷ 0 ∷ 22 ∷ 0 ∷ 0 ∷ 0 ∷ 1 ∷ 0 ∷ 0 ∷ 0 ∷ 20 ∷ 0 ∷ 0 ∷ 0 ∷ 3 ∷ 0 ∷ 1 ∷ 0 ∷ 35 ∷ 0 ∷ 0 ∷ 0 ∷ []

-- the marks 2, 94 and 5
abbrev pub track_97 : List ℕ
track_97 = 3 ∷ 0 ∷ 0 ∷ 0 ∷ 8 ∷ 0 ∷ 0 ∷ 0 ∷ 2 ∷ 0 ∷ 0 ∷ 0 ∷ 94 ∷ 0 ∷ 0 ∷ 0 ∷ 5 ∷ 0 ∷ 0 ∷ 0 ∷ []

pub record Example : Type 0 where
  pub head : line_of_head book_97 track_97 ≡ codes "modulus 97 rest 1 factors 1" ++ line_end
  pub first : mark_called book_97 track_97 0 96 ≡ Ok (codes "0 2 place 14 other 83 joinings 13 tests 0" ++ line_end)
  pub second : mark_called book_97 track_97 1 96 ≡ Ok (codes "1 94 place 26 other 71 joinings 16 tests 1" ++ line_end)
  pub third : mark_called book_97 track_97 2 96 ≡ Ok (codes "2 5 refused 13" ++ line_end)
  pub over : mark_called book_97 track_97 3 96 ≡ Err Line
