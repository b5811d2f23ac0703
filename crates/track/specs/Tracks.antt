-- A track: a word for how many marks it holds, a word for where the first begins, and a word for each mark.
use Rattle.std.specs.Prelude.{ℕ, List, [], ◌∷◌, ◌++◌, length}
use Rattle.octets.specs.Words.{word}

unfoldable pub words : List ℕ → List ℕ
words [] = []
words (mark ∷ marks) = word mark ++ words marks

abbrev pub track_of : List ℕ → List ℕ
track_of marks = word (length marks) ++ (word 8 ++ words marks)
