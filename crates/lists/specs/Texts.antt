-- The texts of a list, byte for byte. Each line ends in one byte 10.
use Rattle.std.specs.Prelude.{ℕ, List, [], ◌∷◌, ◌++◌, length, Ok, Err, codes, decimal, Result}
use Rattle.refusals.specs.Number.{numbered}
use Rattle.refusals.specs.declared.Refusal.{Refusal}
use Rattle.refusals.specs.declared.Refusal.TheVariants.{Modulus, Size, Full, Base, Power, Shared, Root, Unfound, NoFourth, Rest, Mark, Zero, NoSquare, Unlawful, Room, Format, Layout, Track, Line}
use Rattle.roots.specs.Rooting.{Answer}
use Rattle.roots.specs.State.{State}

abbrev pub line_end : List ℕ
line_end = 10 ∷ []

-- some words and a number
abbrev pub noted : List ℕ → ℕ → List ℕ
noted words n = words ++ decimal n

-- "modulus 97 rest 1 factors 1"
abbrev pub text_of_head : ℕ → State → List ℕ
text_of_head q s =
    noted (codes "modulus ") q ++ (noted (codes " rest ") s.rest ++ (noted (codes " factors ") (length s.factors) ++ line_end))

-- "book refused 16", "track refused 18"
abbrev pub text_of_refused : List ℕ → Refusal → List ℕ
text_of_refused words why = noted words (numbered why) ++ line_end

-- " place 26 other 71 joinings 16 tests 1": the smaller root comes first
abbrev pub answer_text : Answer → List ℕ
answer_text a =
    noted (codes " place ") a.0.0 ++ (noted (codes " other ") a.0.1 ++ (noted (codes " joinings ") a.1.0 ++ noted (codes " tests ") a.1.1))

-- refusal 14 also names the step of rooting
abbrev pub step_text : Refusal → List ℕ
step_text (Unlawful layer step code) = noted (codes " step ") step
step_text Modulus = []
step_text Size = []
step_text Full = []
step_text Base = []
step_text Power = []
step_text Shared = []
step_text Root = []
step_text Unfound = []
step_text NoFourth = []
step_text Rest = []
step_text Mark = []
step_text Zero = []
step_text NoSquare = []
step_text Room = []
step_text Format = []
step_text Layout = []
step_text Track = []
step_text Line = []

-- " refused 13", " refused 14 step 3"
abbrev pub refusal_text : Refusal → List ℕ
refusal_text why = noted (codes " refused ") (numbered why) ++ step_text why

abbrev pub outcome_text : Result Answer Refusal → List ℕ
outcome_text (Ok a) = answer_text a
outcome_text (Err why) = refusal_text why

-- the number of a mark, the mark, and what it was rooted to
abbrev pub text_of_mark : ℕ → ℕ → Result Answer Refusal → List ℕ
text_of_mark k mark r = decimal k ++ (noted (codes " ") mark ++ (outcome_text r ++ line_end))
