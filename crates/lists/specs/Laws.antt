-- What holds of every line.
use Rattle.std.specs.Prelude.{◌≡◌, ℕ, ◌<◌, ◌≤◌, ◌⊎◌, List, [], ◌∷◌, ◌++◌, length, Some, Ok, Err, ◌≢◌}
use Rattle.std.specs.List.{AllByRecursion}
use Rattle.theory.specs.Numbers.{Prime}
use Rattle.theory.specs.Residues.{residues}
use Rattle.refusals.specs.declared.Refusal.TheVariants.{NoSquare}
use Rattle.roots.specs.Laws.{NoRoot, TwoRoots}
use Rattle.roots.specs.State.{State}
use Rattle.books.specs.Loading.{loaded}
use Rattle.books.specs.RoundTrip.{Bytes}
use Rattle.lists.specs.Calls.{head_called, mark_called}
use Rattle.lists.specs.Texts.{text_of_mark}
use Rattle.lists.specs.Tracks.{mark_at}

-- It fits 96 bytes, and the byte 10 stands at its end and nowhere else.
pub record OneLine (text : List ℕ) : Type 0 where
  pub fits : length text ≤ 96
  pub front : List ℕ
  pub ends : text ≡ front ++ (10 ∷ [])
  pub only : AllByRecursion (λ b. b ≢ 10) front

-- So is the line that a head call writes, whatever the book and the track are.
abbrev pub HeadLines : Type 0
HeadLines = (book track : List ℕ) (room : ℕ) (text : List ℕ) → head_called book track room ≡ Ok text → OneLine text

-- So is the line that a line call writes, whatever the book, the track of bytes and the number are.
abbrev pub MarkLines : Type 0
MarkLines =
    (book track : List ℕ) → Bytes track → (k room : ℕ) (text : List ℕ) → mark_called book track k room ≡ Ok text → OneLine text

-- What the line of a mark tells is so. Where the modulus q of the book is a prime, and its plan has a fourth root and a rest up to 1,024, the line
-- of a mark below q other than 0 says "refused 13" exactly where no number squares to the mark, and else names the two that do, smaller first.
abbrev pub LinesExact : Type 0
LinesExact =
    (book track : List ℕ) (k room : ℕ) (text : List ℕ) → mark_called book track k room ≡ Ok text
    → (q : ℕ) (s : State) → loaded book ≡ Ok (q, s) → Prime q → (i : ℕ) → s.fourth ≡ Some i → s.rest ≤ 1024
    → 0 < mark_at track k → mark_at track k < q
    → (NoRoot (residues q) (mark_at track k) × (text ≡ text_of_mark k (mark_at track k) (Err NoSquare)))
    ⊎ ((a b joinings tests : ℕ) × TwoRoots (residues q) (mark_at track k) a b × (text ≡ text_of_mark k (mark_at track k) (Ok ((a, b), (joinings, tests)))))
