-- What the head call and the line call come to. Each checks the room first, then loads the book, then checks the track.
use Rattle.std.specs.Prelude.{◌≡◌, ℕ, zero, suc, min, List, [], ◌++◌, length, take, Some, None, Ok, Err, codes, Option, Result, nat_le, nat_lt}
use Rattle.theory.specs.Residues.{residues}
use Rattle.refusals.specs.Number.{numbered}
use Rattle.refusals.specs.declared.Refusal.{Refusal}
use Rattle.refusals.specs.declared.Refusal.TheVariants.{Room, Line}
use Rattle.roots.specs.Drafts.{refuse}
use Rattle.roots.specs.Rooting.{rooted, answered}
use Rattle.octets.specs.Buffers.{laid_over}
use Rattle.books.specs.Loading.{Bound, loaded}
use Rattle.books.specs.Output.{Written}
use Rattle.lists.specs.Texts.{text_of_head, text_of_refused, text_of_mark}
use Rattle.lists.specs.Tracks.{tracked, mark_at, marks_in}

-- The head line says what the book holds, or that the book or the track was refused.
abbrev pub headed : Result Bound Refusal → Result ℕ Refusal → List ℕ
headed (Err why) track = text_of_refused (codes "book refused ") why
headed (Ok p) (Err why) = text_of_refused (codes "track refused ") why
headed (Ok p) (Ok count) = text_of_head p.0 p.1

abbrev pub line_of_head : List ℕ → List ℕ → List ℕ
line_of_head book track = headed (loaded book) (tracked track)

abbrev pub head_called : List ℕ → List ℕ → ℕ → Written
head_called book track room = refuse (nat_lt room 96) Room (Ok (line_of_head book track))

-- the line of mark k with a plan
abbrev pub rooted_text : Bound → ℕ → ℕ → List ℕ
rooted_text p k mark = text_of_mark k mark (answered (rooted (residues p.0) p.1 mark))

abbrev pub lined : Result Bound Refusal → Result ℕ Refusal → List ℕ → ℕ → Written
lined (Err why) count track k = Err why
lined (Ok p) (Err why) track k = Err why
lined (Ok p) (Ok count) track k = refuse (nat_le count k) Line (Ok (rooted_text p k (mark_at track k)))

abbrev pub mark_called : List ℕ → List ℕ → ℕ → ℕ → Written
mark_called book track k room = refuse (nat_lt room 96) Room (lined (loaded book) (tracked track) track k)

-- What laying a text over an output answers and leaves, where there is one to lay.
abbrev pub LaidOver : Written → List ℕ → Result ℕ Refusal → List ℕ → Type 0
LaidOver (Ok text) before answer after = (answer ≡ Ok (min (length text) (length before))) × (after ≡ laid_over text before)
LaidOver (Err why) before answer after = (answer ≡ Err why) × (after ≡ before)

-- the number that a call answers in C: 0, or that of the refusal
abbrev pub code_by : Written → ℕ
code_by (Ok text) = 0
code_by (Err why) = numbered why

-- What putting the line of a call behind some bytes leaves, and how long that line is; none where the call is refused.
abbrev pub Puts : Written → List ℕ → Option ℕ → List ℕ → Type 0
Puts (Ok text) before put after = (put ≡ Some (length text)) × (after ≡ before ++ text)
Puts (Err why) before put after = (put ≡ None) × (after ≡ before)

-- The same of a call that answers a length and leaves some bytes: its line is their front.
abbrev pub PutsFront : Result ℕ Refusal → List ℕ → List ℕ → Option ℕ → List ℕ → Type 0
PutsFront (Ok n) line before put after = (put ≡ Some n) × (after ≡ before ++ take n line)
PutsFront (Err why) line before put after = (put ≡ None) × (after ≡ before)

-- The lines of so many marks from mark k on, up to the first call that is refused.
unfoldable pub lines_from : List ℕ → List ℕ → ℕ → ℕ → List ℕ
lines_from book track k zero = []
lines_from book track k (suc n) =
    elim (mark_called book track k 96) [ Err why ↦ [] | Ok text ↦ text ++ lines_from book track (suc k) n ]

-- The whole list: the head line, and then the line of each mark of the track.
abbrev pub listed : List ℕ → List ℕ → List ℕ
listed book track = line_of_head book track ++ lines_from book track 0 (marks_in (tracked track))
