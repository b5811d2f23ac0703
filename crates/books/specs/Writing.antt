-- The bytes of the book of a plan over residues.
use Rattle.std.specs.Prelude.{ℕ, zero, suc, ◌+◌, ◌*◌, not, List, [], ◌∷◌, ◌++◌, length, Some, None, Ok, Option, nat_lt}
use Rattle.refusals.specs.declared.Refusal.TheVariants.{Size, Room}
use Rattle.roots.specs.declared.factor.Factor.{Factor}
use Rattle.roots.specs.Drafts.{refuse}
use Rattle.roots.specs.State.{State, served}
use Rattle.octets.specs.Words.{word, half}
use Rattle.books.specs.Layout.{offset}
use Rattle.books.specs.Output.{Written}

-- 0 stands for no fourth root: it is never one
abbrev pub fourth_word : Option ℕ → ℕ
fourth_word None = 0
fourth_word (Some i) = i

-- so many offset words of a book of n records, from the k-th on
unfoldable pub offset_words : ℕ → ℕ → ℕ → List ℕ
offset_words n k zero = []
offset_words n k (suc left) = word (offset n k) ++ offset_words n (suc k) left

abbrev pub record_bytes : Factor → List ℕ
record_bytes h = half h.r ++ (half h.f ++ word h.zeta)

unfoldable pub records_bytes : List Factor → List ℕ
records_bytes [] = []
records_bytes (h ∷ held) = record_bytes h ++ records_bytes held

-- behind the head: the offsets, and then the records
abbrev pub entries : List Factor → List ℕ
entries held = offset_words (length held) 0 (length held) ++ records_bytes held

-- the four words of the head
abbrev pub head_bytes : ℕ → ℕ → ℕ → List ℕ
head_bytes q i n = word 1 ++ (word q ++ (word i ++ word n))

abbrev pub book_of : ℕ → State → List ℕ
book_of q s = head_bytes q (fourth_word s.fourth) (length s.factors) ++ entries s.factors

-- Writing into so many bytes: the checks in their order, and then the book.
abbrev pub writing : ℕ → State → ℕ → Written
writing q s room =
    refuse (not (served q)) Size (refuse (nat_lt room (16 + 12 * length s.factors)) Room (Ok (book_of q s)))
