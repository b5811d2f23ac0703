-- What loading a book comes to.
use Rattle.std.specs.Prelude.{◌≡◌, ℕ, zero, suc, ◌+◌, not, ◌||◌, List, [], ◌∷◌, ◌++◌, Ok, Err, Result, nat_lt}
use Rattle.theory.specs.Residues.{residues}
use Rattle.refusals.specs.declared.Refusal.{Refusal}
use Rattle.refusals.specs.declared.Refusal.TheVariants.{Modulus, Size}
use Rattle.fields.specs.declared.residues.Residues.{Residues}
use Rattle.roots.specs.declared.gathered.Gathered.{Gathered}
use Rattle.roots.specs.declared.gathered.Open.{Open}
use Rattle.roots.specs.declared.gathered.Closed.{Closed}
use Rattle.roots.specs.declared.call.Call.{Call}
use Rattle.roots.specs.declared.call.Call.TheVariants.{Give}
use Rattle.roots.specs.declared.factor.Factor.{Factor}
use Rattle.roots.specs.Drafts.{refuse}
use Rattle.roots.specs.Laws.{adopting}
use Rattle.roots.specs.Runs.{tried}
use Rattle.roots.specs.State.{State, served, start}
use Rattle.books.specs.Layout.{Head, opened, offset}
use Rattle.books.specs.Parts.{record_at}

-- A plan over residues, as a book holds it: the modulus, and what the plan holds.
abbrev pub Bound : Type 0
Bound = ℕ × State

-- so many records, one behind the other, from a place on
unfoldable pub records : List ℕ → ℕ → ℕ → List Factor
records book at zero = []
records book at (suc n) = record_at book at ∷ records book (at + 8) n

-- a fourth root other than 0 is given
abbrev pub fourth_calls : ℕ → List Call
fourth_calls zero = []
fourth_calls (suc i) = Give (suc i) ∷ []

-- The calls that a book asks for: the records are adopted in order, and then the fourth root is given.
abbrev pub calls_of : List ℕ → ℕ → ℕ → List Call
calls_of book n i = adopting (records book (offset n 0) n) ++ fourth_calls i

abbrev pub book_calls : List ℕ → Head → List Call
book_calls book h = calls_of book h.count h.fourth

abbrev pub with_modulus : ℕ → Result State Refusal → Result Bound Refusal
with_modulus q (Ok s) = Ok (q, s)
with_modulus q (Err why) = Err why

-- The checks on the modulus, and then the calls, in a draft of their own.
abbrev pub loaded_over : ℕ → List Call → Result Bound Refusal
loaded_over q calls =
    refuse (nat_lt q 2 || nat_lt 2147483647 q) Modulus
    (refuse (not (served q)) Size (with_modulus q (tried (residues q) (start q) calls)))

abbrev pub loaded_with : List ℕ → Result Head Refusal → Result Bound Refusal
loaded_with book (Ok h) = loaded_over h.modulus (book_calls book h)
loaded_with book (Err why) = Err why

abbrev pub loaded : List ℕ → Result Bound Refusal
loaded book = loaded_with book (opened book)

-- What a function that makes some calls, of which none may be refused, answers, and what the draft then holds.
abbrev pub Tries : Result State Refusal → Result (Unit {0}) Refusal → State → Type 0
Tries outcome (Ok done) s = outcome ≡ Ok s
Tries outcome (Err why) s = outcome ≡ Err why

-- The same of a draft over residues, before and after.
abbrev pub Fills : Gathered Residues Open → List Call → Result (Unit {0}) Refusal → Gathered Residues Open → Type 0
Fills before calls r after = Tries (tried (residues before.field.q) before.held calls) r after.held

-- What beginning to load answers: a new draft over the residues, where the checks on the modulus are passed, or the refusal that they come to.
abbrev pub Begins : ℕ → Result (Gathered Residues Open) Refusal → Type 0
Begins q (Ok d) =
    ((calls : List Call) → loaded_over q calls ≡ with_modulus q (tried (residues q) (start q) calls)) × (d.field.q ≡ q) × (d.held ≡ start q)
Begins q (Err why) = (calls : List Call) → loaded_over q calls ≡ Err why

-- what a plan over residues holds, as a value of the program
abbrev pub bound : Gathered Residues Closed → Bound
bound p = (p.field.q, p.held)

abbrev pub bound_in : Result (Gathered Residues Closed) Refusal → Result Bound Refusal
bound_in (Ok p) = Ok (bound p)
bound_in (Err why) = Err why
