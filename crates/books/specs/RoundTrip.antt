-- A plan and its book, there and back.
use Rattle.std.specs.Prelude.{◌≡◌, ℕ, ◌<◌, ◌≤◌, true, List, take, Ok, Result, slice_index}
use Rattle.theory.specs.Residues.{residues}
use Rattle.refusals.specs.declared.Refusal.{Refusal}
use Rattle.roots.specs.declared.call.Call.{Call}
use Rattle.roots.specs.Runs.{run}
use Rattle.roots.specs.State.{State, served}
use Rattle.books.specs.Loading.{loaded}
use Rattle.books.specs.Writing.{book_of}

-- Over the residues by every modulus that is served, after every list of calls: the plan, written as a book, is loaded as that plan.
abbrev pub WrittenLoads : Type 0
WrittenLoads =
    (q : ℕ) → 2 ≤ q → q ≤ 2147483647 → served q ≡ true → (calls : List Call) → loaded (book_of q (run (residues q) calls)) ≡ Ok (q, run (residues q) calls)

-- The same of a call that wrote a plan's book, of the length that it answers, over the front of an output: where some list of calls made the plan,
-- loading that front gives the plan.
abbrev pub LoadsBack : ℕ → State → Result ℕ Refusal → List ℕ → Type 0
LoadsBack q s r out = (calls : List Call) → s ≡ run (residues q) calls → (n : ℕ) → r ≡ Ok n → loaded (take n out) ≡ Ok (q, s)

-- Each of the numbers is a byte.
abbrev pub Bytes : List ℕ → Type 0
Bytes bytes = (i : ℕ) → slice_index bytes i < 256

-- Every book that is loaded is written back in the same bytes.
abbrev pub LoadedWrites : Type 0
LoadedWrites = (book : List ℕ) → Bytes book → (q : ℕ) (s : State) → loaded book ≡ Ok (q, s) → book_of q s ≡ book

-- What is loaded is what a list of calls leaves, over a modulus that is served: so the laws over runs hold of it.
pub record Reached (q : ℕ) (s : State) : Type 0 where
  pub low : 2 ≤ q
  pub high : q ≤ 2147483647
  pub serves : served q ≡ true
  pub calls : List Call
  pub run_is : s ≡ run (residues q) calls

abbrev pub LoadedRuns : Type 0
LoadedRuns = (book : List ℕ) (q : ℕ) (s : State) → loaded book ≡ Ok (q, s) → Reached q s
