use Rattle.std.proofs.Common.{◌≡◌, ◌-◌}
use Rattle.theory.specs.Residues.{residues}
use Rattle.roots.specs.Laws.{adopting}
use Rattle.roots.specs.Runs.{tried}
use Rattle.books.specs.Layout.{offset}
use Rattle.books.specs.Loading.{records}
use Rattle.books.proofs.load.adopt_records.Given as goal

-- what is left to adopt, from what the draft now holds, comes to the same as all of it from the start
abbrev pub invariant-loop-k : goal.invariant-loop-k
invariant-loop-k l =
    (tried (residues l.initial.draft.field.q) l.initial.draft.held (adopting (records l.book.bytes.now (offset l.book.count 0) l.book.count))
    ≡ tried (residues l.initial.draft.field.q) l.draft.held (adopting (records l.book.bytes.now (offset l.book.count l.k) (l.book.count - l.k))))
    × (l.draft.field ≡ l.initial.draft.field)
