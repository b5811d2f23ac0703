use Rattle.std.proofs.Common.{◌≡◌, ◌-◌, ◌++◌, length, vec_items}
use Rattle.lists.specs.Calls.{lines_from}
use Rattle.lists.proofs.whole.put_lines.Given as goal

abbrev pub invariant-loop-number : goal.invariant-loop-number
invariant-loop-number l =
    vec_items l.initial.out ++ lines_from l.book l.track 0 (length l.marks) ≡ vec_items l.out ++ lines_from l.book l.track l.number-counter (length l.marks - l.number-counter)
