use Rattle.std.proofs.Common.{◌≤◌, vec_len}
use Rattle.track.proofs.marks.read_marks.Given as goal

abbrev pub invariant-loop-number : goal.invariant-loop-number
invariant-loop-number l = vec_len l.marks ≤ 512
