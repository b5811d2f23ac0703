use Rattle.std.proofs.Common.{◌≡◌, ◌++◌, drop, vec_items}
use Rattle.track.specs.Tracks.{words, track_of}
use Rattle.track.proofs.layout.track_bytes.Given as goal

abbrev pub invariant-loop-mark : goal.invariant-loop-mark
invariant-loop-mark l = track_of l.marks ≡ vec_items l.bytes ++ words (drop l.mark-index l.marks)
