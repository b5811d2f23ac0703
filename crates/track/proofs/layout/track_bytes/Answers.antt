use Rattle.std.proofs.Common.{vec_items, sym, ◌∙◌}
use Rattle.track.specs.Tracks.{track_of}
use Rattle.track.proofs.Turns.{mark_turn, written_all}
use Rattle.track.proofs.layout.track_bytes.Goals as goal

pub loop-mark-preserved : goal.loop-mark-preserved
loop-mark-preserved c =
    let marks = c.args.marks.now in
    mark_turn (track_of marks) marks (vec_items c.loop-mark.bytes) (vec_items c.put_word-in-loop-mark.new.bytes) c.loop-mark.mark-index c.from.result
    c.loop-mark-test.true c.from.ensures c.in_ok-put_word-3.ensures c.loop-mark.invariant

pub returns : goal.returns
returns c =
    sym (c.loop-mark.invariant ∙ written_all (vec_items c.loop-mark.bytes) c.args.marks.now c.loop-mark.mark-index c.loop-mark-test.false)
