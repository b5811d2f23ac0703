use Rattle.std.proofs.Common.{◌≡◌, ◌+◌, ◌*◌, ◌++◌, length, vec_items}
use Rattle.std.specs.Slice.Iter.{chunks_rest, chunks_size}
use Rattle.book.specs.Forms.{width, named_calls}
use Rattle.book.proofs.form.Form.calls.Given as goal

abbrev pub invariant-loop-piece : goal.invariant-loop-piece
invariant-loop-piece l = record {
  can : goal.iterator-loop-piece.can_next l.piece-iterator;
  size : chunks_size l.piece-iterator ≡ width l.self;
  named : named_calls l.self l.numbers ≡ vec_items l.calls ++ named_calls l.self (chunks_rest l.piece-iterator);
  whole : width l.self * length (vec_items l.calls) + length (chunks_rest l.piece-iterator) ≡ length l.numbers;
}
