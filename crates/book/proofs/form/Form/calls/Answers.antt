use Rattle.std.proofs.Common.{rules, arith, append_assoc, append-nil}
use Rattle.std.proofs.lemmas.Grind.{common_steps}
use Rattle.std.proofs.lemmas.List.{nil_from_length}
use Rattle.std.specs.Slice.Iter.{chunks_rest}
use Rattle.book.proofs.Turns.{named_calls_append, no_calls}
use Rattle.book.proofs.form.Form.calls.Goals as goal

pub loop-piece-preserved : goal.loop-piece-preserved
loop-piece-preserved c =
    let parts = c.in-Some.ensures.steps.1.0 in
    let call = c.in_ok-call.ensures in
    let behind = named_calls_append c.args.self c.in-Some.piece.now (chunks_rest c.next.new.self) call.whole in
    record {
      can = search rules;
      size = search rules;
      named = rw (c.loop-piece.invariant.named, parts, behind, call.named, c.in_ok-push.ensures.items, append_assoc);
      whole = grind (arith, common_steps);
    }

pub returns-clause-named : goal.returns-clause-named
returns-clause-named c =
    let none = nil_from_length _ c.in-None.ensures.steps.1.0 in
    rw (c.loop-piece.invariant.named, none, no_calls c.args.self, append-nil)
