use Rattle.std.proofs.Common.{rules, length, vec_items, sym, ◌∙◌}
use Rattle.lists.specs.Calls.{mark_called}
use Rattle.lists.proofs.Listing.{lines_on, lines_stop, lines_over, puts_called}
use Rattle.lists.proofs.whole.put_lines.Goals as goal

pub returns-then-is_none : goal.returns-then-is_none
returns-then-is_none c =
    let book = c.args.book.now in
    let track = c.args.track.now in
    let k = c.loop-number.number-counter in
    let before = vec_items c.loop-number.out in
    let after = vec_items c.put_line.new.out in
    let made = c.in_ok-put.ensures in
    let puts = puts_called (λ line. mark_called book track k (length line)) before after c.in_ok-put.put made (search rules) (search rules) in
    lines_stop book track k (length c.args.marks.now) before after c.in_ok-put.put c.loop-number-test.true c.if-is_none.ensures puts ∙ sym c.loop-number.invariant

pub loop-number-preserved : goal.loop-number-preserved
loop-number-preserved c =
    let book = c.args.book.now in
    let track = c.args.track.now in
    let k = c.loop-number.number-counter in
    let before = vec_items c.loop-number.out in
    let after = vec_items c.put_line.new.out in
    let made = c.in_ok-put.ensures in
    let puts = puts_called (λ line. mark_called book track k (length line)) before after c.in_ok-put.put made (search rules) (search rules) in
    c.loop-number.invariant ∙ lines_on book track k (length c.args.marks.now) before after c.in_ok-put.put c.loop-number-test.true c.if-is_none.ensures puts

pub returns : goal.returns
returns c =
    sym (c.loop-number.invariant
    ∙ lines_over c.args.book.now c.args.track.now c.loop-number.number-counter (length c.args.marks.now) (vec_items c.loop-number.out) c.loop-number-test.false)
