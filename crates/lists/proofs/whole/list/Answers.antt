use Rattle.std.proofs.Common.{ℕ, List, ◌++◌, rules, length, vec_items, ap, ap₂, ◌∙◌}
use Rattle.lists.specs.Calls.{head_called, line_of_head, lines_from, listed}
use Rattle.lists.proofs.Listing.{puts_called}
use Rattle.lists.proofs.whole.list.Goals as goal

pub returns : goal.returns
returns c =
    let book = c.cut.result.0.now in
    let track = c.cut.result.1.now in
    let made = c.in_ok-put_line.ensures in
    let head = puts_called (λ line. head_called book track (length line)) (vec_items c.new-out.result) (vec_items c.put_line.new.out)
    c.in_ok-put_line.field-0 made (search rules) (search rules) in
    let first = head.1 ∙ ap (λ (out : List ℕ). out ++ line_of_head book track) c.new-out.ensures.items in
    c.in_ok-put_lines.ensures
    ∙ ap₂ (λ (out : List ℕ) (n : ℕ). out ++ lines_from book track 0 n) first (ap length c.as_slice.ensures.value ∙ c.in_ok-marks.ensures)
    ∙ ap₂ listed c.cut.ensures.book c.cut.ensures.track
