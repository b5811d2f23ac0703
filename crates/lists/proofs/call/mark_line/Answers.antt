use Rattle.std.proofs.Common.{arith, rules}
use Rattle.books.specs.Loading.{loaded}
use Rattle.lists.specs.Calls.{lined}
use Rattle.lists.specs.Tracks.{tracked}
use Rattle.lists.proofs.Answering.{called}
use Rattle.lists.proofs.LinesExact.{lines_exact}
use Rattle.lists.proofs.MarkLines.{mark_fits, mark_lines}
use Rattle.lists.proofs.call.mark_line.Goals as goal

pub returns : goal.returns
returns c =
    let book = c.args.book.now in
    let track = c.args.track.now in
    let k = c.args.number in
    let call = c.written.ensures in
    let is = called (lined (loaded book) (tracked track) track k) c.args.line.now c.written.new.line c.written.result call.room
    (λ room. let made = call.made room in (made.0, search rules, made.2)) (mark_fits book track (λ i. omega (arith, c.type_inv.track i)) k) in
    record { value = is.0; after = is.1; fits = is.2; laws = mark_lines; exact = lines_exact }
