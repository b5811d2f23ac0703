use Rattle.std.proofs.Common.{Ok, rules}
use Rattle.lists.specs.Calls.{line_of_head}
use Rattle.lists.proofs.Answering.{called}
use Rattle.lists.proofs.Example.{example}
use Rattle.lists.proofs.HeadLines.{head_lined, head_lines}
use Rattle.lists.proofs.call.head_line.Goals as goal

pub returns : goal.returns
returns c =
    let book = c.args.book.now in
    let track = c.args.track.now in
    let call = c.written.ensures in
    let is = called (Ok (line_of_head book track)) c.args.line.now c.written.new.line c.written.result call.room
    (λ room. let made = call.made room in (made.0, search rules, made.2)) (head_lined book track).fits in
    record { value = is.0; after = is.1; fits = is.2; laws = head_lines; worked = example }
