use Rattle.std.proofs.Common.{arith}
use Rattle.book.proofs.Turns.{seek_calls_pair, adopt_calls_triple}
use Rattle.book.proofs.form.Form.call.Goals as goal

pub returns-in_ok-power-in-Seek-len2-clause-named : goal.returns-in_ok-power-in-Seek-len2-clause-named
returns-in_ok-power-in-Seek-len2-clause-named c =
    rw (c.in-Seek-len2.is-0, c.in_ok-power-in-Seek-len2.ensures) (seek_calls_pair c.args.numbers.now (omega arith))

pub returns-in_ok-power-in-Adopt-len3-clause-named : goal.returns-in_ok-power-in-Adopt-len3-clause-named
returns-in_ok-power-in-Adopt-len3-clause-named c =
    rw (c.in-Adopt-len3.is-0, c.in_ok-power-in-Adopt-len3.ensures) (adopt_calls_triple c.args.numbers.now (omega arith))
