use Rattle.std.proofs.Common.{arith}
use Rattle.std.proofs.lemmas.Result.{err_from_is_err_and}
use Rattle.fields.proofs.Conjugates.{conjugate_found, conjugate_none, norm_fits}
use Rattle.fields.proofs.pairs.operations.PairsField.inverse.Goals as goal

pub overflow_add-norm : goal.overflow_add-norm
overflow_add-norm c =
    let base = c.args.self.now.base in
    omega (arith, norm_fits base.q c.args.a _ _ base.low base.high c.real-x.ensures c.imaginary-y.ensures)

pub returns-in_err-v : goal.returns-in_err-v
returns-in_err-v c =
    let base = c.args.self.now.base in
    let passed = err_from_is_err_and c.from_residual.result c.from_residual.ensures.1 in
    let none = c.in_err-v.ensures.ok_part in
    let fault = rw none at c.in_err-v.ensures.value in
    rw (passed.1, passed.2) (
      cc fault,
      conjugate_none base.q c.args.a _ _ base.low base.high c.real-x.ensures c.imaginary-y.ensures
          (rw none at c.invert.ensures),
    )

pub returns : goal.returns
returns c =
    let base = c.args.self.now.base in
    let found = rw c.in_ok-v.ensures.ok_part at c.invert.ensures in
    conjugate_found base.q c.args.a c.real-x.result c.imaginary-y.result base.low base.high
    c.real-x.ensures c.imaginary-y.ensures c.in_ok-v.v c.code.result found.1 (rw c.size-p.ensures at c.code.ensures)
