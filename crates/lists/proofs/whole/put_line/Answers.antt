use Rattle.std.proofs.Common.{ℕ, None, Result, replicate, refl, sym, subst, vec_items, rules, arith}
use Rattle.std.proofs.lemmas.List.{length-take-le}
use Rattle.std.specs.Fn.{FnOnceReturnsAtMut}
use Rattle.refusals.specs.declared.Refusal.{Refusal}
use Rattle.lists.specs.Calls.{PutsFront}
use Rattle.lists.proofs.whole.put_line.Goals as goal

pub returns-in_default : goal.returns-in_default
returns-in_default g c =
    let before = vec_items c.args.out.now in (
      c.call.result,
      c.call.new.arg2,
      search rules,
      subst (λ (answer : Result ℕ Refusal). PutsFront answer c.call.new.arg2 before None before) (sym c.in_default.is) (refl, refl),
    )

pub slice_bounds-line-end : goal.slice_bounds-line-end
slice_bounds-line-end g c =
    let called : FnOnceReturnsAtMut g.F.FnOnce c.args.call (replicate 96 0) c.call.result c.call.new.arg2 = search rules in
    let fits = c.requires.fits (replicate 96 0) c.in-Ok.length c.call.new.arg2
    (subst (λ (answer : Result ℕ Refusal). FnOnceReturnsAtMut g.F.FnOnce c.args.call (replicate 96 0) answer c.call.new.arg2) c.in-Ok.is called) in
    omega arith

pub slice_bounds-extend_from_slice-end : goal.slice_bounds-extend_from_slice-end
slice_bounds-extend_from_slice-end g c =
    let called : FnOnceReturnsAtMut g.F.FnOnce c.args.call (replicate 96 0) c.call.result c.call.new.arg2 = search rules in
    let fits = c.requires.fits (replicate 96 0) c.in-Ok.length c.call.new.arg2
    (subst (λ (answer : Result ℕ Refusal). FnOnceReturnsAtMut g.F.FnOnce c.args.call (replicate 96 0) answer c.call.new.arg2) c.in-Ok.is called) in
    omega (arith, length-take-le c.in-Ok.length c.call.new.arg2)
