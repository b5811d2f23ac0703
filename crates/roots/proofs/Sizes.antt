-- Served sizes: they are odd, and their size less one is at least eight times its odd part.
use Rattle.std.proofs.Common.{◌≡◌, ℕ, ◌-◌, ◌*◌, ◌%◌, ◌^◌, ◌<◌, ◌≤◌, true, sym, subst, mul-le-mul_right, arith, lit<}
use native.Mathlib.Nat.{pow-le-pow_right}
use Rattle.std.proofs.lemmas.Bool.{eqb-true}
use Rattle.roots.specs.State.{served, odd}
use Rattle.roots.proofs.Divisions.{size_parted, twos_served}

pub served_odd : (size : ℕ) → served size ≡ true → size % 2 ≡ 1
served_odd size serves = omega (arith, eqb-true (size % 8) 1 serves)

pub eightfold : (size : ℕ) → 1 < size → size < 2 ^ 64 → served size ≡ true → 8 * odd size ≤ size - 1
eightfold size low high serves =
    let eight : 2 ^ 3 ≤ 2 ^ _ = pow-le-pow_right (lit< tt) (twos_served size low high serves) in
    subst (λ x. 8 * odd size ≤ x) (sym (size_parted size low high).whole) (mul-le-mul_right (odd size) eight)
