-- Numbers that leave the same on division by q.
use Rattle.std.proofs.Common.{◌≡◌, ℕ, ◌+◌, ◌-◌, ◌*◌, ◌/◌, ◌%◌, ◌<◌, sym, ap, ◌∙◌, ap₂, mod-lt, mul_comm, arith}
use native.Mathlib.Nat.{add-mod, add-mul-mod_self_right, mod-add-div', mod-mod}

-- a and b leave the same on division by q
abbrev pub Same : ℕ → ℕ → ℕ → Type 0
Same q a b = a % q ≡ b % q

-- so do any two that differ by multiples of q,
pub same_from : (q a b k l : ℕ) → a + k * q ≡ b + l * q → Same q a b
same_from q a b k l e =
    sym (add-mul-mod_self_right a k q) ∙ ap (λ n. n % q) e ∙ add-mul-mod_self_right b l q

-- and only such
pub same_to : (q a b : ℕ) → Same q a b → a + b / q * q ≡ b + a / q * q
same_to q a b e = omega (arith, mod-add-div' a q, mod-add-div' b q)

-- a remainder stands for its number
pub same_mod : (q a : ℕ) → Same q (a % q) a
same_mod q a = mod-mod a q

pub same_add : (q a b c d : ℕ) → Same q a b → Same q c d → Same q (a + c) (b + d)
same_add q a b c d e f = add-mod a c q ∙ ap₂ (λ m n. (m + n) % q) e f ∙ sym (add-mod b d q)

pub same_cancel : (q a b c : ℕ) → Same q (a + c) (b + c) → Same q a b
same_cancel q a b c e =
    same_from q a b ((b + c) / q) ((a + c) / q) (omega (arith, same_to q (a + c) (b + c) e))

pub same_times : (q a b c : ℕ) → Same q a b → Same q (a * c) (b * c)
same_times q a b c e =
    same_from q (a * c) (b * c) (b / q * c) (a / q * c)
    (let h : (a + b / q * q) * c ≡ (b + a / q * q) * c = ap (λ n. n * c) (same_to q a b e) in omega arith)

pub same_mul : (q a b c d : ℕ) → Same q a b → Same q c d → Same q (a * c) (b * d)
same_mul q a b c d e f =
    same_times q a b c e ∙ ap (λ n. n % q) (mul_comm b c) ∙ same_times q c d b f ∙ ap (λ n. n % q) (mul_comm d b)

-- what is to be added to a for a multiple of q
pub same_negative : (q a : ℕ) → 0 < q → Same q (a + (q - a % q)) 0
same_negative q a h =
    same_from q (a + (q - a % q)) 0 0 (a / q + 1) (omega (arith, mod-add-div' a q, mod-lt a h))
