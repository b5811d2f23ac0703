-- A test that passes at each number below n, each pair or each triple of them, passes at every remainder by n: what is computed once, over a small ring.
use Rattle.std.proofs.Common.{◌≡◌, ℕ, zero, suc, ◌%◌, ◌<◌, Bool, true, ◌&&◌, sym, subst, ⊎_elim, mod-lt, arith}
use Rattle.std.proofs.lemmas.Bool.{and_parts, cases_eq}

unfoldable pub every : ℕ → (ℕ → Bool) → Bool
every zero p = true
every (suc n) p = p n && every n p

pub every_below : (n : ℕ) (p : ℕ → Bool) → every n p ≡ true → (k : ℕ) → k < n → p k ≡ true
unfolding every
every_below zero p passed k below = absurd (omega arith)
every_below (suc n) p passed k below =
    let both : (p n ≡ true) × (every n p ≡ true) = and_parts (p n) (every n p) passed in
    ⊎_elim (λ same. let P : ℕ → Type 0 = λ i. p i ≡ true in subst P (sym same) both.0)
    (λ other. every_below n p both.1 k (omega arith)) (cases_eq k n)

-- at the remainder by n of any number
pub every_remainder : (n : ℕ) → 0 < n → (p : ℕ → Bool) → every n p ≡ true → (a : ℕ) → p (a % n) ≡ true
every_remainder n some p passed a = every_below n p passed (a % n) (mod-lt a some)

abbrev pub every_two : ℕ → (ℕ → ℕ → Bool) → Bool
every_two n p = every n (λ a. every n (p a))

pub every_two_remainder : (n : ℕ) → 0 < n → (p : ℕ → ℕ → Bool) → every_two n p ≡ true → (a b : ℕ) → p (a % n) (b % n) ≡ true
every_two_remainder n some p passed a b =
    every_remainder n some (p (a % n)) (every_remainder n some (λ i. every n (p i)) passed a) b

abbrev pub every_three : ℕ → (ℕ → ℕ → ℕ → Bool) → Bool
every_three n p = every n (λ a. every_two n (p a))

pub every_three_remainder : (n : ℕ) → 0 < n → (p : ℕ → ℕ → ℕ → Bool) → every_three n p ≡ true → (a b c : ℕ) → p (a % n) (b % n) (c % n) ≡ true
every_three_remainder n some p passed a b c =
    every_two_remainder n some (p (a % n)) (every_remainder n some (λ i. every_two n (p i)) passed a) b c
