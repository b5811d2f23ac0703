-- Below a bound, what can be decided of each number is had by one of them or by none.
use Rattle.std.proofs.Common.{◌≡◌, ℕ, zero, suc, ◌<◌, ◌⊎◌, subst, inl, inr, arith}
use native.Mathlib.Decide.{ℕ_discrete}

-- Where P can be decided, some number below n has it, or none has.
pub bounded : (P : ℕ → Type 0) → ((i : ℕ) → Dec (P i)) → (n : ℕ)
    → ((i : ℕ) × (i < n) × P i) ⊎ ((i : ℕ) → i < n → P i → ⊥)
bounded P decide zero = inr (λ i h p. absurd (omega arith))
bounded P decide (suc n) = from (decide n) (bounded P decide n)
  where
    from : Dec (P n) → ((i : ℕ) × (i < n) × P i) ⊎ ((i : ℕ) → i < n → P i → ⊥)
        → ((i : ℕ) × (i < suc n) × P i) ⊎ ((i : ℕ) → i < suc n → P i → ⊥)
    from (yes p) before = inl (n, omega arith, p)
    from (no none) (inl found) = inl (found.0, omega (arith, found.1), found.2)
    from (no none) (inr before) = inr (λ i h p. last i h p (ℕ_discrete i n))
      where
        last : (i : ℕ) → i < suc n → P i → Dec (i ≡ n) → ⊥
        last i h p (yes e) = none (subst P e p)
        last i h p (no other) = before i (omega arith) p

-- The same where one is known to be had, since not none is.
pub bounded_some : (P : ℕ → Type 0) → ((i : ℕ) → Dec (P i)) → (n : ℕ)
    → (((i : ℕ) → i < n → P i → ⊥) → ⊥) → (i : ℕ) × (i < n) × P i
bounded_some P decide n some = from (bounded P decide n)
  where
    from : ((i : ℕ) × (i < n) × P i) ⊎ ((i : ℕ) → i < n → P i → ⊥) → (i : ℕ) × (i < n) × P i
    from (inl found) = found
    from (inr none) = absurd (some none)
