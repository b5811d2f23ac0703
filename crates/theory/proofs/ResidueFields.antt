-- The residues modulo q are a lawful field exactly when q is a prime.
use Rattle.std.proofs.Common.{◌≡◌, ℕ, ◌≤◌, ◌⊎◌, inl, inr, ⊎_elim, eq-or-lt_of_le, arith}
use Rattle.theory.specs.Meaning.{Lawful}
use Rattle.theory.specs.Numbers.{Divides, Prime}
use Rattle.theory.specs.Residues.{residues}
use Rattle.theory.proofs.Divisors.{divides_bound, divides_self, divides_zero, divisor_positive}
use Rattle.theory.proofs.Euclid.{euclid_ends, euclid_finds, unit_divisor}

-- Modulo a prime, Euclid's steps end at 1 for every number but 0.
pub prime_lawful : (q : ℕ) → Prime q → Lawful (residues q)
prime_lawful q prime a some below =
    let (g, t, u, e) = euclid_ends q a prime.above_one in
    let both = e.shared g (divides_self g) (divides_zero g) in
    ⊎_elim (λ h. (t, euclid_finds q a g t 0 u prime.above_one e h))
    (λ h. absurd (omega (arith, divides_bound g a some both.1))) (prime.only g both.0)

-- A divisor of q that has an inverse is 1.
pub lawful_prime : (q : ℕ) → 2 ≤ q → Lawful (residues q) → Prime q
lawful_prime q low lawful = record { above_one = low; only = only }
  where
    only : (d : ℕ) → Divides d q → (d ≡ 1) ⊎ (d ≡ q)
    only d h =
        ⊎_elim inr
        (λ below.
        let (b, e) = lawful d (divisor_positive d q (omega arith) h) below in
        inl (unit_divisor q d b d h (divides_self d) e))
        (eq-or-lt_of_le (divides_bound d q (omega arith) h))
