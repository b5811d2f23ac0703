-- A number is a prime if no number from 2 to its square root goes into it: as a computed test, and that the test is sound.
use Rattle.std.proofs.Common.{◌≡◌, ℕ, zero, suc, ◌+◌, ◌*◌, ◌%◌, ◌<◌, ◌≤◌, Bool, true, false, ◌&&◌, eqb, ltb, ◌⊎◌, List, [], ◌∷◌, sym, refl, ap, ◌∙◌, inl, inr, ⊎_elim, mul_comm, mul-le-mul, arith}
use native.Mathlib.Nat.{mul-mod_left}
use Rattle.std.proofs.lemmas.Bool.{and_parts, both_ways, cases_eq, cases_lt, eq-eqb, ltb-true}
use Rattle.std.specs.List.{AllByRecursion}
use Rattle.theory.specs.Numbers.{Prime}

-- whether none of the so many numbers from d on goes into n
unfoldable pub undivided : ℕ → ℕ → ℕ → Bool
undivided n d zero = true
undivided n d (suc turns) = elim (eqb (n % d) 0) [ true ↦ false | false ↦ undivided n (suc d) turns ]

-- whether n is above 1 and below the square of k + 2, and no number from 2 to k + 1 goes into it
unfoldable pub prime_test : ℕ → ℕ → Bool
prime_test k n = ltb 1 n && (ltb n ((k + 2) * (k + 2)) && undivided n 2 k)

-- one turn of the test
undivided_turn : (n d k : ℕ) (b : Bool) → eqb (n % d) 0 ≡ b → elim b [ true ↦ false | false ↦ undivided n (suc d) k ] ≡ true
    → (b ≡ false) × (undivided n (suc d) k ≡ true)
undivided_turn n d k true e h = absurd (both_ways true (sym h) refl)
undivided_turn n d k false e h = (refl, h)

undivided_sound : (k n d : ℕ) → undivided n d k ≡ true → (x : ℕ) → d ≤ x → x < d + k → n % x ≡ 0 → ⊥
unfolding undivided
undivided_sound zero n d t x low high e = omega arith
undivided_sound (suc k) n d t x low high e =
    let turn = undivided_turn n d k (eqb (n % d) 0) refl t in
    ⊎_elim
    (λ same. both_ways (eqb (n % d) 0) turn.0 (eq-eqb (n % d) 0 (ap (λ y. n % y) same ∙ e)))
    (λ apart. undivided_sound k n (suc d) turn.1 x (omega arith) (omega arith) e) (cases_eq d x)

module _ (n k : ℕ) (high : n < (k + 2) * (k + 2)) (clear : undivided n 2 k ≡ true) where
  -- a divisor between 1 and n, or what it leaves as the other factor, is at most k + 1
  no_factor : (d j : ℕ) → n ≡ j * d → 1 < d → 1 < j → ⊥
  no_factor d j e above other =
      ⊎_elim
      (λ small. undivided_sound k n 2 clear d above (omega arith) (ap (λ y. y % d) e ∙ mul-mod_left j d))
      (λ large. ⊎_elim
      (λ small. undivided_sound k n 2 clear j other (omega arith)
      (ap (λ y. y % j) (e ∙ mul_comm j d) ∙ mul-mod_left d j))
      (λ large'. let h : (k + 2) * (k + 2) ≤ j * d = mul-le-mul large' large in omega arith)
      (cases_lt j (k + 2)))
      (cases_lt d (k + 2))

  factors : (d j : ℕ) → 1 < n → n ≡ j * d → (d ≡ 1) ⊎ (d ≡ n)
  factors zero j low e = absurd (omega arith)
  factors (suc zero) j low e = inl refl
  factors (suc (suc d)) zero low e = absurd (omega arith)
  factors (suc (suc d)) (suc zero) low e = inr (omega arith)
  factors (suc (suc d)) (suc (suc j)) low e = absurd (no_factor (suc (suc d)) (suc (suc j)) e (omega arith) (omega arith))

-- What passes the test is a prime.
pub prime_tested : (k n : ℕ) → prime_test k n ≡ true → Prime n
unfolding prime_test
prime_tested k n t =
    let first = and_parts (ltb 1 n) _ t in
    let rest = and_parts (ltb n ((k + 2) * (k + 2))) (undivided n 2 k) first.1 in
    let low : 1 < n = ltb-true 1 n first.0 in
    record {
      above_one = low;
      only = λ d h. factors n k (ltb-true n ((k + 2) * (k + 2)) rest.0) rest.1 d h.0 low h.1;
    }

-- the same of each number of a list, by one computation
unfoldable pub all_prime : ℕ → List ℕ → Bool
all_prime k [] = true
all_prime k (n ∷ ns) = prime_test k n && all_prime k ns

pub primes_tested : (k : ℕ) (ns : List ℕ) → all_prime k ns ≡ true → AllByRecursion Prime ns
unfolding all_prime
primes_tested k [] t = tt
primes_tested k (n ∷ ns) t =
    let both = and_parts (prime_test k n) (all_prime k ns) t in
    (prime_tested k n both.0, primes_tested k ns both.1)
