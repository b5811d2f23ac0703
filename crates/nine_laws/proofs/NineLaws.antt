-- The field with nine elements keeps the laws of a ring and is lawful, by tests over all codes, pairs and triples of codes.
use Rattle.std.proofs.Common.{◌≡◌, ℕ, ◌%◌, true, false, ◌||◌, eqb, ltb, length, refl, ap, ◌∙◌, ⊎_elim, mod-eq_of_lt, arith, lit<, lit≤}
use native.Mathlib.Nat.{mod-mod}
use Rattle.std.proofs.lemmas.Bool.{both_ways, eqb-true, ltb-true, ne_eqb, or_cases}
use Rattle.theory.specs.Meaning.{Laws, Lawful}
use Rattle.nine_laws.specs.Nine.{sums, added, opposite, times, upturned, nine}
use Rattle.nine_laws.proofs.Every.{every, every_two, every_three, every_remainder, every_two_remainder, every_three_remainder}

-- what is equal at each code, pair or triple below 9 is equal at all remainders
one : (f g : ℕ → ℕ) → every 9 (λ a. eqb (f a) (g a)) ≡ true → (a : ℕ) → f (a % 9) ≡ g (a % 9)
one f g passed a = eqb-true _ _ (every_remainder 9 (lit< tt) (λ i. eqb (f i) (g i)) passed a)

two : (f g : ℕ → ℕ → ℕ) → every_two 9 (λ a b. eqb (f a b) (g a b)) ≡ true → (a b : ℕ) → f (a % 9) (b % 9) ≡ g (a % 9) (b % 9)
two f g passed a b = eqb-true _ _ (every_two_remainder 9 (lit< tt) (λ i j. eqb (f i j) (g i j)) passed a b)

three : (f g : ℕ → ℕ → ℕ → ℕ) → every_three 9 (λ a b c. eqb (f a b c) (g a b c)) ≡ true → (a b c : ℕ) → f (a % 9) (b % 9) (c % 9) ≡ g (a % 9) (b % 9) (c % 9)
three f g passed a b c = eqb-true _ _ (every_three_remainder 9 (lit< tt) (λ i j k. eqb (f i j k) (g i j k)) passed a b c)

-- Each law is computed once.
pub laws_of_nine : Laws nine
unfolding every sums
laws_of_nine = record {
  size_low = lit≤ tt;
  size_high = lit< tt;
  sum_below = λ a b. ltb-true _ _ (every_two_remainder 9 (lit< tt) (λ i j. ltb (added i j) 9) refl a b);
  negative_below = λ a. ltb-true _ _ (every_remainder 9 (lit< tt) (λ i. ltb (opposite i) 9) refl a);
  product_below = λ a b. ltb-true _ _ (every_two_remainder 9 (lit< tt) (λ i j. ltb (times i j) 9) refl a b);
  sum_remainder = λ a b. ap (λ i. added i (b % 9)) (mod-mod a 9);
  negative_remainder = λ a. ap opposite (mod-mod a 9);
  product_remainder = λ a b. ap (λ i. times i (b % 9)) (mod-mod a 9);
  sum_assoc = three (λ a b c. added (added a b % 9) c) (λ a b c. added a (added b c % 9)) refl;
  sum_comm = two (λ a b. added a b) (λ a b. added b a) refl;
  sum_zero = λ a below. one (λ i. added i 0) (λ i. i) refl a ∙ mod-eq_of_lt below;
  sum_negative = one (λ a. added a (opposite a % 9)) (λ a. 0) refl;
  product_assoc = three (λ a b c. times (times a b % 9) c) (λ a b c. times a (times b c % 9)) refl;
  product_comm = two (λ a b. times a b) (λ a b. times b a) refl;
  product_one = λ a below. one (λ i. times i 1) (λ i. i) refl a ∙ mod-eq_of_lt below;
  product_sum =
      three (λ a b c. times a (added b c % 9)) (λ a b c. added (times a b % 9) (times a c % 9)) refl;
}

-- A code that is not 0 modulo 9 times the power of ω that is left to 8 gives 1.
pub nine_inverse : (a : ℕ) → eqb (a % 9) 0 ≡ false → nine.product a (upturned (a % 9)) ≡ 1
unfolding every
nine_inverse a not-zero =
    ⊎_elim (λ zero. absurd (both_ways _ not-zero zero)) (eqb-true _ _)
    (or_cases (eqb (a % 9) 0) _ (every_remainder 9 (lit< tt) (λ i. eqb i 0 || eqb (times i (upturned i % 9)) 1) refl a))

-- Every number but 0 has an inverse.
pub nine_lawful : Lawful nine
nine_lawful a some below =
    (upturned (a % 9), nine_inverse a (ne_eqb (a % 9) 0 (λ zero. omega (arith, mod-eq_of_lt below))))

pub sums_length : length sums ≡ 81
unfolding sums
sums_length = refl
