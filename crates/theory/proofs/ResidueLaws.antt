-- The residues modulo q are a ring.
use Rattle.std.proofs.Common.{◌≡◌, ℕ, ◌+◌, ◌-◌, ◌*◌, ◌%◌, ◌^◌, ◌<◌, ◌≤◌, sym, refl, ap, ◌∙◌, add-zero, add_assoc, mod-lt, mod-eq_of_lt, mul_assoc, mul_comm, add_comm, mul-one, mul-add, arith}
use native.Mathlib.Nat.{add-mod-mod, mod-add-mod, mod-mod, zero-mod, add-mod}
use Rattle.theory.specs.Meaning.{Laws}
use Rattle.theory.specs.Residues.{residues}
use Rattle.theory.proofs.Congruence.{same_mod, same_mul, same_negative}

module _ (q : ℕ) where
  pub product_left : (a b : ℕ) → a % q * b % q ≡ a * b % q
  product_left a b = same_mul q (a % q) a b b (same_mod q a) refl

  product_right : (a b : ℕ) → a * (b % q) % q ≡ a * b % q
  product_right a b = same_mul q a a (b % q) b refl (same_mod q b)

-- The laws of the residues modulo any q from 2 on that fits.
pub residues_laws : (q : ℕ) → 2 ≤ q → q < 2 ^ 62 → Laws (residues q)
residues_laws q low high =
    let some : 0 < q = omega arith in
    record {
      size_low = low;
      size_high = high;
      sum_below = λ a b. mod-lt (a + b) some;
      negative_below = λ a. mod-lt (q - a % q) some;
      product_below = λ a b. mod-lt (a * b) some;
      sum_remainder = λ a b. mod-add-mod a q b;
      negative_remainder = λ a. ap (λ n. (q - n) % q) (mod-mod a q);
      product_remainder = λ a b. product_left q a b;
      sum_assoc =
          λ a b c. mod-add-mod (a + b) q c ∙ ap (λ n. n % q) (add_assoc a b c) ∙ sym (add-mod-mod a (b + c) q);
      sum_comm = λ a b. ap (λ n. n % q) (add_comm a b);
      sum_zero = λ a h. ap (λ n. n % q) (add-zero a) ∙ mod-eq_of_lt h;
      sum_negative = λ a. add-mod-mod a (q - a % q) q ∙ same_negative q a some ∙ zero-mod q;
      product_assoc =
          λ a b c. product_left q (a * b) c ∙ ap (λ n. n % q) (mul_assoc a b c) ∙ sym (product_right q a (b * c));
      product_comm = λ a b. ap (λ n. n % q) (mul_comm a b);
      product_one = λ a h. ap (λ n. n % q) (mul-one a) ∙ mod-eq_of_lt h;
      product_sum =
          λ a b c. product_right q a (b + c) ∙ ap (λ n. n % q) (mul-add a b c) ∙ add-mod (a * b) (a * c) q;
    }

-- The same for the moduli that the code offers.
pub residues_laws_31 : (q : ℕ) → 2 ≤ q → q ≤ 2147483647 → Laws (residues q)
residues_laws_31 q low high = residues_laws q low (omega arith)
