-- Pairs modulo p: the number x + y·i, with i × i the negative of 1, has the code x + p × y.
use Rattle.std.specs.Prelude.{ℕ, ◌+◌, ◌-◌, ◌*◌, ◌/◌, ◌%◌}
use Rattle.theory.specs.Meaning.{Meaning}

-- the two parts of a code, which counts as its remainder by p × p
abbrev pub real : ℕ → ℕ → ℕ
real p a = a % p

abbrev pub imaginary : ℕ → ℕ → ℕ
imaginary p a = a / p % p

abbrev pub pair : ℕ → ℕ → ℕ → ℕ
pair p x y = x % p + p * (y % p)

abbrev pub pairs : ℕ → Meaning
pairs p = record {
  size = p * p;
  sum = λ a b. pair p (real p a + real p b) (imaginary p a + imaginary p b);
  negative = λ a. pair p (p - real p a) (p - imaginary p a);
  product = λ a b.
      pair p (real p a * real p b + (p * p - imaginary p a * imaginary p b))
      (real p a * imaginary p b + imaginary p a * real p b);
}
