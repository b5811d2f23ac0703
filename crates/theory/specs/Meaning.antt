-- What a ring means, the laws that every ring keeps, and when a field is lawful.
-- The numbers of a ring have the codes 0 up to the size less one; a code at or above the size counts as its remainder by the size.
use Rattle.std.specs.Prelude.{◌≡◌, ℕ, ◌%◌, ◌^◌, ◌<◌, ◌≤◌, Option, nat_eq}
use Rattle.theory.specs.First.{first}

pub record Meaning : Type 0 where
  pub size : ℕ
  pub sum : ℕ → ℕ → ℕ
  pub negative : ℕ → ℕ
  pub product : ℕ → ℕ → ℕ

pub record Laws (m : Meaning) : Type 0 where
  pub size_low : 2 ≤ m.size
  pub size_high : m.size < 2 ^ 62
  pub sum_below : (a b : ℕ) → m.sum a b < m.size
  pub negative_below : (a : ℕ) → m.negative a < m.size
  pub product_below : (a b : ℕ) → m.product a b < m.size
  pub sum_remainder : (a b : ℕ) → m.sum (a % m.size) b ≡ m.sum a b
  pub negative_remainder : (a : ℕ) → m.negative (a % m.size) ≡ m.negative a
  pub product_remainder : (a b : ℕ) → m.product (a % m.size) b ≡ m.product a b
  pub sum_assoc : (a b c : ℕ) → m.sum (m.sum a b) c ≡ m.sum a (m.sum b c)
  pub sum_comm : (a b : ℕ) → m.sum a b ≡ m.sum b a
  pub sum_zero : (a : ℕ) → a < m.size → m.sum a 0 ≡ a
  pub sum_negative : (a : ℕ) → m.sum a (m.negative a) ≡ 0
  pub product_assoc : (a b c : ℕ) → m.product (m.product a b) c ≡ m.product a (m.product b c)
  pub product_comm : (a b : ℕ) → m.product a b ≡ m.product b a
  pub product_one : (a : ℕ) → a < m.size → m.product a 1 ≡ a
  pub product_sum : (a b c : ℕ) → m.product a (m.sum b c) ≡ m.sum (m.product a b) (m.product a c)

-- Every number but 0 has an inverse.
abbrev pub Lawful : Meaning → Type 0
Lawful m = (a : ℕ) → 0 < a → a < m.size → (b : ℕ) × (m.product a b ≡ 1)

-- The b below the size whose product with a is 1, where there is one (then there is no other).
abbrev pub inverse : Meaning → ℕ → Option ℕ
inverse m a = first (λ b. nat_eq (m.product a b) 1) 0 m.size
