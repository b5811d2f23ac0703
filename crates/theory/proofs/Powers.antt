-- Powers and ladders in any joining.
use Rattle.std.proofs.Common.{◌≡◌, ℕ, zero, suc, ◌+◌, ◌*◌, ◌^◌, sym, refl, ap, ◌∙◌, add-zero, add-suc, mul_comm, pow-suc, mul-zero, mul-suc}
use native.Mathlib.Nat.{pow-zero}
use Rattle.theory.specs.Operation.{Operation, OperationLaws, pow, rung}

-- the clauses of pow and rung, for use where they stay shut
pub pow_0 : {E : Type 0} (o : Operation E) (x : E) → pow o x 0 ≡ o.neutral
unfolding pow
pow_0 o x = refl

pub pow_suc_is : {E : Type 0} (o : Operation E) (x : E) (k : ℕ) → pow o x (suc k) ≡ o.join (pow o x k) x
unfolding pow
pow_suc_is o x k = refl

pub rung_0 : {E : Type 0} (o : Operation E) (x : E) (r : ℕ) → rung o x r 0 ≡ o.join o.neutral x
unfolding rung
rung_0 o x r = refl

pub rung_suc : {E : Type 0} (o : Operation E) (x : E) (r k : ℕ) → rung o x r (suc k) ≡ pow o (rung o x r k) r
unfolding rung
rung_suc o x r k = refl

-- the power 1 is what x counts as
pub pow_one : {E : Type 0} (o : Operation E) (x : E) → pow o x 1 ≡ o.join o.neutral x
unfolding pow
pow_one o x = refl

module _ {E : Type 0} (o : Operation E) (laws : OperationLaws o) where
  -- a power is a result of joining, so the neutral element leaves it
  pub neutral_pow : (x : E) (k : ℕ) → o.join o.neutral (pow o x k) ≡ pow o x k
  unfolding pow
  neutral_pow x zero = laws.neutral_neutral
  neutral_pow x (suc k) = laws.neutral_join (pow o x k) x

  pub pow_neutral : (x : E) (k : ℕ) → o.join (pow o x k) o.neutral ≡ pow o x k
  pow_neutral x k = laws.comm (pow o x k) o.neutral ∙ neutral_pow x k

  -- every power of the neutral element is the neutral element
  pub pow_of_neutral : (k : ℕ) → pow o o.neutral k ≡ o.neutral
  unfolding pow
  pow_of_neutral zero = refl
  pow_of_neutral (suc k) = ap (λ y. o.join y o.neutral) (pow_of_neutral k) ∙ laws.neutral_neutral

  -- the middle two of four change places
  pub swap_middle : (a b c d : E) → o.join (o.join a b) (o.join c d) ≡ o.join (o.join a c) (o.join b d)
  swap_middle a b c d =
      laws.assoc a b (o.join c d)
      ∙ ap (o.join a) (sym (laws.assoc b c d) ∙ ap (λ y. o.join y d) (laws.comm b c) ∙ laws.assoc c b d)
      ∙ sym (laws.assoc a c (o.join b d))

  pub pow_add : (x : E) (a b : ℕ) → pow o x (a + b) ≡ o.join (pow o x a) (pow o x b)
  unfolding pow
  pow_add x a zero = ap (pow o x) (add-zero a) ∙ sym (pow_neutral x a)
  pow_add x a (suc b) =
      ap (pow o x) (add-suc a b) ∙ ap (λ y. o.join y x) (pow_add x a b) ∙ laws.assoc (pow o x a) (pow o x b) x

  pub pow_mul : (x : E) (a b : ℕ) → pow o (pow o x a) b ≡ pow o x (a * b)
  unfolding pow
  pow_mul x a zero = sym (ap (pow o x) (mul-zero a))
  pow_mul x a (suc b) =
      ap (λ y. o.join y (pow o x a)) (pow_mul x a b) ∙ sym (pow_add x (a * b) a) ∙ sym (ap (pow o x) (mul-suc a b))

  -- two powers one after the other, in either order
  pub pow_swap : (x : E) (a b : ℕ) → pow o (pow o x a) b ≡ pow o (pow o x b) a
  pow_swap x a b = pow_mul x a b ∙ ap (pow o x) (mul_comm a b) ∙ sym (pow_mul x b a)

  pub pow_join : (x y : E) (k : ℕ) → pow o (o.join x y) k ≡ o.join (pow o x k) (pow o y k)
  unfolding pow
  pow_join x y zero = sym laws.neutral_neutral
  pow_join x y (suc k) = ap (λ z. o.join z (o.join x y)) (pow_join x y k) ∙ swap_middle (pow o x k) (pow o y k) x y

  -- what an element counts as has its powers
  pub pow_reduced : (x : E) (k : ℕ) → pow o (o.join o.neutral x) k ≡ pow o x k
  unfolding pow
  pow_reduced x zero = refl
  pow_reduced x (suc k) =
      ap (λ y. o.join y (o.join o.neutral x)) (pow_reduced x k)
      ∙ sym (laws.assoc (pow o x k) o.neutral x)
      ∙ ap (λ y. o.join y x) (pow_neutral x k)

  -- what an element counts as joins as the element does
  pub join_reduced : (x y : E) → o.join (o.join o.neutral x) y ≡ o.join x y
  join_reduced x y = laws.assoc o.neutral x y ∙ laws.neutral_join x y

  -- rung k is the power r ^ k
  pub rung_is : (x : E) (r k : ℕ) → rung o x r k ≡ pow o x (r ^ k)
  unfolding rung
  rung_is x r zero = sym (ap (pow o x) (pow-zero r) ∙ pow_one o x)
  rung_is x r (suc k) =
      ap (λ y. pow o y r) (rung_is x r k) ∙ pow_mul x (r ^ k) r ∙ sym (ap (pow o x) (pow-suc r k))

  pub rung_is_reduced : (x : E) (r k : ℕ) → rung o x r k ≡ pow o (o.join o.neutral x) (r ^ k)
  rung_is_reduced x r k = rung_is x r k ∙ sym (pow_reduced x (r ^ k))

  -- a rung is a result of joining
  pub neutral_rung : (x : E) (r k : ℕ) → o.join o.neutral (rung o x r k) ≡ rung o x r k
  neutral_rung x r k = ap (o.join o.neutral) (rung_is x r k) ∙ neutral_pow x (r ^ k) ∙ sym (rung_is x r k)

  -- the ladder may begin at what x counts as
  pub rung_reduced : (x : E) (r k : ℕ) → rung o (o.join o.neutral x) r k ≡ rung o x r k
  rung_reduced x r k = rung_is (o.join o.neutral x) r k ∙ pow_reduced x (r ^ k) ∙ sym (rung_is x r k)

  -- the ladder from the power a of x
  pub rung_pow : (x : E) (a r k : ℕ) → rung o (pow o x a) r k ≡ pow o x (a * r ^ k)
  rung_pow x a r k = rung_is (pow o x a) r k ∙ pow_mul x a (r ^ k)

  -- the ladder goes on from any of its rungs
  pub rung_add : (x : E) (r a b : ℕ) → rung o (rung o x r a) r b ≡ rung o x r (a + b)
  unfolding rung
  rung_add x r a zero = neutral_rung x r a ∙ sym (ap (rung o x r) (add-zero a))
  rung_add x r a (suc b) = ap (λ y. pow o y r) (rung_add x r a b) ∙ sym (ap (rung o x r) (add-suc a b))

  -- an element is spent as its power 1, and as its rung 0
  pub spent_one : (x : E) → o.spent (pow o x 1) ≡ o.spent x
  spent_one x = ap o.spent (pow_one o x) ∙ laws.spent_join x

  pub spent_rung_0 : (x : E) (r : ℕ) → o.spent (rung o x r 0) ≡ o.spent x
  spent_rung_0 x r = ap o.spent (rung_0 o x r) ∙ laws.spent_join x
