-- Joinings: each is a commutative, associative operation with a neutral element and a test for spent elements; powers and ladders of its elements.
use Rattle.std.specs.Prelude.{◌≡◌, ℕ, zero, suc, ◌-◌, ◌%◌, Bool, true, cond, Some, None, Option, ◌==◌, nat_le}
use Rattle.theory.specs.Meaning.{Meaning}
use Rattle.theory.specs.First.{first}
use Rattle.theory.specs.declared.Ratio.{Ratio}

pub record Operation (E : Type 0) : Type 0 where
  pub neutral : E
  pub join : E → E → E
  pub spent : E → Bool
  -- the element that a code stands for
  pub element : ℕ → E

-- The laws. An element that is no result of joining, as a code at or above the size, counts as what it gives with the neutral element.
pub record OperationLaws {E : Type 0} (j : Operation E) : Type 0 where
  pub comm : (a b : E) → j.join a b ≡ j.join b a
  pub assoc : (a b c : E) → j.join (j.join a b) c ≡ j.join a (j.join b c)
  pub neutral_join : (a b : E) → j.join j.neutral (j.join a b) ≡ j.join a b
  pub neutral_neutral : j.join j.neutral j.neutral ≡ j.neutral
  pub neutral_spent : j.spent j.neutral ≡ true
  pub spent_join : (a : E) → j.spent (j.join j.neutral a) ≡ j.spent a

-- The power k of x: x joined k times, from the neutral element.
unfoldable pub pow : {E : Type 0} → Operation E → E → ℕ → E
pow j x zero = j.neutral
pow j x (suc k) = j.join (pow j x k) x

-- The ladder from x by r: x itself, and then each the power r of the one before.
unfoldable pub rung : {E : Type 0} → Operation E → E → ℕ → ℕ → E
rung j x r zero = j.join j.neutral x
rung j x r (suc k) = pow j (rung j x r k) r

-- The rank of the ladder of length f: the least k whose rung is spent, if there is one.
abbrev pub rank : {E : Type 0} → Operation E → E → ℕ → ℕ → Option ℕ
rank j x r f = first (λ k. j.spent (rung j x r k)) 0 (suc f)

-- The rung that stands so many before rung k, where there is one.
abbrev pub before : {E : Type 0} → Operation E → E → ℕ → ℕ → ℕ → Option E
before j x r back k = cond (nat_le back k) (Some (rung j x r (k - back))) None

-- Multiplication: the elements are codes, and only 1 is spent.
abbrev pub multiplication : Meaning → Operation ℕ
multiplication m = record {
  neutral = 1;
  join = m.product;
  spent = λ a. (a % m.size == 1);
  element = λ g. g;
}

-- Ratios for a mark: x : y stands for x + y·X where X × X is the mark, up to a common factor. Spent is what has the bottom 0.
abbrev pub ratio : ℕ → ℕ → Ratio
ratio x y = record { top = x; bottom = y }

abbrev pub ratios : Meaning → ℕ → Operation Ratio
ratios m mark = record {
  neutral = ratio 1 0;
  join =
      λ a b. ratio (m.sum (m.product a.top b.top) (m.product mark (m.product a.bottom b.bottom)))
      (m.sum (m.product a.top b.bottom) (m.product a.bottom b.top));
  spent = λ a. (a.bottom % m.size == 0);
  element = λ g. ratio g 1;
}
