-- The joinings of ladders: the count in an answer, and how large it can be.
use Rattle.std.proofs.Common.{◌≡◌, ℕ, ◌+◌, ◌*◌, ◌≤◌, Some, None, Ok, Err, Option, Result, sym, refl, ap, ◌∙◌, le_refl, mul-le-mul_right, arith}
use Rattle.theory.specs.Numbers.{joinings}
use Rattle.theory.specs.Operation.{Operation, pow, rung, rank}
use Rattle.theory.proofs.Search.{first_found}
use Rattle.joining.specs.declared.Back.{Back}
use Rattle.joining.specs.declared.JoiningFault.{JoiningFault}
use Rattle.joining.specs.Ladder.{laddered, laddered_at, ladder_joinings, ladder_joinings_at, with_power, climbed, climb_joinings}

abbrev count_of : {E : Type 0} → Result (Option E × ℕ) JoiningFault → ℕ
count_of (Ok found) = found.1
count_of (Err fault) = 0

module _ {E : Type 0} (o : Operation E) (by length : ℕ) where
  -- a rank is at most the length
  pub rank_within : (x : E) (k : ℕ) → rank o x by length ≡ Some k → k ≤ length
  rank_within x k e = omega (arith, (first_found (λ i. o.spent (rung o x by i)) 0 _ k e).within)

  -- No ladder takes more than the joinings of all its rungs.
  pub ladder_joinings_le : (x : E) → ladder_joinings o x by length ≤ length * joinings by
  ladder_joinings_le x = at (rank o x by length) (rank_within x)
    where
      at : (found : Option ℕ) → ((k : ℕ) → found ≡ Some k → k ≤ length) → ladder_joinings_at by length found ≤ length * joinings by
      at None within = le_refl (length * joinings by)
      at (Some k) within = mul-le-mul_right (joinings by) (within k refl)

  pub climb_joinings_le : (code exponent : ℕ) → climb_joinings o code exponent by length ≤ joinings exponent + length * joinings by
  climb_joinings_le code exponent = omega (arith, ladder_joinings_le (pow o (o.element code) exponent))

  -- The count in an answer is the number of joinings.
  pub laddered_count : (x : E) (back : Back) (code : ℕ) (found : Option E × ℕ) → laddered o x by length back code ≡ Ok found
      → found.1 ≡ ladder_joinings o x by length
  laddered_count x back code found = at (rank o x by length)
    where
      at : (r : Option ℕ) → laddered_at o x by back code r ≡ Ok found → found.1 ≡ ladder_joinings_at by length r
      at None e = let z : ◌≡◌ {A = ℕ} 0 1 = cc in absurd (omega arith)
      at (Some k) e = sym (ap count_of e)

  pub climbed_count : (code exponent : ℕ) (back : Back) (found : Option E × ℕ) → climbed o code exponent by length back ≡ Ok found
      → found.1 ≡ climb_joinings o code exponent by length
  climbed_count code exponent back found = at (laddered o (pow o (o.element code) exponent) by length back code) refl
    where
      at : (r : Result (Option E × ℕ) JoiningFault) → laddered o (pow o (o.element code) exponent) by length back code ≡ r
          → with_power (joinings exponent) r ≡ Ok found → found.1 ≡ climb_joinings o code exponent by length
      at (Err fault) is e = let z : ◌≡◌ {A = ℕ} 0 1 = cc in absurd (omega arith)
      at (Ok f) is e =
          sym (ap count_of e)
          ∙ ap (λ i. joinings exponent + i) (laddered_count (pow o (o.element code) exponent) back code f is)
