-- Step 1 of rooting: the power (size − 1) / 2 of a mark is 1 exactly where the mark has a root.
use Rattle.std.proofs.Common.{◌≡◌, ℕ, ◌%◌, ◌<◌, true, false, eqb, ◌⊎◌, inl, inr}
use Rattle.std.proofs.lemmas.Bool.{cases_Bool, eqb-true, eqb-false}
use Rattle.theory.specs.Meaning.{Meaning, Laws, Lawful}
use Rattle.theory.specs.Power.{power}
use Rattle.theory.proofs.Euler.{euler_of_square, square_of_euler}
use Rattle.roots.specs.Laws.{NoRoot}
use Rattle.roots.specs.Rooting.{half}

-- Either the test fails and there is no root, or it passes and there is one.
abbrev pub First : Meaning → ℕ → Type 0
First m mark =
    ((eqb (power m mark (half m)) 1 ≡ false) × NoRoot m mark)
    ⊎ ((eqb (power m mark (half m)) 1 ≡ true) × ((α : ℕ) × (α < m.size) × (m.product α α ≡ mark)))

pub first_step : (m : Meaning) → Laws m → Lawful m → m.size % 2 ≡ 1 → (mark : ℕ) → 0 < mark → mark < m.size → First m mark
first_step m laws lawful uneven mark some small = from (cases_Bool (eqb (power m mark (half m)) 1))
  where
    from : (eqb (power m mark (half m)) 1 ≡ true) ⊎ (eqb (power m mark (half m)) 1 ≡ false) → First m mark
    from (inl passes) = inr (passes, square_of_euler m laws lawful uneven mark some small (eqb-true _ 1 passes))
    from (inr fails) = inl (fails, λ x square. eqb-false _ 1 fails (euler_of_square m laws lawful uneven mark some small x square))
