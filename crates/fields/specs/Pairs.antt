-- The pairs as a value of the program, and what they mean.
use Rattle.std.specs.Prelude.{◌≡◌, ℕ, ◌%◌, ◌≤◌, Ok, Err, Result, ◌≢◌}
use Rattle.refusals.specs.declared.Refusal.{Refusal}
use Rattle.refusals.specs.declared.Refusal.TheVariants.{Modulus}
use Rattle.fields.specs.declared.pairs.Pairs.{Pairs}
use Rattle.theory.specs.Meaning.{Meaning}
use Rattle.theory.specs.Pairs.{pairs}

abbrev pub of_pairs : Pairs → Meaning
of_pairs r = pairs r.base.q

-- What making the pairs modulo p answers: they mean what they should, or p is outside 3 to 2,147,483,647 or does not leave 3 on division by 4.
abbrev pub PairsMade : ℕ → Result Pairs Refusal → Type 0
PairsMade p (Ok f) = (3 ≤ p) × (p ≤ 2147483647) × (p % 4 ≡ 3) × (of_pairs f ≡ pairs p)
PairsMade p (Err e) = (e ≡ Modulus) × (3 ≤ p → p ≤ 2147483647 → p % 4 ≢ 3)
