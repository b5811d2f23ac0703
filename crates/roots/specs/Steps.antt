-- What a function that makes some of the steps of rooting answers.
use Rattle.std.specs.Prelude.{ℕ, ◌-◌, ◌*◌, cond, Some, None, Ok, Err, Option, Result}
use Rattle.theory.specs.Meaning.{Meaning}
use Rattle.theory.specs.Numbers.{joinings}
use Rattle.theory.specs.Operation.{ratios}
use Rattle.theory.specs.declared.Ratio.{Ratio}
use Rattle.joining.specs.Ladder.{climbed}
use Rattle.joining.specs.declared.Back.{Back}
use Rattle.joining.specs.declared.JoiningFault.{JoiningFault}
use Rattle.refusals.specs.declared.Layer.TheVariants.{Search}
use Rattle.refusals.specs.declared.Refusal.{Refusal}
use Rattle.refusals.specs.declared.Refusal.TheVariants.{Unlawful}
use Rattle.roots.specs.declared.begin.Begun.{Begun}
use Rattle.roots.specs.declared.begin.Begun.TheVariants.{Root, Kept}
use Rattle.roots.specs.Rooting.{Steps, refused_by, squares}

-- a fault, as a refusal
abbrev pub passed_on : {A : Type 0} → Result A JoiningFault → Result A Refusal
passed_on (Err fault) = Err (refused_by fault)
passed_on (Ok a) = Ok a

-- where the steps are not refused, what they come to, with the joinings made
abbrev pub counted : {A : Type 0} → Steps A → Result (A × ℕ) Refusal
counted steps = elim steps.outcome [ Err why ↦ Err why | Ok found ↦ Ok (found, steps.made) ]

-- How step 2 ends at the code g that it finds, with the joinings made for the codes up to there; or that it finds none.
abbrev pub begins : Meaning → ℕ → ℕ → Option ℕ → Result (Begun × ℕ) Refusal
begins m t mark None = Err (Unlawful Search 2 0)
begins m t mark (Some g) = cond (squares m mark g) (Ok (Root g, (g - 1) * joinings (2 * t))) (Ok (Kept g, g * joinings (2 * t)))

-- The rung to which the ladder from the power `exponent` of [g] leads, with the joinings made; a ladder without rank is a refusal.
abbrev pub rung_at : Meaning → ℕ → ℕ → ℕ → ℕ → ℕ → Back → Result (Option Ratio × ℕ) Refusal
rung_at m mark g exponent by length back = passed_on (climbed (ratios m mark) g exponent by length back)
