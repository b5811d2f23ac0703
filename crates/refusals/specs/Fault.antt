-- A fault of the layers below, as the refusal that it comes to in rooting.
use Rattle.std.specs.Prelude.{cond, eqb}
use Rattle.joining.specs.declared.JoiningFault.{JoiningFault}
use Rattle.joining.specs.declared.JoiningFault.TheVariants.{NoInverse, NoRank}
use Rattle.refusals.specs.declared.Layer.TheVariants.{Ring, Joining}
use Rattle.refusals.specs.declared.Refusal.{Refusal}
use Rattle.refusals.specs.declared.Refusal.TheVariants.{Unlawful}

-- An inverse is taken in step 6; a ladder by 2 belongs to step 3, any other to step 4.
abbrev pub refused_by : JoiningFault → Refusal
refused_by (NoInverse a) = Unlawful Ring 6 a
refused_by (NoRank by code) = Unlawful Joining (cond (eqb by 2) 3 4) code
