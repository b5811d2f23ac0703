use Rattle.std.proofs.Common.{◌≡◌}
use Rattle.std.proofs.lemmas.List.Elements.{same_from_all_zip}
use Rattle.nine_laws.proofs.NineLaws.{nine_lawful}
use Rattle.nine_laws.specs.Nine.{sums}
use Rattle.nine.proofs.Nine.new.Goals as goal

pub returns-in_err-table-clause-lawful : goal.returns-in_err-table-clause-lawful
returns-in_err-table-clause-lawful c = nine_lawful

-- The rows one after another are the table.
pub invariant_of-result : goal.invariant_of-result
unfolding sums
invariant_of-result c =
    record { holds = same_from_all_zip (λ x y. y ≡ x) sums _ c.in_ok-table.ensures.ok (λ x y same. same) }

pub returns-clause-lawful : goal.returns-clause-lawful
returns-clause-lawful c = nine_lawful
