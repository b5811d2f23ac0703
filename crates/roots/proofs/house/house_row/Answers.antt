use Rattle.roots.proofs.HouseRule.{house_row_rule}
use Rattle.roots.proofs.Worked.{worked}
use Rattle.roots.proofs.house.house_row.Goals as goal

pub returns : goal.returns
returns c = record { value = c.row_in.ensures; rule = house_row_rule c.args.modulus _ c.row_in.ensures; worked = worked }
