use Rattle.replica_cell.proofs.Tables.{steps_by_table}
use Rattle.replica_cell.proofs.laws.step_table.Goals as goal

pub returns : goal.returns
returns c = steps_by_table
