use Rattle.store_walk.proofs.Causes.{absent_cause, down_cause}
use Rattle.store_walk.proofs.laws.ask_laws.Goals as goal

pub returns-clause-absent : goal.returns-clause-absent
returns-clause-absent c = absent_cause

pub returns-clause-down : goal.returns-clause-down
returns-clause-down c = down_cause
