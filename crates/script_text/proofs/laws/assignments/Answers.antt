use Rattle.script_text.proofs.AssignLemmas.{assigned_is_living}
use Rattle.script_text.proofs.laws.assignments.Goals as goal

pub returns : goal.returns
returns c = assigned_is_living
