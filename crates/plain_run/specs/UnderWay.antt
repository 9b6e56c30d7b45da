-- A run that is under way, as contracts see it.
use Rattle.std.specs.Prelude.{◌≡◌, ℕ, ◌<◌}
use Rattle.std.specs.List.{filter}
use Rattle.bench.specs.declared.input.inputs.Inputs.{Inputs}
use Rattle.plain_run.specs.Benches.{Benches, AreBenches}
use Rattle.plain_run.specs.Due.{due_at, is_due}
use Rattle.plain_run.specs.declared.due.Due.{Due}

-- its benches, what the script does at each record, and the number of the next record
pub record RunState : Type 0 where
  pub benches : Benches
  pub due : Due
  pub next : ℕ

-- it is a run of these inputs
pub record IsRunOf (inputs : Inputs) (r : RunState) : Type 0 where
  pub benches : AreBenches inputs.setup r.benches
  pub due : (item : ℕ) → item < inputs.records → due_at r.due item ≡ filter (is_due item) inputs.script.lines
