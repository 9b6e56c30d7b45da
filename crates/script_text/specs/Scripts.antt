-- What contracts see of a script, and what holds of every one.
use Rattle.std.specs.Prelude.{ℕ, All, IsTrue, List}
use Rattle.script_text.specs.declared.line.Line.{Line}
use Rattle.script_text.specs.Faults.{is_ranged}
use Rattle.script_text.specs.Reading.{Sizes}

-- its lines, and the numbers of instances and replicas that it was read with
pub record ScriptView : Type 0 where
  pub lines : List Line
  pub sizes : Sizes

abbrev pub sizes_of : ℕ → ℕ → Sizes
sizes_of instances replicas = record { instances = instances; replicas = replicas }

abbrev pub script_of : List Line → ℕ → ℕ → ScriptView
script_of lines instances replicas = record { lines = lines; sizes = sizes_of instances replicas }

-- the numbers of its lines are in their ranges
pub record IsScript (script : ScriptView) : Type 0 where
  pub ranged : All (λ line. IsTrue (is_ranged script.sizes.instances script.sizes.replicas line)) script.lines
