-- What a script keeps beside its lines.
use Rattle.std.specs.Prelude.{◌≡◌, ℕ, ◌^◌, ◌<◌, All, IsTrue, List, length}
use Rattle.script_text.specs.declared.line.Line.{Line}
use Rattle.script_text.specs.declared.index.Index.{Index}
use Rattle.script_text.specs.Faults.{is_ranged}
use Rattle.script_text.specs.Index.{IsIndex, MayStand}

-- its lines are in their ranges, and the index is theirs
pub record IsIndexed (lines : List Line) (index : Index) (instances replicas : ℕ) : Type 0 where
  pub ranged : All (λ line. IsTrue (is_ranged instances replicas line)) lines
  pub indexed : IsIndex lines index
  pub room : length index.lives.changes.items ≡ instances
  pub few : instances < 2 ^ 16
  pub fewer : replicas < 2 ^ 8

-- a line that has no fault after these
pub record MayFollow (lines : List Line) (instances replicas : ℕ) (line : Line) : Type 0 where
  pub ranged : IsTrue (is_ranged instances replicas line)
  pub stands : MayStand lines line
