-- How a command with right words ends, before its line is said.
use Rattle.std.specs.Prelude.{◌≡◌, ℕ, List, ◌++◌, Contains, Result, Ok, Err, codes}
use Rattle.std.specs.String.{string_bytes}
use Rattle.common.specs.Causes.{Rose}
use Rattle.plain_run.specs.Found.{IsFault}
use Rattle.plain_run.specs.Loading.{IsReadFault}
use Rattle.plain_run.specs.declared.fault.LoadFault.{LoadFault}
use Rattle.shelf.specs.Changes.{Change}
use Rattle.shelf.specs.Shelf.{SameContents}
use Rattle.shelf.specs.declared.outside.Kind.TheVariants.{Writing}
use Rattle.yoda_app.specs.Commands.{Command, StoppedAt, IsUntouched, IsDone, IsWriteFault, IsRefused}
use Rattle.yoda_app.specs.Refusals.{status_of, refusal_text, memory_text}
use Rattle.yoda_app.specs.declared.ending.Stop.{Stop}
use Rattle.yoda_app.specs.declared.ending.Stop.TheVariants.{Memory, Unloaded, Write}

-- this input, which was not sure, had a fault, and no output was changed
pub record IsInputFault (c : Command) (s : Change) (name : List ℕ) : Type 0 where
  pub fault : IsReadFault c.inputs s name
  pub untouched : IsUntouched s

-- what holds where the inputs were not taken for this cause
abbrev pub IsUnloaded : Command → Change → LoadFault → Type 0
IsUnloaded c s fault = IsFault (IsInputFault c s) (IsUntouched s) (IsRefused c s) fault

-- what holds where it stopped so
abbrev pub IsStop : Command → Change → Stop → Type 0
IsStop c s Memory = SameContents s.old s.new
IsStop c s (Unloaded f text) = IsUnloaded c s f × (string_bytes text ≡ refusal_text f)
IsStop c s (Write name) = IsWriteFault c s name.now

-- what holds where it ended so
abbrev pub IsEnd : Command → Change → Result (Unit {0}) Stop → Type 0
IsEnd c s (Ok done) = IsDone c s
IsEnd c s (Err stop) = IsStop c s stop

abbrev pub stop_status : Stop → ℕ
stop_status Memory = 9
stop_status (Unloaded f text) = status_of f
stop_status (Write name) = 4

-- the text of its line
abbrev pub stop_text : Stop → List ℕ
stop_text Memory = memory_text
stop_text (Unloaded f text) = string_bytes text
stop_text (Write name) = codes "write fault: " ++ name.now

abbrev pub end_status : Result (Unit {0}) Stop → ℕ
end_status (Ok done) = 0
end_status (Err stop) = stop_status stop

-- what tells why the inputs were not taken, where there is memory for its text
abbrev pub Tells : LoadFault → Stop → Type 0
Tells f Memory = Unit {0}
Tells f (Unloaded g text) = (g ≡ f) × (string_bytes text ≡ refusal_text f)
Tells f (Write name) = ⊥

-- what a writing to this name stops with: a fault at the name
abbrev pub StopsWriting : Change → List ℕ → Stop → Type 0
StopsWriting s name (Write n) = (n.now ≡ name) × Rose (s.before Writing name) (s.now Writing name)
StopsWriting s name _ = ⊥

-- what the writing of these texts to these outputs stops with: a fault at one of them
abbrev pub StopsAmong : Change → List (List ℕ) → List (List ℕ) → Stop → Type 0
StopsAmong s outputs texts (Write n) =
    Contains outputs n.now × Rose (s.before Writing n.now) (s.now Writing n.now) × StoppedAt n.now outputs texts s.old s.new
StopsAmong s outputs texts _ = ⊥
