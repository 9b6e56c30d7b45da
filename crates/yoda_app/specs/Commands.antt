-- What a command may answer. The frame is the same for each command: it reads its inputs in order, judges them, makes
-- its texts, and writes its outputs in order. Every exit status has its cause here. Names and texts are lists of bytes.
use Rattle.std.specs.Prelude.{◌≡◌, ◌≢◌, ◌⊎◌, ◌↔◌, ℕ, Bool, false, List, [], ◌∷◌, ◌++◌, Option, None, Some, Contains, codes}
use Rattle.std.specs.List.{AllByRecursion}
use Rattle.std.specs.Option.{option_map_or}
use Rattle.common.specs.Causes.{Rose}
use Rattle.plain_run.specs.Loading.{IsReadFault}
use Rattle.plain_run.specs.declared.fault.LoadFault.{LoadFault}
use Rattle.plain_run.specs.declared.fault.LoadFault.TheVariants.{Read}
use Rattle.shelf.specs.Changes.{Change, held, AreTold}
use Rattle.shelf.specs.Shelf.{Contents, SameOthers}
use Rattle.shelf.specs.declared.outside.Kind.TheVariants.{Reading, Writing}
use Rattle.yoda_app.specs.Refusals.{status_of, refusal_text, memory_text}
use Rattle.yoda_app.specs.Written.{longer, AddsPart, written, HoldsPart}

-- a command, by the names that its words give
pub record Command : Type 1 where
  -- the names that it reads and those that it writes, in their order
  pub inputs : List (List ℕ)
  pub outputs : List (List ℕ)
  -- by what each name holds: why it is refused, if it is
  pub refusal : (List ℕ → List ℕ) → Option LoadFault
  -- .. and whether these are the texts that it writes, one for each output
  pub Gives : (List ℕ → List ℕ) → List (List ℕ) → Type 0

-- standard error
abbrev pub error_name : List ℕ
error_name = codes "!"

-- but for standard error no content was changed
abbrev pub IsUntouched : Change → Type 0
IsUntouched s = SameOthers error_name s.old s.new

-- the bytes of a line were added, or their beginning and there was a fault
pub record Says (old new : Option (List ℕ)) (before now : ℕ) (bytes : List ℕ) : Type 0 where
  pub part : AddsPart old new bytes
  pub all : (new ≡ longer old bytes) ⊎ Rose before now

-- the line of a text was added to standard error; a fault in that changes nothing else
abbrev pub SaysLine : Change → List ℕ → Type 0
SaysLine s text =
    Says (s.old error_name) (s.new error_name) (s.before Writing error_name) (s.now Writing error_name) (codes "yoda: " ++ text ++ codes "\n")

abbrev pub usage_text : List ℕ
usage_text = codes "usage: plain RULES TRACE SCRIPT OUT REPORT, run RULES TRACE SCRIPT OUT REPORT JOURNAL, drive FLOWS BYTES NUMBER, dump TRACE"

-- each output was started and holds its text
abbrev pub AllWritten : List (List ℕ) → List (List ℕ) → Contents → Contents → Type 0
AllWritten [] [] old new = Unit {0}
AllWritten (name ∷ names) (text ∷ texts) old new = (new name ≡ written name (old name) text) × AllWritten names texts old new
AllWritten _ _ old new = ⊥

-- the outputs before this one hold their texts, this one a beginning of its text, and those behind it are as they were
abbrev pub StoppedAt : List ℕ → List (List ℕ) → List (List ℕ) → Contents → Contents → Type 0
StoppedAt stop (name ∷ names) (text ∷ texts) old new =
    ((stop ≡ name) × HoldsPart name (old name) (new name) text × AllByRecursion (λ n. new n ≡ old n) names)
    ⊎ ((new name ≡ written name (old name) text) × StoppedAt stop names texts old new)
StoppedAt stop _ _ old new = ⊥

-- the command was done
pub record IsDone (c : Command) (s : Change) : Type 0 where
  pub accepted : AreTold s.old c.inputs → c.refusal (held s.old) ≡ None
  pub outputs : AreTold s.old c.inputs → (texts : List (List ℕ)) × c.Gives (held s.old) texts × AllWritten c.outputs texts s.old s.new

-- this output had a fault, and nothing was refused before
pub record IsWriteFault (c : Command) (s : Change) (name : List ℕ) : Type 0 where
  pub named : Contains c.outputs name
  pub rose : Rose (s.before Writing name) (s.now Writing name)
  pub accepted : AreTold s.old c.inputs → c.refusal (held s.old) ≡ None
  pub outputs : AreTold s.old c.inputs → (texts : List (List ℕ)) × c.Gives (held s.old) texts × StoppedAt name c.outputs texts s.old s.new

-- this is why the command is refused, and no output was changed
pub record IsRefused (c : Command) (s : Change) (f : LoadFault) : Type 0 where
  pub cause : AreTold s.old c.inputs → c.refusal (held s.old) ≡ Some f
  pub untouched : IsUntouched s

-- no count rose at an input or an output
pub record IsQuiet (c : Command) (s : Change) : Type 0 where
  pub inputs : (n : List ℕ) → Contains c.inputs n → Rose (s.before Reading n) (s.now Reading n) → ⊥
  pub outputs : (n : List ℕ) → Contains c.outputs n → Rose (s.before Writing n) (s.now Writing n) → ⊥

-- what a command with right words answers and leaves. Status 9, want of memory, may
-- come in place of each status but 2 and 4.
pub record IsOutcome (c : Command) (s : Change) (status : ℕ) : Type 0 where
  pub statuses :
      (status ≡ 0) ⊎ (status ≡ 3) ⊎ (status ≡ 4) ⊎ (status ≡ 5) ⊎ (status ≡ 6) ⊎ (status ≡ 7) ⊎ (status ≡ 8) ⊎ (status ≡ 9)
  pub done : status ≡ 0 → IsDone c s
  pub silent : status ≡ 0 → s.new error_name ≡ s.old error_name
  pub read_fault : status ≡ 3 → (n : List ℕ) × IsReadFault c.inputs s n × IsUntouched s × SaysLine s (refusal_text (Read n))
  pub write_fault : status ≡ 4 → (n : List ℕ) × IsWriteFault c s n × SaysLine s (codes "write fault: " ++ n)
  pub refused : (status ≡ 5) ⊎ (status ≡ 6) ⊎ (status ≡ 7) ⊎ (status ≡ 8) → (f : LoadFault) × (status ≡ status_of f) × IsRefused c s f × SaysLine s (refusal_text f)
  pub no_memory : status ≡ 9 → IsUntouched s × SaysLine s memory_text
  -- where it is refused, nothing else comes but a fault of reading before, or want of memory
  pub only : AreTold s.old c.inputs → (f : LoadFault) → c.refusal (held s.old) ≡ Some f → (status ≡ 3) ⊎ (status ≡ 9) ⊎ (status ≡ status_of f)
  -- where nothing failed, the status is the one that the judgement gives
  pub complete : AreTold s.old c.inputs → IsQuiet c s → (status ≡ 9) ⊎ (status ≡ option_map_or status_of (c.refusal (held s.old)) 0)
  -- but for the outputs and standard error no content was changed
  pub elsewhere : (n : List ℕ) → n ≢ error_name → (Contains c.outputs n → ⊥) → s.new n ≡ s.old n

-- what is answered by whether the words are right: where they are not, nothing is read or written but the line
pub record IsUsage (right : Bool) (s : Change) (status : ℕ) : Type 0 where
  pub exactly : (status ≡ 2) ↔ (right ≡ false)
  pub says : status ≡ 2 → SaysLine s usage_text
  pub untouched : status ≡ 2 → IsUntouched s

-- ---- words of code and proofs

-- the line of a text
abbrev pub line : List ℕ → List ℕ
line text = codes "yoda: " ++ text ++ codes "\n"

-- none of these names was changed
abbrev pub AllKept : List (List ℕ) → Contents → Contents → Type 0
AllKept names old new = AllByRecursion (λ n. new n ≡ old n) names
