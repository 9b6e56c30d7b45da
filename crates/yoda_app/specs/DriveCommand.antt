-- The command `drive`: a generated run is made, and its summary goes to standard output.
use Rattle.std.specs.Prelude.{◌≡◌, ℕ, List, [], ◌∷◌, ◌++◌, None, codes}
use Rattle.std.specs.Fmt.{decimal}
use Rattle.world_model.specs.Acks.{AcksAreBacked}
use Rattle.world_model.specs.Reached.{IsReached}
use Rattle.world_model.specs.Schedule.{driven}
use Rattle.world_model.specs.Streams.{StreamsAgree}
use Rattle.world_model.specs.Summaries.{summary_of}
use Rattle.world_model.specs.World.{World}
use Rattle.world_model.specs.declared.summary.Summary.{Summary}
use Rattle.yoda_app.specs.Commands.{Command}
use Rattle.yoda_app.specs.DriveWords.{drive_numbers}
use Rattle.yoda_app.specs.declared.drive_words.DriveNumbers.{DriveNumbers}

abbrev pub flows_line : Summary → List ℕ
flows_line s = codes "flows " ++ decimal s.flows ++ codes " closed " ++ decimal s.closed ++ codes " open " ++ decimal s.«open» ++ codes " reset " ++ decimal s.reset ++ codes "\n"

abbrev pub bytes_lines : Summary → List ℕ
bytes_lines s = codes "to servers " ++ decimal s.to_servers ++ codes "\nto clients " ++ decimal s.to_clients ++ codes "\n"

abbrev pub summary_text : Summary → List ℕ
summary_text s = flows_line s ++ bytes_lines s

-- the world that the schedule with these numbers leads to
abbrev pub world_of : DriveNumbers → World
world_of n = driven n.flows n.bytes n.number

-- this is the text of a generated run
pub record IsDriven (n : DriveNumbers) (texts : List (List ℕ)) : Type 0 where
  pub are : texts ≡ summary_text (summary_of n.flows (world_of n)) ∷ []
  -- and with it what holds of its world: a run leads to it, its streams agree, and what is acknowledged is backed
  pub reached : IsReached (world_of n)
  pub agree : StreamsAgree (world_of n)
  pub backed : AcksAreBacked (world_of n)

-- the command over these numbers: it reads nothing, and nothing is refused
abbrev pub drive_over : DriveNumbers → Command
drive_over n = record {
  inputs = [];
  outputs = codes "-" ∷ [];
  refusal = λ holds. None;
  Gives = λ holds texts. IsDriven n texts;
}

-- the command that the words give
abbrev pub drive_command : List (List ℕ) → Command
drive_command words = drive_over (drive_numbers words)
