-- What stands in the records of an honest client's flow, on any cell, living or failed, and in any walk, finished or not.
use Rattle.std.specs.Prelude.{◌≡◌, ◌<◌, ℕ, ◌⊎◌, Option, Some, true, false, List, slice_get}
use Rattle.flow_id.specs.Keys.{same_flow}
use Rattle.flow_id.specs.declared.key.Flow.{Flow}
use Rattle.flow_id.specs.declared.key.Key.{Key}
use Rattle.flow_id.specs.declared.key.Key.TheVariants.{Syn, Choice, Port, Open}
use Rattle.flow_record.specs.Records.{is_syn, is_choice, is_port, is_open, asked_key, syn_number, choice_server, port_owner, open_server, open_port, open_number}
use Rattle.flow_record.specs.declared.record.Record.{Record}
use Rattle.job_core.specs.Table.{candidate_of}
use Rattle.replica_cell.specs.Cells.{Replica}
use Rattle.bench.specs.declared.call.Call.{Call}
use Rattle.bench.specs.Bench.{JobState, BenchState, job_at}
use Rattle.bench.specs.Histories.{log_after, Proposes}
use Rattle.seq_space.specs.declared.Num.{Num}
use Rattle.tcp_end.specs.EndState.{EndState}
use Rattle.world_model.specs.Acks.{word_of}
use Rattle.world_model.specs.Openings.{IsOpening}
use Rattle.world_model.specs.Streams.{AdmitsServer, IsEndFor, written_by}
use Rattle.world_model.specs.World.{World, ServerEnd, bench_at}

-- the record is on a cell under the key
pub record OnCell (b : BenchState) (k : Key) (r : Record) : Type 0 where
  pub place : ℕ
  pub cell : Replica
  pub stands : slice_get b.cells place ≡ Some cell
  pub index : ℕ
  pub kept : slice_get cell.pairs index ≡ Some (k, r)

-- a walk of an ask for the key carries the record
pub record InWalk (b : BenchState) (k : Key) (r : Record) : Type 0 where
  pub instance : ℕ
  pub job : JobState
  pub here : job_at b.desks instance ≡ Some job
  pub asks : asked_key job.walk.ask ≡ k
  pub carries : job.walk.carried ≡ Some r

-- ---- what a record says
-- the port is a candidate of the flow's, towards the server of its choice, and each candidate before it is another's
pub record IsPortOf (w : World) (flow : Flow) (server port : ℕ) : Type 0 where
  pub choice : Record
  pub chosen : word_of w flow (Choice flow) ≡ Some choice
  pub of_choice : choice_server choice ≡ server
  pub candidate : ℕ
  pub below : candidate < 8
  pub is_candidate : port ≡ candidate_of w.setup flow candidate
  pub others : (j : ℕ) → j < candidate
      → (other : Record) × (word_of w flow (Port w.setup.service.number server (candidate_of w.setup flow j)) ≡ Some other) × (same_flow (port_owner other) flow ≡ false)

-- the port that it names is the flow's, and the number is the first of the server's end there
pub record IsOpenOf (w : World) (flow : Flow) (r : Record) : Type 0 where
  pub owner : Record
  pub owned : word_of w flow (Port w.setup.service.number (open_server r) (open_port r)) ≡ Some owner
  pub by_flow : port_owner owner ≡ flow
  pub end : ServerEnd
  pub is_end : IsEndFor w flow (open_server r) (open_port r) end
  pub number : open_number r ≡ end.state.first.0

-- A record is of its key's kind: a Syn has the client's first number, a Choice a server that the client's head admits, a Port
-- and an Open what these records say.
abbrev pub SaysOf : World → Flow → Num → Option EndState → Key → Record → Type 0
SaysOf w flow first state (Syn f) r = f ≡ flow → (is_syn r ≡ true) × (syn_number r ≡ first.0)
SaysOf w flow first state (Choice f) r = f ≡ flow → (is_choice r ≡ true) × AdmitsServer w (written_by state) (choice_server r)
SaysOf w flow first state (Port service server port) r = port_owner r ≡ flow → (is_port r ≡ true) × IsPortOf w flow server port
SaysOf w flow first state (Open f) r = f ≡ flow → (is_open r ≡ true) × IsOpenOf w flow r
SaysOf w flow first state _ r = Unit {0}

-- each record on a cell, living or failed, or in a walk
abbrev pub RecordsSay : World → Type 0
RecordsSay w =
    (g k : ℕ) (flow : Flow) (first : Num) (state : Option EndState) (key : Key) (r : Record) → g < w.setup.shards → IsOpening w k flow first state
    → OnCell (bench_at w g) key r ⊎ InWalk (bench_at w g) key r → SaysOf w flow first state key r

-- each record that was proposed in these histories, so in walks that are finished too
abbrev pub ProposalsSay : World → (ℕ → List Call) → Type 0
ProposalsSay w histories =
    (g k : ℕ) (flow : Flow) (first : Num) (state : Option EndState) (key : Key) (r : Record) → g < w.setup.shards → IsOpening w k flow first state
    → Proposes (log_after w.setup g (histories g)) key r → SaysOf w flow first state key r
