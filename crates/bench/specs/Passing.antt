-- How a segment of a kept flow is passed on without a job, and the rooms for what is passed on.
use Rattle.std.specs.Prelude.{◌≡◌, ℕ, ◌-◌, false, Option, Some, None, List}
use Rattle.std.specs.List.{AllByRecursion}
use Rattle.flow_id.specs.declared.key.Flow.{Flow}
use Rattle.kept_records.specs.Entries.{Entries, in_front, kept_of, owner_of}
use Rattle.kept_records.specs.declared.entry.Kept.{Kept}
use Rattle.job_core.specs.Rooms.{IsReady}
use Rattle.job_core.specs.Table.{to_server_of, to_client_of}
use Rattle.job_core.specs.declared.aim.Aim.{Aim}
use Rattle.job_core.specs.declared.aim.Aim.TheVariants as aim
use Rattle.job_core.specs.declared.verdict.Verdict.TheVariants.{Forwarded}
use Rattle.rule_table.specs.Setups.{SetupView}
use Rattle.tcp_segment.specs.Flags.{has_syn, has_fin, has_rst}
use Rattle.tcp_segment.specs.Sending.{OutsView}
use Rattle.tcp_segment.specs.declared.segment.Segment.{Segment}
use Rattle.bench.specs.declared.call.Reply.{Reply}
use Rattle.bench.specs.declared.call.Reply.TheVariants.{Done}

-- ---- what is kept for a segment
-- the flow that a segment of this aim is of, as far as the entries tell
abbrev pub flow_for : Entries → Aim → Option Flow
flow_for kept (aim.Client flow) = Some flow
flow_for kept (aim.Server server port) = owner_of kept server port
flow_for kept (aim.Odd flags) = None
flow_for kept aim.NotOurs = None

-- the entry is that of the segment's flow
abbrev pub IsFor : Entries → Aim → Flow × Kept → Type 0
IsFor kept a e = (flow_for kept a ≡ Some e.0) × (kept_of kept e.0 ≡ Some e.1)

-- the segment neither opens nor ends a connection
abbrev pub IsMidway : ℕ → Type 0
IsMidway flags = (has_syn flags ≡ false) × (has_fin flags ≡ false) × (has_rst flags ≡ false)

-- the entries once this one was found
abbrev pub found_in : Option (Flow × Kept) → Entries → Entries
found_in None kept = kept
found_in (Some e) kept = in_front kept e.0

-- the segment as it is passed on, to the other side
abbrev pub passed_on : SetupView → Aim → Segment → Kept → Flow → Segment
passed_on setup (aim.Client client) seg found flow = to_server_of setup flow seg found.syn found.opened
passed_on setup (aim.Server server port) seg found flow = to_client_of setup flow seg found.syn found.opened
passed_on setup (aim.Odd flags) seg found flow = to_client_of setup flow seg found.syn found.opened
passed_on setup aim.NotOurs seg found flow = to_client_of setup flow seg found.syn found.opened

-- ---- rooms
abbrev pub AreReady : List OutsView → Type 0
AreReady rooms = AllByRecursion IsReady rooms

-- how many rooms are left of so many after a Take with this reply
abbrev pub rooms_after : ℕ → Reply → ℕ
rooms_after n (Done Forwarded outs) = n - 1
rooms_after n r = n
