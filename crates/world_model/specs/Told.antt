-- Of which flow is what a call of a bench is done with, told by what the code sees of it: that of which the handling is known
-- to be before the call; or else, where a server's segment or its refusal is answered to the client, that of this client.
use Rattle.std.specs.Prelude.{◌≡◌, ◌≤◌, ℕ, Bool, true, false, Option, Some, None, option_and_then, option_map, List, [], slice_get, if◌then◌else◌}
use Rattle.flow_id.specs.declared.key.Flow.{Flow}
use Rattle.job_core.specs.Aims.{flow_from}
use Rattle.job_core.specs.Jobs.{flow_by}
use Rattle.job_core.specs.declared.verdict.Verdict.{Verdict}
use Rattle.job_core.specs.declared.verdict.Verdict.TheVariants.{Opened, Forwarded, TurnedAway}
use Rattle.rule_table.specs.Setups.{SetupView}
use Rattle.tcp_segment.specs.Sending.{OutsView}
use Rattle.tcp_segment.specs.declared.segment.Segment.{Segment}
use Rattle.bench.specs.Bench.{BenchState, job_at, served}
use Rattle.bench.specs.Histories.{flow_at, flow_of_job}
use Rattle.bench.specs.declared.call.Call.{Call}
use Rattle.bench.specs.declared.call.Call.TheVariants.{Take, Step}
use Rattle.bench.specs.declared.call.Reply.{Reply}
use Rattle.bench.specs.declared.call.Reply.TheVariants as reply
use Rattle.world_model.specs.Outs.{handled_sends}
use Rattle.world_model.specs.Placed.{replied, total}
use Rattle.world_model.specs.Posted.{Posted}
use Rattle.world_model.specs.World.{World, Shard}

-- before the call
abbrev pub flow_before : BenchState → Call → Option Flow
flow_before b (Take i item a s) = flow_by a []
flow_before b (Step i) = option_and_then flow_of_job (job_at b.desks i)
flow_before b _ = None

-- the flow of the client to which the segment goes
abbrev pub flow_to : SetupView → Segment → Flow
flow_to setup s = flow_from setup s.target s.head.target_port

-- what is sent with this verdict for a server's segment goes to the client
abbrev pub is_to_client : Verdict → Bool
is_to_client Forwarded = true
is_to_client TurnedAway = true
is_to_client _ = false

abbrev pub flow_told : SetupView → Option Flow → Verdict → List Segment → Option Flow
flow_told setup (Some flow) v outs = Some flow
flow_told setup None v outs = if is_to_client v then option_map (flow_to setup) (slice_get outs 0) else None

-- ---- what is sent
-- with a reply, where the segment with this index was taken last
abbrev pub told_sends : World → Option Flow → Option ℕ → Reply → List Posted
told_sends w before index (reply.Done v outs) = handled_sends w (flow_told w.setup before v outs.list) (option_and_then (slice_get w.sent) index) v outs.list
told_sends w before index _ = []

-- by a call of this shard's bench, of the flow of the job that it moved
abbrev pub shard_sends : World → Shard → Call → Option ℕ → List Posted
shard_sends w s c index = replied w (flow_at s.bench c) index (served s.bench c).1

-- the reply to a call of this shard's bench tells what is sent with it
pub record IsTold (s : Shard) (c : Call) (r : Reply) : Type 0 where
  pub is : r ≡ (served s.bench c).1
  pub sends : (w : World) (index : Option ℕ) → w.setup ≡ s.bench.setup → told_sends w (flow_before s.bench c) index r ≡ shard_sends w s c index
  pub opens : (outs : OutsView) → r ≡ reply.Done Opened outs → total outs.list ≤ 14600
