-- Where the segments of a handling stand, told one after the other.
use Rattle.std.specs.Prelude.{ℕ, ◌+◌, ◌==◌, ◌&&◌, Bool, true, false, Option, Some, None, List, [], ◌∷◌, find, length, slice_get, option_and_then}
use Rattle.flow_id.specs.Keys.{same_flow}
use Rattle.flow_id.specs.declared.key.Flow.{Flow}
use Rattle.job_core.specs.declared.verdict.Verdict.{Verdict}
use Rattle.job_core.specs.declared.verdict.Verdict.TheVariants.{Answered, Asked, Opened, Forwarded}
use Rattle.tcp_segment.specs.declared.segment.Segment.{Segment}
use Rattle.world_model.specs.declared.laying.Place.{Place}
use Rattle.bench.specs.declared.call.Reply.{Reply}
use Rattle.bench.specs.declared.call.Reply.TheVariants as reply
use Rattle.rule_table.specs.Setups.{SetupView}
use Rattle.world_model.specs.declared.client.ClientSpec.{ClientSpec}
use Rattle.world_model.specs.Clients.{flow_of}
use Rattle.world_model.specs.Outs.{out_at, handled_sends}
use Rattle.world_model.specs.Posted.{Posted}
use Rattle.world_model.specs.World.{World, ServerEnd}

abbrev pub place_verdict : Verdict → Option ℕ → Option ℕ → Place
place_verdict Answered position acknowledged = record { position = Some 0; acknowledged = Some 1; moves = false }
place_verdict (Asked server port) position acknowledged = record { position = Some 0; acknowledged = None; moves = false }
place_verdict Opened position acknowledged = record { position = Some 1; acknowledged = Some 1; moves = true }
place_verdict Forwarded position acknowledged = record { position = position; acknowledged = acknowledged; moves = false }
place_verdict _ position acknowledged = record { position = None; acknowledged = None; moves = false }

-- where the first segment stands
abbrev pub place_by : Verdict → Bool → Option ℕ → Option ℕ → Place
place_by verdict true position acknowledged = place_verdict verdict position acknowledged
place_by verdict false position acknowledged = record { position = None; acknowledged = None; moves = false }

-- the same by the segment that the handling took
abbrev pub first_by : Verdict → Bool → Option Posted → Place
first_by verdict honest taken = place_by verdict honest (option_and_then (λ x. x.position) taken) (option_and_then (λ x. x.acknowledged) taken)

abbrev pub reach_of : Option ℕ → ℕ
reach_of None = 0
reach_of (Some p) = p

abbrev pub reach : Place → ℕ
reach place = reach_of place.position

-- the place behind so many bytes
abbrev pub behind_by : Bool → Option ℕ → ℕ → Option ℕ
behind_by true (Some p) n = Some (p + n)
behind_by true None n = None
behind_by false o n = o

abbrev pub behind : Place → ℕ → Place
behind place n = record { position = behind_by place.moves place.position n; acknowledged = place.acknowledged; moves = place.moves }

abbrev pub laid : Option Flow → Place → List Segment → List Posted
laid flow place [] = []
laid flow place (s ∷ outs) = out_at flow place.position place.acknowledged s ∷ laid flow (behind place (length s.body)) outs

abbrev pub total : List Segment → ℕ
total [] = 0
total (s ∷ outs) = length s.body + total outs

-- the place behind all of these
abbrev pub behind_all : Place → List Segment → Place
behind_all place [] = place
behind_all place (s ∷ outs) = behind_all (behind place (length s.body)) outs

-- the parts of the world that tell what a handling sends
abbrev pub sending : SetupView → List ClientSpec → List ServerEnd → List Posted → World
sending setup clients servers sent = record { setup = setup; clients = clients; ends = []; servers = servers; shards = []; sent = sent }

-- what is sent with a reply by a job of this flow, the segment with this index having been taken last
abbrev pub replied : World → Option Flow → Option ℕ → Reply → List Posted
replied w flow index (reply.Done verdict outs) = handled_sends w flow (option_and_then (slice_get w.sent) index) verdict outs.list
replied w flow index _ = []

-- ---- the client of a flow
abbrev pub honest_client : SetupView → List ClientSpec → Flow → Option ClientSpec
honest_client setup clients flow = find (λ client. same_flow (flow_of setup client) flow) clients

abbrev pub is_of : ℕ → Flow → ClientSpec → Bool
is_of service flow client = service == flow.service && (client.address == flow.address && (client.port == flow.port && 0 == flow.life))
