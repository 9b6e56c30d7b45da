-- When an event may happen. What an end may send and what may be called are relations; all else is tested.
use Rattle.std.specs.Prelude.{◌≡◌, ◌<◌, ◌+◌, ◌^◌, ◌==◌, ◌&&◌, ℕ, not, nat_lt, Bool, true, false, Option, Some, None, is_some, is_none, List, length, slice_get}
use Rattle.std.specs.List.{list_any}
use Rattle.bench.specs.declared.call.Call.{Call}
use Rattle.bench.specs.declared.call.Call.TheVariants.{Take}
use Rattle.bench.specs.Calls.{IsCall}
use Rattle.flow_id.specs.Ports.{shard_of, shard_of_port}
use Rattle.job_core.specs.Jobs.{is_taken}
use Rattle.job_core.specs.declared.aim.Aim.{Aim}
use Rattle.job_core.specs.declared.aim.Aim.TheVariants as aim
use Rattle.rule_table.specs.Matching.{place_of}
use Rattle.rule_table.specs.Setups.{SetupView}
use Rattle.tcp_end.specs.EndState.{EndState, next_expected}
use Rattle.tcp_end.specs.Sending.{MaySend}
use Rattle.tcp_segment.specs.Flags.{has_syn}
use Rattle.tcp_segment.specs.declared.segment.Segment.{Segment}
use Rattle.world_model.specs.declared.at.At.{At}
use Rattle.world_model.specs.declared.at.At.TheVariants.{Client, Server}
use Rattle.world_model.specs.declared.client.ClientSpec.{ClientSpec}
use Rattle.world_model.specs.Events.{WorldEvent, opens, writes, closes, sends, aborts, receives, refuses, strays, takes, calls}
use Rattle.world_model.specs.Flows.{aim_of}
use Rattle.world_model.specs.Posted.{Posted, Sender, balancer}
use Rattle.world_model.specs.Routes.{Route, client_in, route_of}
use Rattle.world_model.specs.World.{World, end_at, end_of_client}

-- ---- who takes what
-- the balancer sent it
abbrev pub is_out : Sender → Bool
is_out (balancer flow) = true
is_out _ = false

-- the segment goes this way back
abbrev pub goes_back : Route → Segment → Bool
goes_back route s = s.source == route.target && s.head.source_port == route.target_port && s.target == route.source && s.head.target_port == route.source_port

-- the segment is the balancer's, and goes to this end
abbrev pub goes_to_end : World → At → Posted → Bool
goes_to_end w at x = is_out x.by && goes_back (route_of w.setup w.clients at) x.segment

-- ---- ends
-- a client opens that has not opened yet
abbrev pub may_open : World → ℕ → Bool
may_open w k = nat_lt k (length w.clients) && is_none (end_of_client w k)

-- an end writes that is not closed, and not dead
abbrev pub may_write : Option EndState → Bool
may_write None = false
may_write (Some e) = not e.closed && not e.dead

abbrev pub is_living : Option EndState → Bool
is_living None = false
is_living (Some e) = not e.dead

-- less than 2 ^ 31 positions away, or nowhere
abbrev pub is_within : ℕ → Option ℕ → Bool
is_within around None = true
is_within around (Some p) = nat_lt p (around + 2 ^ 31) && nat_lt around (p + 2 ^ 31)

-- an end that is not there yet is a server's, and the segment is a SYN
abbrev pub makes_end : SetupView → At → Segment → Bool
makes_end setup (Client k) s = false
makes_end setup (Server server port) s = nat_lt server (length setup.servers) && has_syn s.head.flags

-- the segment's position is within reach of the end, or it makes the end
abbrev pub may_receive : World → At → Posted → Option EndState → Bool
may_receive w at x (Some e) = is_within (next_expected e) x.position
may_receive w at x None = makes_end w.setup at x.segment

-- an end takes a segment that goes to it, and a server refuses a SYN to an end that is not there
abbrev pub may_take : World → At → Option Posted → Bool
may_take w at None = false
may_take w at (Some x) = goes_to_end w at x && may_receive w at x (end_at w at)

abbrev pub may_refuse : World → At → Option Posted → Bool
may_refuse w at None = false
may_refuse w at (Some x) = goes_to_end w at x && makes_end w.setup at x.segment && is_none (end_at w at)

-- ---- strangers
-- it comes neither from a server nor from a client
abbrev pub is_stray : SetupView → List ClientSpec → Segment → Bool
is_stray setup clients s = is_none (place_of setup.servers s.source s.head.source_port) && not (list_any (λ client. client.address == s.source && client.port == s.head.source_port) clients)

-- ---- the balancer
-- the segment is not the balancer's, and is aimed at it
abbrev pub may_handle : World → Option Posted → Bool
may_handle w None = false
may_handle w (Some x) = not (is_out x.by) && is_taken (aim_of w.setup x.segment)

-- the shard that handles segments with this aim
abbrev pub home : SetupView → Aim → ℕ
home setup (aim.Client flow) = shard_of flow setup.shards
home setup (aim.Server server port) = shard_of_port port setup.shards
home setup _ = 0

abbrev pub is_take : Call → Bool
is_take (Take i item a s) = true
is_take _ = false

-- ---- together
abbrev pub Enabled : World → WorldEvent → Type 0
Enabled w (opens k) = (may_open w k ≡ true) × ((client_in w.clients k).isn.0 < 2 ^ 32)
Enabled w (writes at bytes) = may_write (end_at w at) ≡ true
Enabled w (closes at) = is_some (end_at w at) ≡ true
Enabled w (sends at s rest) = (e : EndState) × (end_at w at ≡ Some e) × MaySend e s
Enabled w (aborts at rest) = is_living (end_at w at) ≡ true
Enabled w (receives at n isn) = (may_take w at (slice_get w.sent n) ≡ true) × (isn.0 < 2 ^ 32)
Enabled w (refuses server port n rest) = may_refuse w (Server server port) (slice_get w.sent n) ≡ true
Enabled w (strays s) = is_stray w.setup w.clients s ≡ true
Enabled w (takes i item n) = (i < w.setup.instances) × (may_handle w (slice_get w.sent n) ≡ true)
Enabled w (calls g c) = (g < w.setup.shards) × IsCall w.setup g c × (is_take c ≡ false)

-- ---- a word for a part of these, for the code and the proofs
abbrev pub is_from : Segment → ClientSpec → Bool
is_from s client = client.address == s.source && client.port == s.head.source_port
