-- What a step of the world makes of an event that it is asked for: the events that it is, in their order, and whether
-- it can happen. A crash or a failure is one event for each shard that it concerns; what the ends send has the window
-- 65,535 and no options.
use Rattle.std.specs.Prelude.{◌≡◌, ◌<◌, ℕ, ◌+◌, ◌-◌, ◌%◌, ◌^◌, Bool, true, false, ◌&&◌, nat_lt, if◌then◌else◌, Option, Some, None, is_some, List, [], ◌∷◌, map, flat_map, slice_get, option_and_then}
use Rattle.std.specs.List.{range_with_len}
use Rattle.bench.specs.declared.call.Call.TheVariants as call
use Rattle.rule_table.specs.Setups.{SetupView}
use Rattle.tcp_end.specs.Sending.{send_of}
use Rattle.tcp_segment.specs.OptionArea.{no_options}
use Rattle.world_model.specs.declared.at.At.{At}
use Rattle.world_model.specs.declared.at.At.TheVariants.{Server}
use Rattle.world_model.specs.declared.event.Event.{Event}
use Rattle.world_model.specs.declared.event.Event.TheVariants as event
use Rattle.world_model.specs.declared.event.Happened.{Happened}
use Rattle.world_model.specs.declared.event.Happened.TheVariants as happened
use Rattle.world_model.specs.Enabled.{may_open, may_write, is_living, may_take, may_refuse, is_stray, may_handle}
use Rattle.world_model.specs.Events.{WorldEvent, opens, writes, closes, sends, aborts, receives, refuses, strays, takes, calls}
use Rattle.world_model.specs.Routes.{Rest, client_in}
use Rattle.world_model.specs.Runs.{after_all, AreEnabled}
use Rattle.world_model.specs.World.{World, end_at}

abbrev pub plain : Rest
plain = record { window = 65535; urgent = 0; options = no_options }

-- ---- the events
-- the replica at place j of shard g is (g + j) mod replicas; so this is the place there of a replica below their number, if
-- the list is that long
abbrev pub place_at : SetupView → ℕ → ℕ → ℕ
place_at setup g replica = (replica + setup.replicas - g % setup.replicas) % setup.replicas

abbrev pub fails_at : SetupView → ℕ → ℕ → List WorldEvent
fails_at setup replica g = if nat_lt (place_at setup g replica) setup.copies then calls g (call.Fail (place_at setup g replica)) ∷ [] else []

abbrev pub send_at : At → Option Rattle.tcp_end.specs.declared.sent.Sent.Sent → List WorldEvent
send_at at None = []
send_at at (Some s) = sends at s plain ∷ []

abbrev pub events_of : World → Event → List WorldEvent
events_of w (event.Open k) = opens k ∷ []
events_of w (event.Write at bytes) = writes at bytes ∷ []
events_of w (event.Close at) = closes at ∷ []
events_of w (event.Send at size) = send_at at (option_and_then (λ e. send_of e size) (end_at w at))
events_of w (event.TakeAt at n isn) = receives at n isn ∷ []
events_of w (event.Refuse server port n) = refuses server port n plain ∷ []
events_of w (event.Abort at) = aborts at plain ∷ []
events_of w (event.Stray s) = strays s ∷ []
events_of w (event.Take i n) = takes i 0 n ∷ []
events_of w (event.Step i g) = calls g (call.Step i) ∷ []
events_of w (event.Crash i) = map (λ g. calls g (call.Crash i)) (range_with_len 0 w.setup.shards)
events_of w (event.Fail replica) = flat_map (fails_at w.setup replica) (range_with_len 0 w.setup.shards)

-- ---- whether it can happen
-- An event is enabled exactly where none of these holds: a client, an end, an instance, a shard, a replica or a segment that
-- it names is not there, but for the server's end of a refusal or of a SYN; the segment does not go to the one who takes it;
-- an instance is to take one that is not aimed at the balancer; the client has opened before; the end is closed or dead that
-- writes, or dead that sends or aborts; the segment lies 2 ^ 31 positions or more from the one that the end expects; a stranger's
-- segment comes from a client or a server; what is refused is no SYN, or its end is there.
unfoldable pub is_enabled : World → Event → Bool
is_enabled w (event.Open k) = may_open w k
is_enabled w (event.Write at bytes) = may_write (end_at w at)
is_enabled w (event.Close at) = is_some (end_at w at)
is_enabled w (event.Send at size) = is_living (end_at w at)
is_enabled w (event.TakeAt at n isn) = may_take w at (slice_get w.sent n)
is_enabled w (event.Refuse server port n) = may_refuse w (Server server port) (slice_get w.sent n)
is_enabled w (event.Abort at) = is_living (end_at w at)
is_enabled w (event.Stray s) = is_stray w.setup w.clients s
is_enabled w (event.Take i n) = nat_lt i w.setup.instances && may_handle w (slice_get w.sent n)
is_enabled w (event.Step i g) = nat_lt i w.setup.instances && nat_lt g w.setup.shards
is_enabled w (event.Crash i) = nat_lt i w.setup.instances
is_enabled w (event.Fail replica) = nat_lt replica w.setup.replicas

-- ---- what holds of these
-- the numbers of the event are of their types, and so is the first number of a client that opens
abbrev pub IsEvent : World → Event → Type 0
IsEvent w (event.Open k) = (client_in w.clients k).isn.0 < 2 ^ 32
IsEvent w (event.Send at size) = size < 2 ^ 16
IsEvent w (event.TakeAt at n isn) = isn.0 < 2 ^ 32
IsEvent w _ = Unit {0}

-- what can happen is a list of events of the world, each of which may happen after those before it
abbrev pub StepLaw : Type 0
StepLaw = (w : World) (e : Event) → IsEvent w e → is_enabled w e ≡ true → AreEnabled w (events_of w e)

-- ---- a step
-- the world after the step, and whether it happened
abbrev pub stepped_by : Bool → World → Event → World × Happened
stepped_by true w e = (after_all w (events_of w e), happened.Done)
stepped_by false w e = (w, happened.NotEnabled)

abbrev pub stepped : World → Event → World × Happened
stepped w e = stepped_by (is_enabled w e) w e
