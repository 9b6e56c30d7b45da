-- The schedule of a generated run: the world that a number of flows, a number of bytes and the number of the run lead to.
-- An event that cannot happen is skipped.
use Rattle.std.specs.Prelude.{ℕ, ◌+◌, ◌-◌, ◌*◌, ◌/◌, ◌%◌, ◌==◌, ◌&&◌, ◌||◌, not, nat_lt, Bool, true, false, if◌then◌else◌, Option, Some, None, is_some, option_and_then, option_map, length, slice_get}
use Rattle.std.specs.List.{fold, list_all, range_with_len}
use Rattle.std.specs.Option.{option_map_or}
use Rattle.bench.specs.Bench.{job_at}
use Rattle.bench.specs.Blocks.{budget}
use Rattle.drive_plan.specs.Generator.{next_state, drawn, after_turn, turn_of}
use Rattle.drive_plan.specs.declared.generator.Turn.{Turn}
use Rattle.rule_table.specs.Matching.{place_of}
use Rattle.rule_table.specs.Setups.{SetupView}
use Rattle.tcp_end.specs.EndState.{EndState, is_close_acknowledged}
use Rattle.tcp_segment.specs.declared.segment.Segment.{Segment}
use Rattle.world_model.specs.declared.at.At.{At}
use Rattle.world_model.specs.declared.at.At.TheVariants.{Client, Server}
use Rattle.world_model.specs.declared.event.Event.{Event}
use Rattle.world_model.specs.declared.event.Event.TheVariants as event
use Rattle.world_model.specs.DrivenSetup.{driven_setup, driven_clients, after_draws, client_text, server_text}
use Rattle.world_model.specs.Enabled.{home, is_living}
use Rattle.world_model.specs.Flows.{aim_of}
use Rattle.world_model.specs.Posted.{Posted}
use Rattle.world_model.specs.Steps.{is_enabled, stepped}
use Rattle.world_model.specs.World.{World, ServerEnd, start, end_at, end_of_client, bench_at}

-- the world, and the state of the generator of draws
pub record Moment : Type 0 where
  pub world : World
  pub draws : ℕ

abbrev pub moment : World → ℕ → Moment
moment w x = record { world = w; draws = x }

-- the world after this event, or as it is where that cannot happen
unfoldable pub made : World → Event → World
made w e = (stepped w e).0

-- ---- the start
-- a client opens, writes its head and its bytes, and closes
unfoldable pub began : ℕ → World → ℕ → World
began bytes w k = made (made (made w (event.Open k)) (event.Write (Client k) (client_text bytes k))) (event.Close (Client k))

unfoldable pub all_began : ℕ → ℕ → World → World
all_began flows bytes w = fold (began bytes) w (range_with_len 0 flows)

-- ---- an end takes a segment
-- a server's end that was made writes
abbrev pub answered : ℕ → World → At → World
answered bytes w at = if is_some (end_at w at) then made w (event.Write at (server_text bytes)) else w

-- it has seen its peer's close, and is not closed
abbrev pub is_half_closed : Option EndState → Bool
is_half_closed None = false
is_half_closed (Some e) = e.saw_close && not e.closed

-- such an end of a server closes
abbrev pub closed_back : World → At → World
closed_back w at = if is_half_closed (end_at w at) then made w (event.Close at) else w

-- what follows at once, where the end was there before or not
unfoldable pub followed : ℕ → Bool → World → At → World
followed bytes was_there w (Client k) = w
followed bytes true w (Server server port) = closed_back w (Server server port)
followed bytes false w (Server server port) = closed_back (answered bytes w (Server server port)) (Server server port)

-- the end takes the segment with this index, with this draw as number
unfoldable pub delivered : ℕ → World → At → ℕ → ℕ → World
delivered bytes w at n draw = followed bytes (is_some (end_at w at)) (made w (event.TakeAt at n (record { 0 = draw }))) at

-- ---- whom a segment goes to
abbrev pub end_by : Option ℕ → Segment → At
end_by (Some server) s = Server server s.head.source_port
end_by None s = Client (s.head.target_port - 20000)

-- the end that it goes to, none where it goes to the balancer
unfoldable pub end_named : SetupView → Segment → Option At
end_named setup s = if s.target == setup.service.address then None else Some (end_by (place_of setup.servers s.target s.head.target_port) s)

-- the segment with this index, if there is one
abbrev pub segment_at : World → ℕ → Option Segment
segment_at w n = option_map (λ (x : Posted). x.segment) (slice_get w.sent n)

abbrev pub end_for : World → ℕ → Option At
end_for w n = option_and_then (end_named w.setup) (segment_at w n)

-- ---- the rough part
-- the server's end at this place in the order of making, if there is one
abbrev pub at_of : ServerEnd → At
at_of s = Server s.server s.port

abbrev pub server_named : World → ℕ → Option At
server_named w place = option_map at_of (slice_get w.servers place)

abbrev pub sent_by_any : World → Option At → World
sent_by_any w None = w
sent_by_any w (Some at) = made w (event.Send at 1460)

-- the server's end at a drawn place sends, if there is one
unfoldable pub sent_by_drawn : World → ℕ → World
sent_by_drawn w a = if length w.servers == 0 then w else sent_by_any w (server_named w (a % length w.servers))

abbrev pub taken_by : ℕ → World → ℕ → ℕ → Option At → World
taken_by bytes w n d None = made w (event.Take (d % 4) n)
taken_by bytes w n d (Some at) = delivered bytes w at n d

-- the segment with a drawn index is taken by the one that it goes to, if there is one
unfoldable pub taken_drawn : ℕ → World → ℕ → ℕ → World
taken_drawn bytes w c d = if length w.sent == 0 then w else taken_by bytes w (c % length w.sent) d (end_for w (c % length w.sent))

unfoldable pub turned : ℕ → World → Turn → World
turned bytes w t =
    if nat_lt t.b 4 then made w (event.Send (Client t.a) 1460)
    else if nat_lt t.b 7 then sent_by_drawn w t.a
    else if nat_lt t.b 11 then taken_drawn bytes w t.c t.d
    else if nat_lt t.b 14 then made w (event.Step (t.c % 4) (t.d % 4))
    else if t.b == 14 then made w (event.Crash (t.c % 4))
    else made w (event.Fail 0)

unfoldable pub turn_made : ℕ → ℕ → Moment → Moment
turn_made flows bytes m = moment (turned bytes m.world (turn_of m.draws flows)) (after_turn m.draws)

unfoldable pub roughened : ℕ → ℕ → Moment → Moment
roughened flows bytes m = fold (λ (m : Moment) (turn : ℕ). turn_made flows bytes m) m (range_with_len 0 (40 * flows))

-- ---- a handling of the calm part
-- the shard that handles the segment with this index
abbrev pub shard_for : World → ℕ → ℕ
shard_for w n = option_map_or (λ (s : Segment). home w.setup (aim_of w.setup s)) (segment_at w n) 0

-- the instance's job makes a step, until the handling has ended
unfoldable pub stepped_on : ℕ → ℕ → World → World
stepped_on i g w = if is_some (job_at (bench_at w g).desks i) then made w (event.Step i g) else w

unfoldable pub stepped_out : ℕ → ℕ → ℕ → World → World
stepped_out most i g w = fold (λ (w : World) (step : ℕ). stepped_on i g w) w (range_with_len 0 most)

-- the instance takes the segment with this index, if it can, and handles it to its end
unfoldable pub handled : World → ℕ → ℕ → World
handled w i n = if is_enabled w (event.Take i n) then stepped_out (budget w.setup) i (shard_for w n) (made w (event.Take i n)) else w

abbrev pub out_by : ℕ → World → ℕ → ℕ → Option At → World
out_by bytes w n draw None = w
out_by bytes w n draw (Some at) = delivered bytes w at n draw

-- the out with this index is taken by the end that it names, with a draw as number
unfoldable pub out_taken : ℕ → Moment → ℕ → Moment
out_taken bytes m n = moment (out_by bytes m.world n (drawn (next_state m.draws)) (end_for m.world n)) (next_state m.draws)

unfoldable pub outs_taken : ℕ → ℕ → Moment → Moment
outs_taken bytes from m = fold (out_taken bytes) m (range_with_len from (length m.world.sent - from))

-- ---- a round of the calm part
-- the end there sends, the instance handles what it sent, and the outs of that are taken
abbrev pub sent_and_handled : ℕ → At → ℕ → ℕ → World → ℕ → Moment
sent_and_handled bytes at i n w x = outs_taken bytes (length w.sent) (moment (handled w i n) x)

unfoldable pub exchanged : ℕ → At → ℕ → Moment → Moment
exchanged bytes at i m =
    if is_living (end_at m.world at) then sent_and_handled bytes at i (length m.world.sent) (made m.world (event.Send at 1460)) m.draws else m

unfoldable pub clients_exchanged : ℕ → ℕ → Moment → Moment
clients_exchanged flows bytes m = fold (λ (m : Moment) (k : ℕ). exchanged bytes (Client k) (k % 4) m) m (range_with_len 0 flows)

abbrev pub exchanged_by : ℕ → ℕ → Moment → Option At → Moment
exchanged_by bytes place m None = m
exchanged_by bytes place m (Some at) = exchanged bytes at (place % 4) m

unfoldable pub servers_exchanged : ℕ → Moment → Moment
servers_exchanged bytes m =
    fold (λ (m : Moment) (place : ℕ). exchanged_by bytes place m (server_named m.world place)) m (range_with_len 0 (length m.world.servers))

-- ---- the calm part
-- a client that saw the peer's close, and whose own close is acknowledged
abbrev pub is_closed : Option EndState → Bool
is_closed None = false
is_closed (Some e) = e.saw_close && is_close_acknowledged e

abbrev pub is_reset : Option EndState → Bool
is_reset None = false
is_reset (Some e) = e.dead

abbrev pub is_finished : Option EndState → Bool
is_finished o = is_closed o || is_reset o

unfoldable pub is_over : ℕ → World → Bool
is_over flows w = list_all (λ k. is_finished (end_of_client w k)) (range_with_len 0 flows)

-- a round, unless each client is closed or reset
unfoldable pub round_made : ℕ → ℕ → Moment → Moment
round_made flows bytes m = if is_over flows m.world then m else servers_exchanged bytes (clients_exchanged flows bytes m)

unfoldable pub calmed : ℕ → ℕ → Moment → Moment
calmed flows bytes m = fold (λ (m : Moment) (round : ℕ). round_made flows bytes m) m (range_with_len 0 (20 + 2 * (bytes / 1460 + 2)))

-- ---- together
unfoldable pub driven : ℕ → ℕ → ℕ → World
driven flows bytes number =
    (calmed flows bytes (roughened flows bytes (moment (all_began flows bytes (start driven_setup (driven_clients number flows))) (after_draws number flows)))).world
