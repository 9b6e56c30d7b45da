-- What an end sends next, as one more segment that is sent, or none.
use Rattle.std.specs.Prelude.{ℕ, Option, Some, None, option_map}
use Rattle.tcp_end.specs.EndState.{EndState}
use Rattle.tcp_end.specs.Sending.{send_of}
use Rattle.world_model.specs.declared.at.At.{At}
use Rattle.world_model.specs.After.{placed_at, with_sent}
use Rattle.world_model.specs.Flows.{client_behind}
use Rattle.world_model.specs.Routes.{route_of, segment_on}
use Rattle.world_model.specs.Posted.{Posted}
use Rattle.world_model.specs.Steps.{plain}
use Rattle.world_model.specs.World.{World, end_at}

-- where it stands in the list of what was sent
abbrev pub next_by : World → At → ℕ → EndState → Option Posted
next_by w at size e = option_map (λ s. placed_at (client_behind w at) at e s (segment_on (route_of w.setup w.clients at) s plain)) (send_of e size)

abbrev pub next_of : World → At → ℕ → Option EndState → Option Posted
next_of w at size None = None
next_of w at size (Some e) = next_by w at size e

-- what the end there sends, with so many bytes at most
abbrev pub next_sent : World → At → ℕ → Option Posted
next_sent w at size = next_of w at size (end_at w at)

abbrev pub with_any : World → Option Posted → World
with_any w None = w
with_any w (Some x) = with_sent w x
