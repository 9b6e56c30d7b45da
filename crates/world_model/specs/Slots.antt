-- The ends of a world as the two lists in which they stand.
use Rattle.std.specs.Prelude.{Option, Some, List, slice_get, slice_set, find, option_map, option_and_then}
use Rattle.tcp_end.specs.EndState.{EndState}
use Rattle.world_model.specs.declared.at.At.{At}
use Rattle.world_model.specs.declared.at.At.TheVariants.{Client, Server}
use Rattle.world_model.specs.World.{ServerEnd, is_end, with_server_end}

-- the end there, once it has opened or was made
abbrev pub end_in : List (Option EndState) → List ServerEnd → At → Option EndState
end_in ends servers (Client k) = option_and_then (λ e. e) (slice_get ends k)
end_in ends servers (Server server port) = option_map (λ s. s.state) (find (is_end server port) servers)

-- the two lists with this state in place of that of the end there
abbrev pub ends_with : At → EndState → List (Option EndState) → List (Option EndState)
ends_with (Client k) e ends = slice_set ends k (Some e)
ends_with (Server server port) e ends = ends

abbrev pub servers_with : At → EndState → List ServerEnd → List ServerEnd
servers_with (Client k) e servers = servers
servers_with (Server server port) e servers = with_server_end servers server port e
