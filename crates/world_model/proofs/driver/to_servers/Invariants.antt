use Rattle.std.proofs.Common.{◌≡◌, length, take}
use Rattle.std.specs.List.{sum_by}
use Rattle.world_model.specs.Summaries.{told}
use Rattle.world_model.specs.World.{ServerEnd}
use Rattle.world_model.proofs.driver.to_servers.Given as goal

abbrev pub invariant-loop-server : goal.invariant-loop-server
invariant-loop-server l = l.total ≡ told (sum_by (λ (s : ServerEnd). length s.state.received) (take l.server-index l.servers))
