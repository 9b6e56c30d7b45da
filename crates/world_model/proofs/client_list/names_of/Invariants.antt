use Rattle.std.proofs.Common.{take}
use Rattle.world_model.specs.Names.{AreNames}
use Rattle.world_model.proofs.client_list.names_of.Given as goal

abbrev pub invariant-loop-client : goal.invariant-loop-client
invariant-loop-client l = AreNames l.names.keys (take l.client-index l.clients)
