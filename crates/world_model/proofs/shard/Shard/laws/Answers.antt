use Rattle.std.proofs.Common.{◌≡◌, subst}
use Rattle.bench.specs.Bench.{served}
use Rattle.bench.specs.Calls.{IsCall}
use Rattle.bench.specs.declared.call.Call.{Call}
use Rattle.bench.specs.declared.call.Reply.{Reply}
use Rattle.world_model.specs.Told.{IsTold}
use Rattle.world_model.specs.World.{Shard}
use Rattle.world_model.specs.contracts.shard.Shard.{the_view}
use Rattle.world_model.proofs.Told.{told}
use Rattle.world_model.proofs.shard.Shard.laws.Goals as goal

pub returns : goal.returns
returns c =
    subst (λ (s : Shard). (d : Call) (r : Reply) → IsCall s.bench.setup s.bench.shard d → r ≡ (served s.bench d).1 → IsTold s d r) c.self.view_is
    (λ d r may is. told c.table_laws.ensures (the_view c.self.inside) d r (λ setup shard good. c.move_laws.ensures setup shard good) c.known.ensures.setup c.known.ensures.reached may is)
