use Rattle.std.proofs.Common.{◌∙◌, ap}
use Rattle.bench.specs.Bench.{served}
use Rattle.bench.specs.declared.call.Call.TheVariants.{Step}
use Rattle.world_model.specs.World.{Shard}
use Rattle.world_model.proofs.Calls.{if_ok}
use Rattle.world_model.proofs.shard.Shard.step.Goals as goal

pub returns-clause-reply : goal.returns-clause-reply
returns-clause-reply c =
    if_ok c.step.result (λ r is. c.laws.ensures (Step c.args.instance) r c.requires.call (is ∙ ap (λ (s : Shard). (served s.bench (Step c.args.instance)).1) c.self.view_is)) c.step.ensures.reply
