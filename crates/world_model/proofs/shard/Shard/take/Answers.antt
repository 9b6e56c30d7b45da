use Rattle.std.proofs.Common.{◌∙◌, ap}
use Rattle.bench.specs.Bench.{served}
use Rattle.bench.specs.declared.call.Call.TheVariants.{Take}
use Rattle.world_model.specs.World.{Shard}
use Rattle.world_model.proofs.shard.Shard.take.Goals as goal

pub returns-clause-reply : goal.returns-clause-reply
returns-clause-reply c =
    c.laws.ensures (Take c.args.instance 0 c.args.aim c.args.segment) c.in_ok-reply.reply c.requires.call
    (c.in_ok-reply.ensures.reply ∙ ap (λ (s : Shard). (served s.bench (Take c.args.instance 0 c.args.aim c.args.segment)).1) c.self.view_is)
