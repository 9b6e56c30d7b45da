use Rattle.std.proofs.Common.{Some, sym, ◌∙◌, ap}
use Rattle.std.specs.Prelude.{slice_set}
use Rattle.std.proofs.lemmas.Option.{slice_get-get_or, same_Some}
use Rattle.bench.specs.Bench.{served}
use Rattle.bench.specs.declared.call.Call.TheVariants.{Take}
use Rattle.world_model.specs.World.{Shard}
use Rattle.world_model.proofs.Calls.{on_ok}
use Rattle.world_model.proofs.serving.take_at.Goals as goal

pub take-requires-clause-call : goal.take-requires-clause-call
take-requires-clause-call c = (c.requires.may _ (slice_get-get_or c.args.shards.now c.args.shard c.index-shards-shard.result c.requires.within)).0

pub take-requires-clause-place : goal.take-requires-clause-place
take-requires-clause-place c = (c.requires.may _ (slice_get-get_or c.args.shards.now c.args.shard c.index-shards-shard.result c.requires.within)).1

pub returns-clause-ok : goal.returns-clause-ok
returns-clause-ok c =
    on_ok c.take.result
    (λ is s here. ap (λ (x : Shard). slice_set c.args.shards.now c.args.shard x)
    (is ∙ ap (λ (t : Shard). record { bench = (served t.bench (Take c.args.instance 0 c.args.aim c.args.segment)).0; taken = slice_set t.taken c.args.instance (Some c.args.index) })
    (same_Some _ s (sym (slice_get-get_or c.args.shards.now c.args.shard c.index-shards-shard.result c.requires.within) ∙ here))))
    c.take.ensures.ok
