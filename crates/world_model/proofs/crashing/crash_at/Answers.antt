use Rattle.std.proofs.Common.{ap, subst, sym, ◌∙◌}
use Rattle.std.specs.Prelude.{slice_set}
use Rattle.std.proofs.lemmas.Option.{slice_get-get_or}
use Rattle.bench.specs.declared.call.Call.TheVariants.{Crash}
use Rattle.world_model.specs.World.{Shard}
use Rattle.world_model.proofs.Everywhere.{AreOwn, call_is, call_own, crash_fits}
use Rattle.world_model.proofs.crashing.crash_at.Goals as goal

pub crash-requires : goal.crash-requires
crash-requires c =
    let here = slice_get-get_or c.args.shards.now c.args.shard c.index-shards-shard.result c.requires.within in
    crash_fits c.args.setup.now c.args.shard _ c.args.instance (c.requires.own c.args.shard _ here) c.requires.instance

pub returns-clause-own : goal.returns-clause-own
returns-clause-own c =
    let here = slice_get-get_or c.args.shards.now c.args.shard c.index-shards-shard.result c.requires.within in
    subst (λ (s : Shard). AreOwn c.args.setup.now (slice_set c.args.shards.now c.args.shard s)) (sym c.crash.ensures)
    (call_own c.args.setup.now c.args.shards.now c.args.shard _ (Crash c.args.instance) c.requires.own c.requires.within here)

pub returns-clause-called : goal.returns-clause-called
returns-clause-called c = λ w same.
    let here = slice_get-get_or c.args.shards.now c.args.shard c.index-shards-shard.result c.requires.within in
    ap (λ (s : Shard). record w { shards = slice_set c.args.shards.now c.args.shard s }) c.crash.ensures
    ∙ call_is c.args.setup.now c.args.shards.now c.args.shard _ (Crash c.args.instance) c.requires.own c.requires.within here tt w same
