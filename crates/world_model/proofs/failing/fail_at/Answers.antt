use Rattle.std.proofs.Common.{◌<◌, ℕ, ap, subst, sym, ◌∙◌}
use Rattle.std.specs.Prelude.{slice_set}
use Rattle.std.proofs.lemmas.Option.{slice_get-get_or}
use Rattle.bench.specs.declared.call.Call.TheVariants.{Fail}
use Rattle.world_model.specs.World.{Shard}
use Rattle.world_model.proofs.Everywhere.{AreOwn, call_is, call_own, fail_fits, fails_is}
use Rattle.world_model.proofs.failing.fail_at.Goals as goal

pub fail-requires : goal.fail-requires
fail-requires c =
    let here = slice_get-get_or c.args.shards.now c.args.shard c.index-shards-shard.result c.requires.within in
    fail_fits c.args.setup.now c.args.shard _ c.place_at-place.result (c.requires.own c.args.shard _ here)
    (subst (λ (n : ℕ). c.place_at-place.result < n) c.copies.ensures c.if-place-copies.true)

pub returns-then-place-copies-clause-own : goal.returns-then-place-copies-clause-own
returns-then-place-copies-clause-own c =
    let here = slice_get-get_or c.args.shards.now c.args.shard c.index-shards-shard.result c.requires.within in
    subst (λ (s : Shard). AreOwn c.args.setup.now (slice_set c.args.shards.now c.args.shard s)) (sym c.fail.ensures)
    (call_own c.args.setup.now c.args.shards.now c.args.shard _ (Fail c.place_at-place.result) c.requires.own c.requires.within here)

pub returns-then-place-copies-clause-called : goal.returns-then-place-copies-clause-called
returns-then-place-copies-clause-called c = λ w same.
    let here = slice_get-get_or c.args.shards.now c.args.shard c.index-shards-shard.result c.requires.within in
    fails_is c.args.setup.now w _ c.args.shard c.place_at-place.result c.args.replica c.place_at-place.ensures
    (subst (λ (n : ℕ). c.place_at-place.result < n) c.copies.ensures c.if-place-copies.true)
    (ap (λ (s : Shard). record w { shards = slice_set c.args.shards.now c.args.shard s }) c.fail.ensures
    ∙ call_is c.args.setup.now c.args.shards.now c.args.shard _ (Fail c.place_at-place.result) c.requires.own c.requires.within here tt w same)
