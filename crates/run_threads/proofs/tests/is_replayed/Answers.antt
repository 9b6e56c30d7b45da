use Rattle.std.proofs.Common.{sym}
use Rattle.std.proofs.lemmas.Bool.{ltb-true}
use Rattle.run_threads.proofs.Replays.{legal_at}
use Rattle.run_threads.proofs.tests.is_replayed.Goals as goal

pub replayed-requires : goal.replayed-requires
replayed-requires c =
    legal_at c.args.done.now.histories.items c.deref.result.now c.in-Some.history.now (λ h. h.items) c.args.inputs.now.setup c.args.shard c.deref-2.result.now (ltb-true _ _ (sym c.in-Some.ensures.lookup.0)) c.deref.ensures.value
    c.in-Some.ensures.lookup.1 c.deref-2.ensures.value (λ h. c.requires.run.legal c.args.shard h c.requires.shard)
