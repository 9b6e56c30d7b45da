use Rattle.std.proofs.Common.{◌++◌, ◌∙◌, ap, sym}
use Rattle.bench.specs.declared.call.Call.TheVariants.{Step}
use Rattle.world_model.specs.Told.{told_sends, shard_sends}
use Rattle.world_model.specs.Placed.{sending}
use Rattle.world_model.proofs.Calls.{step_fits}
use Rattle.world_model.proofs.Writing.{got_within}
use Rattle.world_model.proofs.serving.step_in.Goals as goal

pub step_at-requires-clause-may : goal.step_at-requires-clause-may
step_at-requires-clause-may c = λ s here. step_fits c.args.setup.now c.args.shard s c.args.instance (c.requires.own s here) c.requires.instance

pub add_reply-requires-clause-short : goal.add_reply-requires-clause-short
add_reply-requires-clause-short c = let got = got_within c.args.shards.now c.args.shard c.requires.within in (c.in_ok-reply.ensures.reply got.0 got.1).opens

pub flow_of_job-flow-requires-clause-may : goal.flow_of_job-flow-requires-clause-may
flow_of_job-flow-requires-clause-may c = λ s here. step_fits c.args.setup.now c.args.shard s c.args.instance (c.requires.own s here) c.requires.instance

pub returns-clause-ok_sent : goal.returns-clause-ok_sent
returns-clause-ok_sent c = λ s here servers.
    let was = c.args.sent.now.items in
    let w = sending c.args.setup.now c.args.clients.now servers was in
    c.add_reply.ensures servers
    ∙ ap (λ xs. xs ++ told_sends (sending c.args.setup.now c.args.clients.now servers xs) c.flow_of_job-flow.result c.index_at-index.result c.in_ok-reply.reply) c.in_ok-reserve.ensures.items
    ∙ ap (λ f. was ++ told_sends w f c.index_at-index.result c.in_ok-reply.reply) (c.flow_of_job-flow.ensures s here)
    ∙ ap (λ zs. was ++ zs) ((c.in_ok-reply.ensures.reply s here).sends w c.index_at-index.result (sym (c.requires.own s here).setup_is))
    ∙ ap (λ n. was ++ shard_sends w s (Step c.args.instance) n) (c.index_at-index.ensures s here)
