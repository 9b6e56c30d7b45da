use Rattle.std.proofs.Common.{◌≡◌, ◌<◌, ◌++◌, ◌∙◌, Some, ℕ, List, length, sym, ap, subst}
use Rattle.std.specs.Prelude.{IsTrue, option_map, slice_get}
use Rattle.std.proofs.lemmas.Option.{same_Some}
use Rattle.bench.specs.declared.call.Call.TheVariants.{Take}
use Rattle.flow_id.specs.declared.key.Flow.{Flow}
use Rattle.job_core.specs.Aims.{aimed}
use Rattle.job_core.specs.Jobs.{is_taken}
use Rattle.job_core.specs.declared.aim.Aim.{Aim}
use Rattle.tcp_segment.specs.declared.segment.Segment.{Segment}
use Rattle.world_model.specs.Enabled.{home}
use Rattle.world_model.specs.Flows.{aim_of}
use Rattle.world_model.specs.Placed.{sending}
use Rattle.world_model.specs.Posted.{Posted}
use Rattle.world_model.specs.Shape.{IsShard}
use Rattle.world_model.specs.Told.{told_sends, shard_sends}
use Rattle.world_model.proofs.Calls.{take_fits}
use Rattle.world_model.proofs.Makes.{home_within}
use Rattle.world_model.proofs.Writing.{got_within}
use Rattle.world_model.proofs.serving.take_in.Goals as goal

pub take_at-requires-clause-may : goal.take_at-requires-clause-may
take_at-requires-clause-may c = λ s here.
    take_fits c.args.setup.now c.aim_of-aim.result c.in_ok-segment.segment s c.args.instance
    (subst (λ g. IsShard c.args.setup.now g s) c.home-shard.ensures (c.requires.own c.home-shard.result s here))
    c.requires.instance
    (c.aim_of-aim.ensures ∙ ap (λ y. aimed c.args.setup.now y.source y.target y.head) (sym c.in_ok-segment.ensures))
    (subst (λ a. IsTrue (is_taken a)) (sym c.aim_of-aim.ensures)
    (c.requires.taken c.in-Some.x.now (ap (λ xs. slice_get xs c.args.index) (sym c.as_slice.ensures.value) ∙ sym c.entry.ensures ∙ ap (λ o. option_map (λ x. x.now) o) c.in-Some.is)))

pub add_reply-requires-clause-short : goal.add_reply-requires-clause-short
add_reply-requires-clause-short c =
    let below : c.home-shard.result < length c.args.shards.now =
    subst (λ (n : ℕ). n < length c.args.shards.now) (sym c.home-shard.ensures)
    (subst (λ (n : ℕ). home c.args.setup.now c.aim_of-aim.result < n) (sym c.requires.count) (home_within c.args.setup.now c.aim_of-aim.result c.known.ensures)) in
    let got = got_within c.args.shards.now c.home-shard.result below in (c.in_ok-reply.ensures.reply got.0 got.1).opens

pub returns-clause-ok_sent : goal.returns-clause-ok_sent
returns-clause-ok_sent c = λ x s sent_here here servers.
    let setup = c.args.setup.now in
    let was = c.args.sent.now.items in
    let w = sending setup c.args.clients.now servers was in
    let got : slice_get was c.args.index ≡ Some c.in-Some.x.now =
    ap (λ (xs : List Posted). slice_get xs c.args.index) (sym c.as_slice.ensures.value) ∙ sym c.entry.ensures ∙ ap (λ o. option_map (λ x. x.now) o) c.in-Some.is in
    let same : c.in-Some.x.now ≡ x = same_Some c.in-Some.x.now x (sym got ∙ sent_here) in
    let segment : c.in_ok-segment.segment ≡ x.segment = c.in_ok-segment.ensures ∙ ap (λ (y : Posted). y.segment) same in
    let aim : c.aim_of-aim.result ≡ aim_of setup x.segment = c.aim_of-aim.ensures ∙ ap (λ (y : Posted). aim_of setup y.segment) same in
    let there : slice_get c.args.shards.now c.home-shard.result ≡ Some s =
    ap (λ (n : ℕ). slice_get c.args.shards.now n) (c.home-shard.ensures ∙ ap (λ (a : Aim). home setup a) aim) ∙ here in
    c.add_reply.ensures servers
    ∙ ap (λ (xs : List Posted). xs ++ told_sends (sending setup c.args.clients.now servers xs) c.flow_before-flow.result (Some c.args.index) c.in_ok-reply.reply) c.in_ok-reserve.ensures.items
    ∙ ap (λ f. was ++ told_sends w f (Some c.args.index) c.in_ok-reply.reply) c.flow_before-flow.ensures
    ∙ ap (λ (zs : List Posted). was ++ zs) ((c.in_ok-reply.ensures.reply s there).sends w (Some c.args.index) (sym (c.requires.own c.home-shard.result s there).setup_is))
    ∙ ap (λ (a : Aim). was ++ shard_sends w s (Take c.args.instance 0 a c.in_ok-segment.segment) (Some c.args.index)) aim
    ∙ ap (λ (y : Segment). was ++ shard_sends w s (Take c.args.instance 0 (aim_of setup x.segment) y) (Some c.args.index)) segment
