use Rattle.std.proofs.Common.{◌++◌, ◌∙◌, ap}
use Rattle.std.specs.Prelude.{slice_get, option_and_then}
use Rattle.world_model.specs.Outs.{handled_sends}
use Rattle.world_model.specs.Placed.{first_by, sending}
use Rattle.world_model.proofs.Laid.{handled_laid}
use Rattle.world_model.proofs.replying.add_handled.Goals as goal

pub returns : goal.returns
returns c = λ servers.
    let was = c.args.sent.now.items in
    let taken = option_and_then (slice_get was) c.args.index in
    c.add_outs.ensures ∙ ap (λ zs. was ++ zs)
    (handled_laid c.args.setup.now c.args.clients.now servers was taken c.args.verdict.now c.args.outs.list c.into_vec.result.items
    c.flow_told-flow.result c.is_honest-honest.result c.first_place-first.result c.is_honest-honest.ensures
    (c.first_place-first.ensures ∙ ap (λ xs. first_by c.args.verdict.now c.is_honest-honest.result (option_and_then (slice_get xs) c.args.index)) c.as_slice.ensures.value)
    c.into_vec.ensures
    ∙ ap (λ f. handled_sends (sending c.args.setup.now c.args.clients.now servers was) f taken c.args.verdict.now c.args.outs.list) c.flow_told-flow.ensures)
