use Rattle.std.proofs.Common.{◌≡◌, sym, ◌∙◌, subst}
use Rattle.run_threads.specs.Handles.{AreHandles}
use Rattle.run_threads.proofs.Seats.{written_back}
use Rattle.run_threads.proofs.run.run_workers.Goals as goal

pub take_in-requires-clause-handles : goal.take_in-requires-clause-handles
take_in-requires-clause-handles g c =
    let inputs = c.args.inputs.now in
    let locks = c.args.locks.now in
    let n = c.in_ok-handles.handles.len in
    let F = c.feed_all.new.handles in
    let E = c.end_all.new.handles in
    let sized = c.in_ok-handles.handles.ok.0 ∙ c.in_ok-handles.ensures.handles.many in
    let fed : AreHandles inputs inputs.records locks F = c.feed_all.ensures.handles in
    let written : c.deref_mut-3.result.now ≡ F = c.deref_mut-3.ensures.value ∙ written_back n F _ (sized ∙ sym fed.many) in
    let ended : AreHandles inputs inputs.records locks E = c.end_all.ensures inputs inputs.records locks (subst (AreHandles inputs inputs.records locks) (sym written) fed) in
    subst (AreHandles inputs inputs.records locks) (sym (written_back n E _ (sized ∙ sym ended.many))) ended
