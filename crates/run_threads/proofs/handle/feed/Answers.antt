use Rattle.std.proofs.Common.{◌≡◌, ◌∷◌, ◌++◌, [], length, sym, ◌∙◌, ap, subst, arith}
use Rattle.run_threads.specs.Handles.{IsFed, IsHandle}
use Rattle.run_threads.proofs.Feeding.{own_added}
use Rattle.run_threads.proofs.handle.feed.Goals as goal

pub returns-in-Thread-clause-handle : goal.returns-in-Thread-clause-handle
returns-in-Thread-clause-handle g c =
    let inputs = c.args.inputs.now in
    let locks = c.args.locks.now in
    let w = c.args.worker in
    let item = c.args.item in
    let is : IsFed inputs w item locks c.in-Thread.fed = subst (λ h. IsHandle inputs w item locks h) c.in-Thread.is c.requires.handle in
    let whole : inputs.records ≡ length inputs.frames = c.requires.inputs.records ∙ sym (ap length c.requires.inputs.frames) in
    let below = c.requires.item in record {
      inputs_are = is.inputs_are;
      locks_are = is.locks_are;
      worker_is = is.worker_is;
      inbox_is = is.inbox_is ∙ sym c.give.ensures.same.0;
      given = c.give.ensures.given ∙ (ap (λ l. l ++ item ∷ []) is.given ∙ sym (own_added inputs w item (omega (arith, below, whole)) c.requires.own));
    }
