use Rattle.std.proofs.Common.{◌<◌, length, sym, ◌∙◌, ap, subst}
use Rattle.std.specs.Prelude.{slice_index_or}
use Rattle.std.proofs.lemmas.List.{length-set}
use Rattle.run_threads.specs.Handles.{AreHandles, IsHandle, IsOpen}
use Rattle.run_threads.proofs.Handles.{handles_put, open_rest}
use Rattle.run_threads.proofs.run.end_all.Goals as goal

pub loop-place-preserved : goal.loop-place-preserved
loop-place-preserved g c =
    let old = c.loop-place.handles in
    let place = c.loop-place.place in
    let inv = c.loop-place.invariant in
    let d = c.index-handles-place.result in
    let here : place < length old = subst (λ k. place < k) (sym inv.many) c.loop-place-test.true in record {
      many = ap length c.put.ensures ∙ (length-set _ place c.end-ended.result ∙ (length-set old place _ ∙ inv.many));
      same = λ inputs n locks are.
          let was = inv.same inputs n locks are in
          let within = subst (λ k. place < k) was.many here in
          let its : IsHandle inputs place n locks c.replace-handle.result = subst (IsHandle inputs place n locks) (sym c.replace-handle.ensures.value) (was.each place d within) in
          subst (AreHandles inputs n locks) (sym c.put.ensures) (handles_put inputs locks n place old _ _ was within c.replace-handle.ensures.after (c.end-ended.ensures inputs place n locks its));
      open_ones = λ k h above below.
          subst (λ hs. IsOpen (slice_index_or hs k h)) (sym c.put.ensures) (open_rest place old _ _ inv.open_ones k h above (subst (λ hs. k < length hs) c.put.ensures below));
    }
