use Rattle.std.proofs.Common.{◌≡◌, ◌+◌, length, refl, sym, ◌∙◌, ap, subst, arith}
use Rattle.std.specs.Prelude.{nat_le, ◌&&◌}
use Rattle.run_threads.specs.Crews.{IsCrew}
use Rattle.run_threads.specs.Handles.{IsKept}
use Rattle.run_threads.specs.Served.{is_record, if_counts, GoesOnServing}
use Rattle.run_threads.specs.declared.handle.Kept.{Kept}
use Rattle.run_threads.proofs.Handles.{kept_more}
use Rattle.run_threads.proofs.Seats.{written_back}
use Rattle.run_threads.proofs.handle.keep_on.Goals as goal

pub returns : goal.returns
returns g c =
    let inputs = c.args.inputs.now in
    let locks = c.args.locks.now in
    let kept = c.args.kept in
    let w = c.args.worker in
    let item = c.args.item in
    let to = c.in_ok-next.next in
    let new = c.serve_taken.new.seats in
    let made = c.serve_taken.new.made in
    let more = if_counts (nat_le kept.next item && is_record inputs w item) item in
    let same_locks : c.deref.result.now ≡ locks = c.deref.ensures.value ∙ c.locks.view_is in
    let same_seats : c.deref_mut.result.now ≡ kept.crew = c.deref_mut.ensures.value ∙ c.crew.view_is in
    let goes : GoesOnServing inputs w kept.next to more locks kept.crew new kept.made made =
    subst (λ x. GoesOnServing inputs w kept.next to more locks x new kept.made made) same_seats
    (subst (λ l. GoesOnServing inputs w kept.next to more l c.deref_mut.result.now new kept.made made) same_locks c.in_ok-next.ensures.goes_on) in
    let crew : IsCrew inputs.setup locks new = subst (λ l. IsCrew inputs.setup l new) same_locks c.serve_taken.ensures.crew in
    let whole : inputs.records ≡ length inputs.frames = c.requires.inputs.records ∙ sym (ap length c.requires.inputs.frames) in
    let kept' : Kept = record { crew = new; made = made; due = kept.due; next = to } in
    let within = c.requires.item in
    let is : IsKept inputs w (item + 1) locks kept' =
    kept_more inputs locks w item kept kept' (omega (arith, within, whole)) c.requires.own c.requires.kept refl crew c.in_ok-next.ensures.next goes in
    let count = crew.seat_count in
    let seats = c.requires.kept.crew.seat_count in
    let len = c.deref_mut.ensures.len in
    subst (λ z. IsKept inputs w (item + 1) locks (record { crew = z; made = made; due = kept.due; next = to }))
    (sym (written_back c.crew.inside.items.len new c.crew.inside.items.items (omega (arith, count, seats, len, ap length same_seats)))) is
