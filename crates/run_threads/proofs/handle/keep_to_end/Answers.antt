use Rattle.std.proofs.Common.{◌≡◌, [], length, sym, ◌∙◌, ap, subst, arith}
use Rattle.run_threads.specs.Pool.{HasWorked}
use Rattle.run_threads.specs.Served.{GoesOnServing}
use Rattle.run_threads.proofs.Handles.{kept_worked}
use Rattle.run_threads.proofs.Seats.{written_back}
use Rattle.run_threads.proofs.handle.keep_to_end.Goals as goal

pub returns : goal.returns
returns g c =
    let inputs = c.args.inputs.now in
    let locks = c.args.locks.now in
    let kept = c.args.kept in
    let w = c.args.worker in
    let new = c.serve_gap.new.seats in
    let made = c.serve_gap.new.made in
    let same_locks : c.deref.result.now ≡ locks = c.deref.ensures.value ∙ c.locks.view_is in
    let same_seats : c.deref_mut.result.now ≡ kept.crew = c.deref_mut.ensures.value ∙ c.crew.view_is in
    let goes : GoesOnServing inputs w kept.next inputs.records [] locks kept.crew new kept.made made =
    subst (λ x. GoesOnServing inputs w kept.next inputs.records [] locks x new kept.made made) same_seats
    (subst (λ l. GoesOnServing inputs w kept.next inputs.records [] l c.deref_mut.result.now new kept.made made) same_locks c.in_ok-serve_gap.ensures.goes_on) in
    let whole : inputs.records ≡ length inputs.frames = c.requires.inputs.records ∙ sym (ap length c.requires.inputs.frames) in
    let worked : HasWorked inputs w locks new made = kept_worked inputs locks w inputs.records kept new made c.requires.locks.many whole c.requires.kept goes in
    let count = worked.many in
    let seats = c.requires.kept.crew.seat_count in
    let len = c.deref_mut.ensures.len in
    subst (λ z. HasWorked inputs w locks z made) (sym (written_back c.crew.inside.items.len new c.crew.inside.items.items (omega (arith, count, seats, len, ap length same_seats)))) worked
