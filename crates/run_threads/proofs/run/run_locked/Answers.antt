use Rattle.std.proofs.Common.{◌≡◌, List, length, map, sym, ◌∙◌, subst}
use Rattle.run_threads.specs.Pool.{AreFresh, AreCrews}
use Rattle.run_threads.specs.Seats.{BenchLock, BenchSeat}
use Rattle.run_threads.proofs.Done.{all_in, are_done}
use Rattle.run_threads.proofs.Seats.{written_back}
use Rattle.run_threads.proofs.run.run_locked.Goals as goal

pub run_scoped-requires-after_bounds : goal.run_scoped-requires-after_bounds
run_scoped-requires-after_bounds g c κs within =
    let setup = c.args.inputs.now.setup in
    let locks : List BenchLock = c.in_ok-items.items.items in
    let new : List BenchSeat = c.crews_of.new.first in
    let n = c.in_ok-items.first.len in
    let same : c.deref.result.now ≡ locks = c.deref.ensures.value in
    let fresh : AreFresh 0 setup.instances setup.shards locks new = subst (λ l. AreFresh 0 setup.instances setup.shards l new) same c.in_ok-workers.ensures.first in
    let crews : AreCrews setup.shards setup.instances locks c.in_ok-workers.workers.items = subst (λ l. AreCrews setup.shards setup.instances l c.in_ok-workers.workers.items) same c.in_ok-workers.ensures.crews in
    let long : n ≡ length new = c.in_ok-items.first.ok.0 ∙ (c.in_ok-items.ensures.seats.many ∙ sym fresh.many) in record {
      inputs_are = c.requires.inputs;
      locks_are = c.in_ok-items.ensures.locks;
      owners_are = c.requires.owners;
      workers_are = crews;
      first_are = subst (AreFresh 0 setup.instances setup.shards locks) (sym (written_back n new _ long)) fresh;
    }

pub close_all-requires : goal.close_all-requires
close_all-requires g c = all_in c.args.inputs.now c.in_ok-items.items.items _ _ c.in_ok-items.ensures.locks c.in_ok-first.ensures

pub returns : goal.returns
returns g c =
    are_done c.args.inputs.now c.in_ok-items.items.items _ _ (map (λ h. h.items) c.in_ok-histories.histories.items) c.requires.inputs.frames c.in_ok-items.ensures.locks c.in_ok-first.ensures c.in_ok-histories.ensures
