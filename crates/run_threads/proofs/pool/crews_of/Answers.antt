use Rattle.std.proofs.Common.{◌+◌, refl, sym, subst}
use Rattle.run_threads.specs.Pool.{AreFresh, AreCrews}
use Rattle.run_threads.proofs.Seats.{crews_more}
use Rattle.run_threads.proofs.pool.crews_of.Goals as goal

pub loop-worker-preserved : goal.loop-worker-preserved
loop-worker-preserved c =
    let setup = c.args.setup.now in
    let n = c.loop-worker.worker in
    let locks = c.args.locks.now in
    let crew = c.in_ok-crew.crew in
    let e = c.in_ok-crew.ensures in record {
      crews = subst (λ z. AreCrews setup.shards (n + 1) locks z) (sym c.in_ok-push.ensures.items)
          (crews_more setup.shards n locks c.loop-worker.crews.items (record { worker = n; crew = crew }) c.loop-worker.invariant.crews
          (record { worker_is = refl; seats_are = subst (λ k. AreFresh (n + 1) 0 k locks crew) c.requires.locks e.seats }));
      first = subst (λ k. AreFresh 0 (n + 1) k locks c.next_crew.new.first) c.requires.locks e.first;
    }
