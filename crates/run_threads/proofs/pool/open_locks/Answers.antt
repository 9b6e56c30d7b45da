use Rattle.std.proofs.Common.{◌+◌, ◌∷◌, [], ◌++◌, ◌∙◌, ap, sym, subst}
use Rattle.bench.specs.Histories.{opening}
use Rattle.run_threads.specs.Pool.{AreLocks, AreFresh}
use Rattle.run_threads.proofs.Seats.{locks_more, fresh_more, first_seat}
use Rattle.run_threads.proofs.pool.open_locks.Goals as goal

pub loop-shard-preserved : goal.loop-shard-preserved
loop-shard-preserved c =
    let setup = c.args.setup.now in
    let n = c.loop-shard.shard in
    let lock = c.in_ok-lock.lock in
    let seat = c.in_ok-lock.seat in
    let e = c.in_ok-lock.ensures in
    let inv = c.loop-shard.invariant in
    let locks = c.loop-shard.locks.items in
    let first_is = e.first ∙ (c.in_ok-bench.ensures ∙ (c.in_ok-new.ensures.state ∙ ap (λ s. opening s n) c.in_ok-copy.ensures)) in record {
      locks = subst (λ z. AreLocks setup (n + 1) z) (sym c.in_ok-push.ensures.items) (locks_more setup n locks lock inv.locks first_is);
      seats = subst (λ z. AreFresh 0 0 (n + 1) z c.push-in-loop-shard.new.self.items) (sym c.in_ok-push.ensures.items)
          (subst (λ z. AreFresh 0 0 (n + 1) (locks ++ lock ∷ []) z) (sym c.in_ok-push-2.ensures.items)
          (fresh_more 0 0 n locks lock c.loop-shard.seats.items seat inv.locks.many inv.seats (first_seat lock seat e.seat e.number e.nothing_seen)));
    }
