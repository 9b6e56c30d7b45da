use Rattle.std.proofs.Common.{◌+◌, sym, subst}
use Rattle.run_threads.specs.Pool.{AreFresh}
use Rattle.run_threads.proofs.Seats.{none_fresh, none_split, fresh_next, split_more, new_seat, old_seat}
use Rattle.run_threads.proofs.pool.next_crew.Goals as goal

pub loop-place-init : goal.loop-place-init
loop-place-init c = record {
  seats = none_fresh (c.args.worker + 1) 0 c.args.locks.now c.in_ok-seats.seats.items c.in_ok-seats.ensures.items;
  split = none_split c.args.worker c.args.locks.now c.args.first.now c.requires.first;
}

pub loop-place-preserved : goal.loop-place-preserved
loop-place-preserved c =
    let w = c.args.worker in
    let n = c.loop-place.place in
    let locks = c.args.locks.now in
    let first = c.loop-place.first in
    let lock = c.index-locks-place.result in
    let d = c.index-first-place.result in
    let e = c.in_ok-split.ensures in
    let inv = c.loop-place.invariant in record {
      seats = subst (λ z. AreFresh (w + 1) 0 (n + 1) locks z) (sym c.in_ok-push.ensures.items)
          (fresh_next (w + 1) 0 n locks c.loop-place.seats.items c.in_ok-split.field-0 inv.seats
          (new_seat w n locks first lock d inv.split c.loop-place-test.true c.index-locks-place.is c.in_ok-split.field-0 e.new e.number e.sees));
      split = split_more w n locks first c.split.new.seat c.loop-place-test.true inv.split
          (old_seat w n locks first lock d inv.split c.loop-place-test.true c.index-locks-place.is c.split.new.seat c.split.ensures.seat e.made c.split.ensures.same);
    }
