use Rattle.std.proofs.Common.{◌≡◌, ◌++◌, ◌∷◌, [], ◌∙◌, List, length, map, ap, subst, arith}
use Rattle.std.specs.Prelude.{slice_index_or}
use Rattle.std.specs.Option.{option_to_list}
use Rattle.seen_lock.specs.declared.object.Entry.{Entry}
use Rattle.bench.specs.declared.call.Call.{Call}
use Rattle.run_threads.specs.Pool.{HasJoined, IsHistory, AreHistories}
use Rattle.run_threads.specs.Seats.{BenchLock, BenchSeat}
use Rattle.run_threads.proofs.Closed.{all_joined, closed_history, histories_more, here_joined}
use Rattle.run_threads.proofs.Taken.{popped_is, popped_rest, popped_long}
use Rattle.run_threads.proofs.pool.close_all.Goals as goal

pub close-history-requires-clause-all : goal.close-history-requires-clause-all
close-history-requires-clause-all c κs =
    let setup = c.args.setup.now in
    let lock : BenchLock = c.in-Some.lock in
    let seat : BenchSeat = c.unwrap-seat.result in
    let inv = c.loop-lock.invariant in
    all_joined setup.instances lock seat
    (here_joined setup.instances setup.shards c.args.locks.items c.loop-lock.locks.items c.pop.new.self.items lock c.args.first.items c.loop-lock.first.items c.pop-in-Some.new.self.items seat _ c.requires inv.histories.many inv.locks inv.seats inv.same
    c.in-Some.ensures.items (c.pop-in-Some.ensures.items ∙ ap (λ r. c.pop-in-Some.new.self.items ++ option_to_list r) c.unwrap-seat.ensures))

pub loop-lock-preserved : goal.loop-lock-preserved
loop-lock-preserved c =
    let setup = c.args.setup.now in
    let lock : BenchLock = c.in-Some.lock in
    let seat : BenchSeat = c.unwrap-seat.result in
    let inv = c.loop-lock.invariant in
    let locks : List BenchLock = c.args.locks.items in
    let rest : List BenchLock = c.loop-lock.locks.items in
    let now : List BenchLock = c.pop.new.self.items in
    let first : List BenchSeat = c.args.first.items in
    let seats : List BenchSeat = c.loop-lock.first.items in
    let left : List BenchSeat = c.pop-in-Some.new.self.items in
    let popped : rest ≡ now ++ lock ∷ [] = c.in-Some.ensures.items in
    let popped' : seats ≡ left ++ seat ∷ [] = c.pop-in-Some.ensures.items ∙ ap (λ r. left ++ option_to_list r) c.unwrap-seat.ensures in
    let long = popped_long rest now lock popped in
    let long' = popped_long seats left seat popped' in
    let same = inv.same in
    let even : length left ≡ length now = omega (arith, long, long', same) in
    let had : HasJoined setup.instances 0 lock seat = here_joined setup.instances setup.shards locks rest now lock first seats left seat _ c.requires inv.histories.many inv.locks inv.seats inv.same popped popped' in
    let history : List (Entry Call) = c.close-history.result.0.items in
    let is : IsHistory setup.instances seat history = closed_history setup.instances lock seat history c.close-history.result.1 had c.close-history.ensures in record {
      locks = popped_rest locks rest now lock inv.locks popped;
      seats = popped_rest first seats left seat inv.seats popped';
      same = even;
      histories = histories_more setup.instances setup.shards (length now) first seat history (map (λ x. x.items) c.loop-lock.histories.items) _
          (subst (λ k. AreHistories setup.instances setup.shards k first (map (λ x. x.items) c.loop-lock.histories.items)) long inv.histories)
          (λ s. subst (λ k. slice_index_or first k s ≡ seat) even (popped_is first seats left seat s inv.seats popped'))
          is (ap (λ l. map (λ x. x.items) l) c.in_ok-insert.ensures.items);
    }
