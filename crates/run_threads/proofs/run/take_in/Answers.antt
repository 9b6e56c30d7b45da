use Rattle.std.proofs.Common.{◌≡◌, ◌-◌, ◌<◌, ◌++◌, ◌∷◌, [], List, length, sym, ◌∙◌, subst, arith}
use Rattle.std.proofs.lemmas.List.{take_all}
use Rattle.run_threads.specs.Handles.{IsHandle}
use Rattle.run_threads.specs.Pool.{AreJoined, AreSeats, HasWorked, JoinsFrom}
use Rattle.run_threads.specs.declared.handle.Handle.{Handle}
use Rattle.run_threads.proofs.Taken.{none_taken, taken_in, joined_seats, returned_seats, popped_is, popped_rest, popped_long}
use Rattle.run_threads.proofs.run.take_in.Goals as goal

pub loop-handle-init : goal.loop-handle-init
loop-handle-init g c =
    let inputs = c.args.inputs.now in
    let handles : List Handle = c.args.handles.items in record {
      rest = sym (take_all (length handles) handles (omega arith));
      count = c.instances-left.ensures ∙ sym c.requires.handles.many;
      joined = subst (λ k. AreJoined inputs k c.args.locks.now c.args.first.now c.in_ok-all.all.items) (sym c.requires.handles.many)
          (none_taken inputs c.args.locks.now c.args.first.now c.in_ok-all.all.items c.requires.first c.in_ok-all.ensures.items);
    }

pub finish-requires-clause-handle : goal.finish-requires-clause-handle
finish-requires-clause-handle g c =
    let inputs = c.args.inputs.now in
    let locks = c.args.locks.now in
    let all : List Handle = c.args.handles.items in
    let rest : List Handle = c.loop-handle.handles.items in
    let now : List Handle = c.pop.new.self.items in
    let handle : Handle = c.in-Some.handle in
    let inv = c.loop-handle.invariant in
    let popped : rest ≡ now ++ handle ∷ [] = c.in-Some.ensures.items in
    let many = inv.joined.many in
    let long = popped_long rest now handle popped in
    let count = inv.count in
    let within : length now < inputs.setup.instances = omega (arith, many, long) in
    let at : length now ≡ c.loop-handle.left - 1 = omega (arith, count, long) in
    subst (λ k. IsHandle inputs k inputs.records locks handle) at
    (subst (λ h. IsHandle inputs (length now) inputs.records locks h) (popped_is all rest now handle handle inv.rest popped) (c.requires.handles.each (length now) handle within))

pub join_all-requires-clause-first : goal.join_all-requires-clause-first
join_all-requires-clause-first g c =
    let locks = c.args.locks.now in
    let same : c.deref.result.now ≡ locks = c.deref.ensures.value ∙ c.locks.view_is in
    subst (λ l. AreSeats l c.loop-handle.first) (sym same)
    (joined_seats c.args.inputs.now locks (length c.loop-handle.handles.items) c.loop-handle.first c.loop-handle.all.items c.requires.locks.many c.loop-handle.invariant.joined)

pub join_all-requires-clause-seats : goal.join_all-requires-clause-seats
join_all-requires-clause-seats g c =
    let locks = c.args.locks.now in
    let same : c.deref.result.now ≡ locks = c.deref.ensures.value ∙ c.locks.view_is in
    let worked = c.in_ok-worked.worked in
    subst (λ l. AreSeats l c.crew.inside.items.items) (sym same)
    (subst (AreSeats locks) (sym c.crew.view_is) (returned_seats c.args.inputs.now locks (c.loop-handle.left - 1) worked.crew worked.made c.requires.locks.many c.in_ok-worked.ensures))

pub loop-handle-preserved : goal.loop-handle-preserved
loop-handle-preserved g c =
    let inputs = c.args.inputs.now in
    let locks = c.args.locks.now in
    let all : List Handle = c.args.handles.items in
    let rest : List Handle = c.loop-handle.handles.items in
    let now : List Handle = c.pop.new.self.items in
    let handle : Handle = c.in-Some.handle in
    let inv = c.loop-handle.invariant in
    let popped : rest ≡ now ++ handle ∷ [] = c.in-Some.ensures.items in
    let many = inv.joined.many in
    let long = popped_long rest now handle popped in
    let count = inv.count in
    let at : c.loop-handle.left - 1 ≡ length now = omega (arith, count, long) in
    let worked = c.in_ok-worked.worked in
    let has : HasWorked inputs (length now) locks worked.crew worked.made = subst (λ k. HasWorked inputs k locks worked.crew worked.made) at c.in_ok-worked.ensures in
    let same : c.deref.result.now ≡ locks = c.deref.ensures.value ∙ c.locks.view_is in
    let joins : JoinsFrom 0 locks c.loop-handle.first c.join_all.new.first worked.crew =
    subst (λ s. JoinsFrom 0 locks c.loop-handle.first c.join_all.new.first s) c.crew.view_is (subst (λ l. JoinsFrom 0 l c.loop-handle.first c.join_all.new.first c.crew.inside.items.items) same c.join_all.ensures) in record {
      rest = popped_rest all rest now handle inv.rest popped;
      count = at;
      joined = taken_in inputs locks (length now) c.loop-handle.first c.join_all.new.first worked.crew c.loop-handle.all.items c.push.new.self.items worked.made c.requires.locks
          (subst (λ k. AreJoined inputs k locks c.loop-handle.first c.loop-handle.all.items) long inv.joined) has joins c.in_ok-push.ensures.items;
    }
