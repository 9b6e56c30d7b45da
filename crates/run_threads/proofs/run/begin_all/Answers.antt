use Rattle.std.proofs.Common.{◌≡◌, ◌<◌, ◌++◌, ◌∷◌, [], List, length, sym, ◌∙◌, subst, arith}
use Rattle.run_threads.specs.Handles.{AreHandles, AreOpen, IsHandle}
use Rattle.run_threads.specs.declared.pool.Worker.{Worker}
use Rattle.run_threads.proofs.Handles.{handles_set, open_set, its_place, its_number}
use Rattle.run_threads.proofs.Taken.{popped_rest, popped_long}
use Rattle.run_threads.proofs.run.begin_all.Goals as goal

pub loop-worker-preserved : goal.loop-worker-preserved
loop-worker-preserved g c =
    let inputs = c.args.inputs.now in
    let locks = c.args.locks.now in
    let all : List Worker = c.args.workers.items in
    let rest : List Worker = c.loop-worker.workers.items in
    let now : List Worker = c.pop.new.self.items in
    let worker : Worker = c.in-Some.worker in
    let inv = c.loop-worker.invariant in
    let few = inv.few in
    let popped : rest ≡ now ++ worker ∷ [] = c.in-Some.ensures.items in
    let long = popped_long rest now worker popped in
    let number = its_number inputs locks all rest now worker c.requires.workers inv.rest inv.few popped in
    let place = its_place inputs locks all rest now worker c.requires.workers inv.rest inv.few popped in
    let at : length now ≡ c.len-place.result = sym (c.len-place.ensures ∙ c.pop.new.self.ok.0) in
    let is = subst (λ k. IsHandle inputs k 0 locks c.begin-begun.result) (number ∙ at) c.begin-begun.ensures.handle in
    let there = subst (λ k. k < inputs.setup.instances) at place in record {
      rest = popped_rest all rest now worker inv.rest popped;
      few = omega (arith, long, few);
      handles = subst (AreHandles inputs 0 locks) (sym c.put.ensures) (handles_set inputs locks 0 c.len-place.result c.loop-worker.handles c.begin-begun.result inv.handles there is);
      open_ones = subst AreOpen (sym c.put.ensures) (open_set c.len-place.result c.loop-worker.handles c.begin-begun.result inv.open_ones c.begin-begun.ensures.open);
    }
