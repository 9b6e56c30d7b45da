use Rattle.std.proofs.Common.{◌≡◌, min, refl, sym, ◌∙◌, subst, arith}
use Rattle.std.proofs.lemmas.Result.{on_ok_weaker}
use Rattle.run_threads.specs.Served.{least_after}
use Rattle.run_threads.proofs.Served.{all_records, serves_none, one_taken, next_taken, all_taken}
use Rattle.run_threads.proofs.serving.serve_all.Goals as goal

pub loop-init : goal.loop-init
loop-init g c =
    let records = c.args.inputs.now.records in
    let none : 0 ≡ min records 0 = omega arith in record {
      crew = c.requires.crew;
      named = λ base so. so;
      inbox = refl;
      within = omega arith;
      next = subst (λ taken. 0 ≡ min records (least_after 0 taken)) (sym c.requires.nothing_taken) none;
      served = serves_none c.args.inputs.now c.args.worker c.args.locks.now c.args.seats.now c.args.made.now c.args.taker.now.taken c.requires.crew c.requires.nothing_made c.requires.nothing_taken;
    }

pub loop-preserved-in-Item : goal.loop-preserved-in-Item
loop-preserved-in-Item g c =
    let inputs = c.args.inputs.now in
    let was = c.loop.invariant in
    let taken = c.loop.taker.taken in
    let taken' = c.try_take.new.self.taken in
    let next = c.loop.next in
    let to = c.in_ok-next-in-Item.next in
    let item = c.in-Item.item in
    let last = c.in-Item.ensures.took.1.taken in
    let came = c.in_ok-next-in-Item.ensures.next in record {
      crew = c.serve_taken.ensures.crew;
      named = λ base so. c.serve_taken.ensures.named base (was.named base so);
      inbox = c.try_take.ensures.same ∙ was.inbox;
      within = omega (arith, came);
      next = next_taken inputs c.args.worker c.args.locks.now taken taken' next to item inputs.records was.next last came;
      served = one_taken inputs c.args.worker c.args.locks.now taken taken' next to item inputs.records c.args.seats.now c.loop.seats c.serve_taken.new.seats c.loop.made c.serve_taken.new.made
          (all_records inputs c.requires.inputs) was.next last c.in_ok-next-in-Item.ensures.goes_on was.served;
    }

pub returns-in-Ended-clause-served : goal.returns-in-Ended-clause-served
returns-in-Ended-clause-served g c =
    let inputs = c.args.inputs.now in
    let was = c.loop.invariant in
    on_ok_weaker c.serve_gap.result
    (λ goes. all_taken inputs c.args.worker c.args.locks.now c.loop.taker.taken c.try_take.new.self.taken c.loop.next inputs.records c.args.seats.now c.loop.seats c.serve_gap.new.seats c.loop.made c.serve_gap.new.made
    (all_records inputs c.requires.inputs) c.in-Ended.ensures.took.taken goes was.served)
    c.serve_gap.ensures.goes_on
