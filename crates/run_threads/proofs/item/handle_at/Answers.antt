use Rattle.std.proofs.Common.{refl, subst, sym}
use Rattle.std.specs.Prelude.{slice_index_or}
use Rattle.bench.specs.Blocks.{most_steps}
use Rattle.run_threads.specs.Handling.{Handles}
use Rattle.run_threads.proofs.Crews.{crew_set}
use Rattle.run_threads.proofs.Items.{handled_at}
use Rattle.run_threads.specs.Seats.{Adds}
use Rattle.run_threads.proofs.Naming.{seat_names, handling_names}
use Rattle.run_threads.proofs.item.handle_at.Goals as goal

pub returns-clause-crew : goal.returns-clause-crew
returns-clause-crew g c =
    crew_set c.args.setup.now c.args.locks.now c.args.seats.now c.args.shard c.index-locks-place.result c.handle-end.new.seat c.requires.crew c.requires.shard c.index-locks-place.is c.handle-end.ensures.adds.at

pub returns-clause-does : goal.returns-clause-does
returns-clause-does g c =
    let most = most_steps c.args.setup.now c.args.after in
    let lock = c.index-locks-place.result in
    let old = slice_index_or c.args.seats.now c.args.shard c.index-seats-place.result in
    let new = c.handle-end.new.seat in
    handled_at c.args.setup.now c.args.locks.now c.args.seats.now _ c.args.shard lock c.index-seats-place.result new c.args.instance c.args.item c.args.aim c.args.seg c.args.after c.in_time.result
    c.requires.crew c.requires.shard c.index-locks-place.is c.index-seats-place.is refl
    (subst (λ e. Handles most c.args.instance c.args.item c.args.aim c.args.seg lock old new e) (sym c.in_time.ensures.same)
    (subst (λ m. Handles m c.args.instance c.args.item c.args.aim c.args.seg lock old new c.handle-end.result) c.most_steps-most.ensures c.handle-end.ensures))
    c.in_time.ensures.timely

pub returns-clause-named : goal.returns-clause-named
returns-clause-named g c =
    let h = c.handle-end.ensures in
    let old = slice_index_or c.args.seats.now c.args.shard c.index-seats-place.result in
    seat_names c.args.setup.now c.args.locks.now c.args.instance c.args.seats.now _ c.args.shard c.index-locks-place.result c.index-seats-place.result c.handle-end.new.seat h.answers
    c.requires.crew c.requires.shard c.index-locks-place.is c.index-seats-place.is refl
    (subst (λ z. Adds c.index-locks-place.result z c.handle-end.new.seat h.answers) (sym c.index-seats-place.is) h.adds)
    (handling_names c.args.instance c.args.item c.args.aim c.args.seg _ h.answers h.made)
