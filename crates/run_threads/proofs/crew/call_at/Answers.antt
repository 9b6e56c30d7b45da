use Rattle.std.proofs.Common.{[], ◌∷◌, OnOk, slice_set, refl, sym, subst}
use Rattle.run_threads.specs.Crews.{CrewMakes}
use Rattle.run_threads.specs.Seats.{Adds}
use Rattle.run_threads.proofs.Crews.{crew_set, made_one}
use Rattle.run_threads.proofs.Naming.{seat_names}
use Rattle.run_threads.proofs.crew.call_at.Goals as goal
use Rattle.run_threads.proofs.crew.call_at.Goals.{in-Ok, in-Err}

pub returns-clause-crew : goal.returns-clause-crew
returns-clause-crew g c =
    crew_set c.args.setup.now c.args.locks.now c.args.seats.now c.args.shard c.index-locks-place.result c.call.new.seat c.requires.crew c.requires.shard c.index-locks-place.is c.call.ensures.at

pub returns-clause-made : goal.returns-clause-made
returns-clause-made g c =
    let P = CrewMakes c.args.locks.now c.args.seats.now (slice_set c.args.seats.now c.args.shard c.call.new.seat) (record { shard = c.args.shard; call = c.args.item } ∷ []) in
    elim c.match-call.branch [
      | in-Ok w ↦ subst (λ r. OnOk r P) (sym w.result-is)
          (made_one c.args.setup.now c.args.locks.now c.args.seats.now (slice_set c.args.seats.now c.args.shard c.call.new.seat) c.args.shard c.index-locks-place.result c.index-seats-place.result c.call.new.seat c.args.item w.in-Ok.field-0
          c.requires.crew c.requires.shard c.index-locks-place.is c.index-seats-place.is refl (subst (λ z. Adds c.index-locks-place.result z c.call.new.seat ((c.args.item, w.in-Ok.field-0) ∷ [])) (sym c.index-seats-place.is) w.in-Ok.ensures.made))
      | in-Err w ↦ subst (λ r. OnOk r P) (sym w.result-is) tt
    ]

pub returns-clause-named : goal.returns-clause-named
returns-clause-named g c i names =
    let old = c.index-seats-place.result in
    let new = c.call.new.seat in
    let lock = c.index-locks-place.result in
    elim c.match-call.branch [
      | in-Ok w ↦ seat_names c.args.setup.now c.args.locks.now i c.args.seats.now (slice_set c.args.seats.now c.args.shard new) c.args.shard lock old new ((c.args.item, w.in-Ok.field-0) ∷ [])
          c.requires.crew c.requires.shard c.index-locks-place.is c.index-seats-place.is refl (subst (λ z. Adds lock z new ((c.args.item, w.in-Ok.field-0) ∷ [])) (sym c.index-seats-place.is) w.in-Ok.ensures.made) (names, tt)
      | in-Err w ↦ seat_names c.args.setup.now c.args.locks.now i c.args.seats.now (slice_set c.args.seats.now c.args.shard new) c.args.shard lock old new []
          c.requires.crew c.requires.shard c.index-locks-place.is c.index-seats-place.is refl (subst (λ z. Adds lock z new []) (sym c.index-seats-place.is) w.in-Err.ensures.refused) tt
    ]
