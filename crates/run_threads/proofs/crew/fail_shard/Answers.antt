use Rattle.std.proofs.Common.{ℕ, ◌+◌, ◌%◌, ◌∷◌, [], Bool, map, refl}
use Rattle.std.specs.Prelude.{◌==◌}
use Rattle.std.specs.List.{filter}
use Rattle.bench.specs.declared.call.Call.TheVariants.{Fail}
use Rattle.bench.specs.Blocks.{CallAt}
use Rattle.run_threads.proofs.Crews.{made_more, map_filter_range, if_made}
use Rattle.run_threads.proofs.crew.fail_shard.Goals as goal

pub loop-place-preserved : goal.loop-place-preserved
loop-place-preserved g c =
    let at : ℕ → CallAt = λ place. record { shard = c.args.shard; call = Fail place } in
    let own : ℕ → Bool = λ place. (c.args.shard + place) % c.args.setup.now.replicas == c.args.replica in
    let place = c.loop-place.place in record {
      made = made_more c.args.setup.now c.args.locks.now c.args.seats.now c.loop-place.seats c.fail_place.new.seats _ (map at (filter own (place ∷ []))) _
          c.loop-place.invariant.made (if_made c.args.setup.now c.args.locks.now c.loop-place.seats c.fail_place.new.seats (at place) at own place refl c.in_ok-fail_place.ensures.made) (map_filter_range at own place);
      crew = c.fail_place.ensures.crew;
      named = λ i base so. c.fail_place.ensures.named i base (c.loop-place.invariant.named i base so);
    }

pub returns-in_err-fail_place-clause-named : goal.returns-in_err-fail_place-clause-named
returns-in_err-fail_place-clause-named g c i base so = c.fail_place.ensures.named i base (c.loop-place.invariant.named i base so)
