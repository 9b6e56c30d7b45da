use Rattle.std.proofs.Common.{◌≡◌, ◌++◌, ◌∷◌, [], List, length, slice_set, slice_index_or, sym, subst, ◌∙◌}
use Rattle.run_threads.specs.Pool.{JoinsFrom, IsJoin}
use Rattle.run_threads.specs.Seats.{BenchSeat}
use Rattle.run_threads.proofs.Seats.{rest_less, few_less, join_more}
use Rattle.run_threads.proofs.pool.join_all.Goals as goal

pub loop-seat-preserved : goal.loop-seat-preserved
loop-seat-preserved c =
    let locks = c.args.locks.now in
    let old : List BenchSeat = c.args.first.now in
    let first : List BenchSeat = c.loop-seat.first in
    let seats : List BenchSeat = c.args.seats.items in
    let rest : List BenchSeat = c.loop-seat.seats.items in
    let now : List BenchSeat = c.pop.new.self.items in
    let seat : BenchSeat = c.in-Some.seat in
    let inv = c.loop-seat.invariant in
    let place_is : c.len-place.result ≡ length now = c.len-place.ensures ∙ c.pop.new.self.ok.0 in
    let e = c.join.ensures in
    let popped : rest ≡ now ++ seat ∷ [] = c.in-Some.ensures.items in
    let join : IsJoin c.index-locks-place.result _ seat c.join.new.seat = record { of = e.seat; number_is = e.number.0; made_is = e.number.1; own_is = e.own; joined_are = e.joined; heard_are = e.heard } in record {
      rest = rest_less locks old first seats rest now c.index-locks-place.result c.index-first-place.result seat c.join.new.seat c.requires.first c.requires.seats inv.rest inv.few inv.joins popped;
      few = few_less locks old first seats rest now c.index-locks-place.result c.index-first-place.result seat c.join.new.seat c.requires.first c.requires.seats inv.rest inv.few inv.joins popped;
      joins = subst (λ k. JoinsFrom (length now) locks old (slice_set first k c.join.new.seat) seats) (sym place_is)
          (join_more locks old first seats rest now c.index-locks-place.result c.index-first-place.result seat c.join.new.seat c.requires.first c.requires.seats inv.rest inv.few inv.joins popped
          (subst (λ k. c.index-locks-place.result ≡ slice_index_or locks k c.index-locks-place.result) place_is c.index-locks-place.is)
          (subst (λ k. IsJoin c.index-locks-place.result (slice_index_or first k c.index-first-place.result) seat c.join.new.seat) place_is join));
    }
