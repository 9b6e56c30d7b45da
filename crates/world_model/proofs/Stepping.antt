-- What can happen by the test is a list of events of the world.
use Rattle.std.proofs.Common.{◌≡◌, ℕ, zero, suc, ◌+◌, ◌<◌, ◌^◌, Bool, true, false, Option, Some, None, [], ◌∷◌, ◌++◌, map, refl, arith}
use Rattle.std.specs.Prelude.{nat_lt, slice_get, flat_map, option_and_then, if◌then◌else◌}
use Rattle.std.specs.List.{range_with_len}
use Rattle.std.proofs.lemmas.Bool.{ltb-true, and_parts}
use Rattle.bench.specs.declared.call.Call.TheVariants as call
use Rattle.tcp_end.specs.EndState.{EndState}
use Rattle.tcp_end.specs.Sending.{MaySend, send_of}
use Rattle.tcp_end.specs.declared.sent.Sent.{Sent as Part}
use Rattle.world_model.specs.declared.at.At.{At}
use Rattle.world_model.specs.declared.event.Event.TheVariants as event
use Rattle.world_model.specs.After.{after}
use Rattle.world_model.specs.Enabled.{is_living, may_handle}
use Rattle.world_model.specs.Events.{calls}
use Rattle.world_model.specs.Runs.{AreEnabled}
use Rattle.world_model.specs.Steps.{place_at, fails_at, send_at, is_enabled, StepLaw}
use Rattle.world_model.specs.World.{World, end_at}

-- what an end sends is a case of what it may send
abbrev pub SendsAllowed : Type 0
SendsAllowed = (e : EndState) (size : ℕ) (s : Part) → size < 2 ^ 16 → send_of e size ≡ Some s → MaySend e s

-- ---- a crash or a failure, shard by shard
crashes : (n from i : ℕ) (w : World) → i < w.setup.instances → from + n ≡ w.setup.shards → AreEnabled w (map (λ g. calls g (call.Crash i)) (range_with_len from n))
crashes zero from i w within whole = tt
crashes (suc n) from i w within whole =
    ((omega arith, within, refl), crashes n (from + 1) i (after w (calls from (call.Crash i))) within (omega arith))

fails : (n from replica : ℕ) (w : World) → from + n ≡ w.setup.shards → AreEnabled w (flat_map (fails_at w.setup replica) (range_with_len from n))
fails zero from replica w whole = tt
fails (suc n) from replica w whole =
    by (nat_lt (place_at w.setup from replica) w.setup.copies) (ltb-true (place_at w.setup from replica) w.setup.copies)
    (fails n (from + 1) replica w (omega arith)) (fails n (from + 1) replica (after w (calls from (call.Fail (place_at w.setup from replica)))) (omega arith))
  where
    by : (b : Bool) → (b ≡ true → place_at w.setup from replica < w.setup.copies)
        → AreEnabled w (flat_map (fails_at w.setup replica) (range_with_len (from + 1) n))
        → AreEnabled (after w (calls from (call.Fail (place_at w.setup from replica)))) (flat_map (fails_at w.setup replica) (range_with_len (from + 1) n))
        → AreEnabled w ((if b then calls from (call.Fail (place_at w.setup from replica)) ∷ [] else []) ++ flat_map (fails_at w.setup replica) (range_with_len (from + 1) n))
    by true within same next = ((omega arith, within refl, refl), next)
    by false within same next = same

-- ---- together
send_is : (w : World) (at : At) (size : ℕ) (o : Option EndState) → SendsAllowed → size < 2 ^ 16 → end_at w at ≡ o → is_living o ≡ true → AreEnabled w (send_at at (option_and_then (λ e. send_of e size) o))
send_is w at size None allowed small is e = tt
send_is w at size (Some d) allowed small is e = by (send_of d size) refl
  where
    by : (o : Option Part) → send_of d size ≡ o → AreEnabled w (send_at at o)
    by None none = tt
    by (Some s) some = ((d, is, allowed d size s small some), tt)

pub step_law : SendsAllowed → StepLaw
unfolding is_enabled
step_law allowed w (event.Open k) small e = ((e, small), tt)
step_law allowed w (event.Write at bytes) small e = (e, tt)
step_law allowed w (event.Close at) small e = (e, tt)
step_law allowed w (event.Send at size) small e = send_is w at size (end_at w at) allowed small refl e
step_law allowed w (event.TakeAt at n isn) small e = ((e, small), tt)
step_law allowed w (event.Refuse server port n) small e = (e, tt)
step_law allowed w (event.Abort at) small e = (e, tt)
step_law allowed w (event.Stray s) small e = (e, tt)
step_law allowed w (event.Take i n) small e =
    let a = and_parts (nat_lt i w.setup.instances) (may_handle w (slice_get w.sent n)) e in ((ltb-true i w.setup.instances a.0, a.1), tt)
step_law allowed w (event.Step i g) small e =
    let a = and_parts (nat_lt i w.setup.instances) (nat_lt g w.setup.shards) e in ((ltb-true g w.setup.shards a.1, ltb-true i w.setup.instances a.0, refl), tt)
step_law allowed w (event.Crash i) small e = crashes w.setup.shards 0 i w (ltb-true i w.setup.instances e) (omega arith)
step_law allowed w (event.Fail replica) small e = fails w.setup.shards 0 replica w (omega arith)
