-- What the code makes of a world's ends, and of what they send, is the world after the event.
use Rattle.std.proofs.Common.{◌≡◌, ℕ, ◌+◌, ◌<◌, Bool, cond, true, false, Option, Some, None, List, [], ◌∷◌, ◌++◌, length, refl, sym, ◌∙◌, ap, subst, arith}
use Rattle.std.specs.Prelude.{slice_get, slice_set, find, is_some, option_map, option_and_then, not, if◌then◌else◌}
use Rattle.std.proofs.lemmas.Bool.{and_parts, ltb-true}
use Rattle.std.proofs.lemmas.Option.{none-some, same_Some}
use Rattle.seq_space.specs.declared.Num.{Num}
use Rattle.tcp_end.specs.EndState.{EndState, dead_end, next_expected, next_expected_of}
use Rattle.tcp_end.specs.EndState.{server_end as made_end}
use Rattle.tcp_end.specs.Sending.{acknowledged_to, acknowledges, reset_of, reset_to, send_of}
use Rattle.tcp_end.specs.Taking.{taken}
use Rattle.tcp_end.specs.declared.sent.Sent.{Sent as Part}
use Rattle.world_model.specs.declared.at.At.{At}
use Rattle.world_model.specs.declared.at.At.TheVariants.{Client, Server}
use Rattle.world_model.specs.declared.event.Event.{Event}
use Rattle.world_model.specs.declared.event.Event.TheVariants as event
use Rattle.world_model.specs.After.{placed_at, sent_by, aborted_by, received, received_at, refused}
use Rattle.world_model.specs.Flows.{client_behind}
use Rattle.world_model.specs.Posted.{Posted, end, nowhere}
use Rattle.world_model.specs.Routes.{route_of, segment_on}
use Rattle.world_model.specs.Runs.{after_all}
use Rattle.world_model.specs.Sending.{next_of, next_sent, with_any}
use Rattle.world_model.specs.Slots.{end_in, ends_with, servers_with}
use Rattle.world_model.specs.Enabled.{goes_to_end, is_living, may_receive, may_take, may_write}
use Rattle.world_model.specs.Steps.{plain, send_at, is_enabled, events_of}
use Rattle.world_model.specs.World.{World, ServerEnd, is_end, end_at, with_end, with_server_end}
use Rattle.world_model.proofs.Swaps.{client_there}
use Rattle.world_model.proofs.Writing.{get_within, got_within}

-- ---- the world and what it is made of
abbrev pub IsMade : World → Event → World → Type 0
IsMade w e new = new ≡ after_all w (events_of w e)

pub by_view : (w v new : World) (e : Event) → w ≡ v → IsMade w e new → IsMade v e new
by_view w v new e is made = made ∙ ap (λ x. after_all x (events_of x e)) is

pub can_view : (w v : World) (e : Event) → w ≡ v → is_enabled v e ≡ true → is_enabled w e ≡ true
can_view w v e is can = subst (λ x. is_enabled x e ≡ true) (sym is) can

-- ---- an end is there
pub close_there : (w : World) (at : At) → is_enabled w (event.Close at) ≡ true → is_some (end_at w at) ≡ true
unfolding is_enabled
close_there w at can = can

write_some : (o : Option EndState) → may_write o ≡ true → is_some o ≡ true
write_some None can = absurd (cc)
write_some (Some e) can = refl

pub write_there : (w : World) (at : At) (bytes : List ℕ) → is_enabled w (event.Write at bytes) ≡ true → is_some (end_at w at) ≡ true
unfolding is_enabled
write_there w at bytes can = write_some (end_at w at) can

living_end : (o : Option EndState) → is_living o ≡ true → (e : EndState) × (o ≡ Some e) × (e.dead ≡ false)
living_end None can = absurd (cc)
living_end (Some e) can = (e, refl, alive e.dead can)
  where
    alive : (b : Bool) → not b ≡ true → b ≡ false
    alive true is = absurd (cc)
    alive false is = refl

pub abort_living : (w : World) (at : At) → is_enabled w (event.Abort at) ≡ true → (e : EndState) × (end_at w at ≡ Some e) × (e.dead ≡ false)
unfolding is_enabled
abort_living w at can = living_end (end_at w at) can

-- ---- an end sends
pub sends_is : (w : World) (at : At) (size : ℕ) → with_any w (next_sent w at size) ≡ after_all w (events_of w (event.Send at size))
sends_is w at size = by (end_at w at) refl
  where
    part : (e : EndState) → end_at w at ≡ Some e → (o : Option Part)
        → with_any w (option_map (λ s. placed_at (client_behind w at) at e s (segment_on (route_of w.setup w.clients at) s plain)) o) ≡ after_all w (send_at at o)
    part e is None = refl
    part e is (Some s) = sym (ap (λ (o : Option EndState). sent_by w at s plain o) is)

    by : (o : Option EndState) → end_at w at ≡ o → with_any w (next_of w at size o) ≡ after_all w (send_at at (option_and_then (λ e. send_of e size) o))
    by None is = refl
    by (Some e) is = part e is (send_of e size)

pub sent_made : (w : World) (at : At) (size : ℕ) (o : Option Posted) → o ≡ next_sent w at size → IsMade w (event.Send at size) (with_any w o)
sent_made w at size o is = ap (λ (x : Option Posted). with_any w x) is ∙ sends_is w at size

-- ---- an end takes a segment
take_parts : (w : World) (at : At) (o : Option Posted) → may_take w at o ≡ true → (x : Posted) × (o ≡ Some x) × (may_receive w at x (end_at w at) ≡ true)
take_parts w at None can = absurd (cc)
take_parts w at (Some x) can = (x, refl, (and_parts (goes_to_end w at x) (may_receive w at x (end_at w at)) can).1)

pub take_known : (w : World) (at : At) (n : ℕ) (isn : Num) → is_enabled w (event.TakeAt at n isn) ≡ true
    → (x : Posted) × (slice_get w.sent n ≡ Some x) × (may_receive w at x (end_at w at) ≡ true)
unfolding is_enabled
take_known w at n isn can = take_parts w at (slice_get w.sent n) can

client_receives : (w : World) (k : ℕ) (x : Posted) (o : Option EndState) → may_receive w (Client k) x o ≡ true → is_some o ≡ true
client_receives w k x None can = absurd (cc)
client_receives w k x (Some e) can = refl

pub takes_there : (w : World) (k n : ℕ) (isn : Num) → is_enabled w (event.TakeAt (Client k) n isn) ≡ true → (e : EndState) × (slice_get w.ends k ≡ Some (Some e))
takes_there w k n isn can =
    let it = take_known w (Client k) n isn can in
    client_there w.ends k (client_receives w k it.0 (end_at w (Client k)) it.2)

pub takes_within : (w : World) (k n : ℕ) (isn : Num) → is_enabled w (event.TakeAt (Client k) n isn) ≡ true → k < length w.ends
takes_within w k n isn can = let it = takes_there w k n isn can in get_within w.ends k (Some it.0) it.1

pub client_takes : (w : World) (k n : ℕ) (isn : Num) (sent : List Posted) (ends : List (Option EndState)) → is_enabled w (event.TakeAt (Client k) n isn) ≡ true → sent ≡ w.sent
    → ((x : Posted) (e : EndState) → slice_get sent n ≡ Some x → slice_get w.ends k ≡ Some (Some e) → ends ≡ slice_set w.ends k (Some (taken e x.segment.head x.segment.body)))
    → IsMade w (event.TakeAt (Client k) n isn) (record w { ends = ends })
client_takes w k n isn sent ends can same made =
    let it = take_known w (Client k) n isn can in
    let there = takes_there w k n isn can in
    ap (λ (xs : List (Option EndState)). record w { ends = xs }) (made it.0 there.0 (ap (λ (xs : List Posted). slice_get xs n) same ∙ it.1) there.1)
    ∙ ap (λ (o : Option (Option EndState)). received_at w (Client k) n isn it.0.segment (option_and_then (λ e. e) o)) (sym there.1)
    ∙ ap (λ (o : Option Posted). received w (Client k) n isn o) (sym it.1)

pub server_takes : (w : World) (v p n : ℕ) (isn : Num) (sent : List Posted) (servers : List ServerEnd) → is_enabled w (event.TakeAt (Server v p) n isn) ≡ true → sent ≡ w.sent
    → ((x : Posted) (s : ServerEnd) → slice_get sent n ≡ Some x → find (is_end v p) w.servers ≡ Some s → servers ≡ with_server_end w.servers v p (taken s.state x.segment.head x.segment.body))
    → ((x : Posted) → slice_get sent n ≡ Some x → find (is_end v p) w.servers ≡ None → servers ≡ w.servers ++ record { server = v; port = p; maker = n; state = made_end isn x.segment.head.seq } ∷ [])
    → IsMade w (event.TakeAt (Server v p) n isn) (record w { servers = servers })
server_takes w v p n isn sent servers can same there made =
    let it = take_known w (Server v p) n isn can in
    by it.0 (ap (λ (xs : List Posted). slice_get xs n) same ∙ it.1) (find (is_end v p) w.servers) refl
    ∙ ap (λ (o : Option Posted). received w (Server v p) n isn o) (sym it.1)
  where
    by : (x : Posted) → slice_get sent n ≡ Some x → (o : Option ServerEnd) → find (is_end v p) w.servers ≡ o
        → record w { servers = servers } ≡ received_at w (Server v p) n isn x.segment (end_at w (Server v p))
    by x here None found =
        ap (λ (xs : List ServerEnd). record w { servers = xs }) (made x here found)
        ∙ ap (λ (o : Option ServerEnd). received_at w (Server v p) n isn x.segment (option_map (λ s. s.state) o)) (sym found)
    by x here (Some s) found =
        ap (λ (xs : List ServerEnd). record w { servers = xs }) (there x s here found)
        ∙ ap (λ (o : Option ServerEnd). received_at w (Server v p) n isn x.segment (option_map (λ s. s.state) o)) (sym found)

-- ---- an end refuses or aborts
pub refused_made : (w : World) (v p n : ℕ) (o : Option Posted) → slice_get w.sent n ≡ o → IsMade w (event.Refuse v p n) (refused w v p plain o)
refused_made w v p n o is = ap (λ (x : Option Posted). refused w v p plain x) (sym is)

pub end_same_in : (w : World) (at : At) → end_in w.ends w.servers at ≡ end_at w at
end_same_in w (Client k) = refl
end_same_in w (Server v p) = refl

abbrev pub with_ends : World → List (Option EndState) → List ServerEnd → List Posted → World
with_ends w ends servers sent = record w { ends = ends; servers = servers; sent = sent }

dead_is : (w : World) (at : At) (e : EndState) (sent : List Posted) → with_ends w (ends_with at e w.ends) (servers_with at e w.servers) sent ≡ record (with_end w at e) { sent = sent }
dead_is w (Client k) e sent = refl
dead_is w (Server v p) e sent = refl

same_sent : (w : World) (at : At) (e : EndState) → (with_end w at e).sent ≡ w.sent
same_sent w (Client k) e = refl
same_sent w (Server v p) e = refl

-- the reset of an end that is not dead
reset_is : (e : EndState) → e.dead ≡ false → reset_of e ≡ Some (reset_to e.peer e)
reset_is e alive = ap (λ b. cond b None (Some (reset_to e.peer e))) alive

pub aborted_made : (w : World) (at : At) (ends : List (Option EndState)) (servers : List ServerEnd) (part : Part) → is_enabled w (event.Abort at) ≡ true
    → ((e : EndState) → end_in w.ends w.servers at ≡ Some e → ends ≡ ends_with at (dead_end e) w.ends)
    → ((e : EndState) → end_in w.ends w.servers at ≡ Some e → servers ≡ servers_with at (dead_end e) w.servers)
    → ((e : EndState) → end_in w.ends w.servers at ≡ Some e → Some part ≡ reset_of e)
    → IsMade w (event.Abort at) (with_ends w ends servers (w.sent ++ nowhere (end at) (segment_on (route_of w.setup w.clients at) part plain) ∷ []))
aborted_made w at ends servers part can ends_are servers_are reset =
    let it = abort_living w at can in
    let e = it.0 in
    let here : end_in w.ends w.servers at ≡ Some e = end_same_in w at ∙ it.1 in
    let its : part ≡ reset_to e.peer e = same_Some part (reset_to e.peer e) (reset e here ∙ reset_is e it.2) in
    let x = λ (s : Part). nowhere (end at) (segment_on (route_of w.setup w.clients at) s plain) in
    ap (λ (xs : List (Option EndState)). with_ends w xs servers (w.sent ++ x part ∷ [])) (ends_are e here)
    ∙ ap (λ (xs : List ServerEnd). with_ends w (ends_with at (dead_end e) w.ends) xs (w.sent ++ x part ∷ [])) (servers_are e here)
    ∙ ap (λ (s : Part). with_ends w (ends_with at (dead_end e) w.ends) (servers_with at (dead_end e) w.servers) (w.sent ++ x s ∷ [])) its
    ∙ dead_is w at (dead_end e) (w.sent ++ x (reset_to e.peer e) ∷ [])
    ∙ ap (λ (xs : List Posted). record (with_end w at (dead_end e)) { sent = xs ++ x (reset_to e.peer e) ∷ [] }) (sym (same_sent w at (dead_end e)))
    ∙ ap (λ (o : Option EndState). aborted_by w at plain o) (sym it.1)

pub abort_there : (w : World) (at : At) → is_enabled w (event.Abort at) ≡ true → is_some (end_in w.ends w.servers at) ≡ true
abort_there w at can = let it = abort_living w at can in ap (λ (o : Option EndState). is_some o) (end_same_in w at ∙ it.1)

-- a living end hands a reset back
pub no_reset : {A : Type 0} (w : World) (at : At) → is_enabled w (event.Abort at) ≡ true
    → ((e : EndState) → end_in w.ends w.servers at ≡ Some e → None ≡ reset_of e) → A
no_reset w at can none =
    let it = abort_living w at can in
    absurd (none-some (reset_to it.0.peer it.0) (none it.0 (end_same_in w at ∙ it.1) ∙ reset_is it.0 it.2))

-- ---- what an end acknowledges
expected_some : (received : List ℕ) (b : Bool) → length received + (if b then 2 else 1) ≡ 0 → ⊥
expected_some received true is = omega arith
expected_some received false is = omega arith

pub acknowledges_none : (e : EndState) (n : ℕ) → n ≡ next_expected e → n ≡ 0 → None ≡ acknowledges e
acknowledges_none e n is none = by e.peer (sym is ∙ none)
  where
    by : (o : Option Num) → next_expected_of o e ≡ 0 → None ≡ acknowledged_to o e
    by None is = refl
    by (Some peer) is = absurd (expected_some e.received e.saw_close is)

pub acknowledges_some : (e : EndState) (n : ℕ) → n ≡ next_expected e → (n ≡ 0 → ⊥) → Some n ≡ acknowledges e
acknowledges_some e n is some = by e.peer is
  where
    by : (o : Option Num) → n ≡ next_expected_of o e → Some n ≡ acknowledged_to o e
    by None is = absurd (some is)
    by (Some peer) is = ap (λ (m : ℕ). Some m) is

-- what stands in a list is found there
pub found_none : {A X : Type 0} (xs : List X) (i : ℕ) → i < length xs → slice_get xs i ≡ None → A
found_none xs i within none = let got = got_within xs i within in absurd (none-some got.0 (sym none ∙ got.1))

-- the end that takes, by another name
pub made_at : (w : World) (a b : At) (n : ℕ) (isn : Num) (new : World) → a ≡ b → IsMade w (event.TakeAt b n isn) new → IsMade w (event.TakeAt a n isn) new
made_at w a b n isn new is made = subst (λ x. IsMade w (event.TakeAt x n isn) new) (sym is) made

-- ---- every shard is called
pub crash_can : (w : World) (i : ℕ) → is_enabled w (event.Crash i) ≡ true → i < w.setup.instances
unfolding is_enabled
crash_can w i can = ltb-true i w.setup.instances can

pub fail_can : (w : World) (replica : ℕ) → is_enabled w (event.Fail replica) ≡ true → replica < w.setup.replicas
unfolding is_enabled
fail_can w replica can = ltb-true replica w.setup.replicas can
