-- What the code makes of the parts of a world is the world after the event.
use Rattle.std.proofs.Common.{◌≡◌, ℕ, zero, suc, ◌<◌, Bool, true, false, Option, Some, None, List, ◌++◌, length, refl, sym, ◌∙◌, ap, subst, arith}
use Rattle.std.specs.Prelude.{IsTrue, slice_get, slice_set, nat_lt, option_and_then}
use Rattle.std.proofs.lemmas.Bool.{ltb-true, and_parts}
use Rattle.std.proofs.lemmas.Option.{same_Some}
use Rattle.bench.specs.Bench.{served}
use Rattle.bench.specs.Histories.{flow_at}
use Rattle.bench.specs.declared.call.Call.{Call}
use Rattle.bench.specs.declared.call.Call.TheVariants.{Step}
use Rattle.bench.specs.declared.call.Reply.{Reply}
use Rattle.bench.specs.declared.call.Reply.TheVariants as reply
use Rattle.flow_id.specs.declared.key.Flow.{Flow}
use Rattle.job_core.specs.Jobs.{is_taken}
use Rattle.job_core.specs.declared.aim.Aim.{Aim}
use Rattle.job_core.specs.declared.aim.Aim.TheVariants as aim
use Rattle.rule_table.specs.Setups.{SetupView, IsSetup}
use Rattle.world_model.specs.After.{after, took, take_call}
use Rattle.world_model.specs.Enabled.{home}
use Rattle.world_model.specs.Events.{takes, calls}
use Rattle.world_model.specs.Flows.{aim_of}
use Rattle.world_model.specs.Outs.{index_taken, reply_sends}
use Rattle.world_model.specs.Placed.{sending, replied}
use Rattle.world_model.specs.Runs.{after_all}
use Rattle.world_model.specs.Told.{shard_sends}
use Rattle.world_model.specs.Posted.{Posted}
use Rattle.world_model.specs.Shape.{IsShard, HasShape}
use Rattle.world_model.specs.declared.client.ClientSpec.{ClientSpec}
use Rattle.world_model.specs.World.{World, Shard, ServerEnd, shard_at, bench_at, end_of_client}
use Rattle.world_model.proofs.Calling.{own_place}
use Rattle.world_model.proofs.Shapes.{the_shard}
use Rattle.world_model.specs.Enabled.{is_out, may_handle}
use Rattle.world_model.specs.Steps.{is_enabled, events_of, stepped, stepped_by, IsEvent, StepLaw}
use Rattle.world_model.specs.Reached.{IsReached}
use Rattle.world_model.proofs.Reaching.{goes_on}
use Rattle.world_model.specs.declared.event.Event.{Event}
use Rattle.world_model.specs.declared.event.Happened.TheVariants as happened
use Rattle.world_model.specs.declared.event.Event.TheVariants as event
use Rattle.std.specs.Prelude.{not, is_none}

-- ---- what is sent is told by four parts of the world
abbrev pub part : World → World
part w = sending w.setup w.clients w.servers w.sent

replied_same : (w : World) (taken : List (Option ℕ)) (flow : Option Flow) (i : ℕ) (r : Reply) → replied (part w) flow (index_taken taken i) r ≡ reply_sends w taken flow i r
replied_same w taken flow i (reply.Done v outs) = refl
replied_same w taken flow i reply.Going = refl
replied_same w taken flow i reply.Idle = refl
replied_same w taken flow i reply.Noted = refl

-- ---- a step
abbrev pub with_both : World → List Shard → List Posted → World
with_both w shards sent = record w { shards = shards; sent = sent }

pub stepped_is : (w : World) (g i : ℕ) (shards : List Shard) (sent : List Posted) → HasShape w → g < w.setup.shards
    → ((s : Shard) → slice_get w.shards g ≡ Some s → shards ≡ slice_set w.shards g (record { bench = (served s.bench (Step i)).0; taken = s.taken }))
    → ((s : Shard) → slice_get w.shards g ≡ Some s → sent ≡ w.sent ++ shard_sends (part w) s (Step i) (index_taken s.taken i))
    → with_both w shards sent ≡ after w (calls g (Step i))
stepped_is w g i shards sent shape below shards_are sent_is =
    let it = the_shard w g shape below in
    let s = it.0 in
    ap (λ (x : List Shard). with_both w x sent) (shards_are s it.1)
    ∙ ap (λ (y : List Posted). with_both w (slice_set w.shards g (record { bench = (served s.bench (Step i)).0; taken = s.taken })) y)
    (sent_is s it.1 ∙ ap (λ zs. w.sent ++ zs) (replied_same w s.taken (flow_at s.bench (Step i)) i (served s.bench (Step i)).1))
    ∙ ap (λ (t : Shard). with_both w (slice_set w.shards g (record { bench = (served t.bench (Step i)).0; taken = t.taken })) (w.sent ++ reply_sends w t.taken (flow_at t.bench (Step i)) i (served t.bench (Step i)).1)) (sym it.2)

-- ---- a segment is taken
counted : (n : ℕ) → IsTrue (Rattle.rule_table.specs.Setups.is_shard_count n) → 0 < n
counted zero is = absurd (cc)
counted (suc n) is = omega arith

home_below : (setup : SetupView) (a : Aim) → 0 < setup.shards → home setup a < setup.shards
home_below setup (aim.Client flow) some = omega arith
home_below setup (aim.Server server port) some = omega arith
home_below setup (aim.Odd flags) some = some
home_below setup aim.NotOurs some = some

pub home_within : (setup : SetupView) (a : Aim) → IsSetup setup → home setup a < setup.shards
home_within setup a good = home_below setup a (counted setup.shards good.shards)

-- the segment that the instance took last is this one
index_own : (taken : List (Option ℕ)) (i n : ℕ) → i < length taken → index_taken (slice_set taken i (Some n)) i ≡ Some n
index_own taken i n within = ap (option_and_then (λ (o : Option ℕ). o)) (own_place taken i (Some n) within)

-- the call by which instance i takes it, and the shard with it
abbrev pub call_of : World → ℕ → Posted → Call
call_of w i x = take_call w i 0 x.segment

abbrev pub home_of : World → Posted → ℕ
home_of w x = home w.setup (aim_of w.setup x.segment)

abbrev pub TakenShards : World → List Shard → List Shard → ℕ → ℕ → Posted → Type 0
TakenShards w old shards i n x =
    (s : Shard) → slice_get old (home_of w x) ≡ Some s
    → shards ≡ slice_set old (home_of w x) (record { bench = (served s.bench (call_of w i x)).0; taken = slice_set s.taken i (Some n) })

abbrev pub TakenSent : World → List Shard → List Posted → ℕ → ℕ → Posted → Type 0
TakenSent w old sent i n x = (s : Shard) → slice_get old (home_of w x) ≡ Some s → sent ≡ w.sent ++ shard_sends (part w) s (call_of w i x) (Some n)

pub took_is : (w : World) (i n : ℕ) (x : Posted) (shards : List Shard) (sent : List Posted) → HasShape w → i < w.setup.instances → slice_get w.sent n ≡ Some x
    → TakenShards w w.shards shards i n x → TakenSent w w.shards sent i n x → with_both w shards sent ≡ after w (takes i 0 n)
took_is w i n x shards sent shape within is shards_are sent_is =
    let g = home_of w x in
    let c = call_of w i x in
    let it = the_shard w g shape (home_within w.setup (aim_of w.setup x.segment) shape.good) in
    let s = it.0 in
    let own : index_taken (slice_set s.taken i (Some n)) i ≡ Some n = index_own s.taken i n (subst (λ (m : ℕ). i < m) (sym it.3.places) within) in
    ap (λ (y : List Shard). with_both w y sent) (shards_are s it.1)
    ∙ ap (λ (y : List Posted). with_both w (slice_set w.shards g (record { bench = (served s.bench c).0; taken = slice_set s.taken i (Some n) })) y)
    (sent_is s it.1
    ∙ ap (λ (o : Option ℕ). w.sent ++ replied (part w) (flow_at s.bench c) o (served s.bench c).1) (sym own)
    ∙ ap (λ zs. w.sent ++ zs) (replied_same w (slice_set s.taken i (Some n)) (flow_at s.bench c) i (served s.bench c).1))
    ∙ ap (λ (t : Shard). with_both w (slice_set w.shards g (record { bench = (served t.bench c).0; taken = slice_set t.taken i (Some n) }))
    (w.sent ++ reply_sends w (slice_set t.taken i (Some n)) (flow_at t.bench c) i (served t.bench c).1)) (sym it.2)
    ∙ ap (λ (o : Option Posted). took w i 0 n o) (sym is)

-- ---- what is known where it can happen
handle_parts : (w : World) (o : Option Posted) → may_handle w o ≡ true → (x : Posted) × (o ≡ Some x) × IsTrue (is_taken (aim_of w.setup x.segment))
handle_parts w None is = absurd (cc)
handle_parts w (Some x) is = (x, refl, (and_parts (not (is_out x.by)) (is_taken (aim_of w.setup x.segment)) is).1)

pub take_can : (w : World) (i n : ℕ) → is_enabled w (event.Take i n) ≡ true
    → (i < w.setup.instances) × ((x : Posted) × (slice_get w.sent n ≡ Some x) × IsTrue (is_taken (aim_of w.setup x.segment)))
unfolding is_enabled
take_can w i n e = let a = and_parts (nat_lt i w.setup.instances) (may_handle w (slice_get w.sent n)) e in (ltb-true i w.setup.instances a.0, handle_parts w (slice_get w.sent n) a.1)

pub take_known : (w : World) (i n : ℕ) → is_enabled w (event.Take i n) ≡ true → (x : Posted) → slice_get w.sent n ≡ Some x → IsTrue (is_taken (aim_of w.setup x.segment))
take_known w i n e x is = let it = take_can w i n e in subst (λ (y : Posted). IsTrue (is_taken (aim_of w.setup y.segment))) (same_Some it.1.0 x (sym it.1.1 ∙ is)) it.1.2

pub step_can : (w : World) (i g : ℕ) → is_enabled w (event.Step i g) ≡ true → (i < w.setup.instances) × (g < w.setup.shards)
unfolding is_enabled
step_can w i g e = let a = and_parts (nat_lt i w.setup.instances) (nat_lt g w.setup.shards) e in (ltb-true i w.setup.instances a.0, ltb-true g w.setup.shards a.1)

-- ---- the same by the names of the code: `v` is the world, `w` what it is made of
pub own_made : (w v : World) (shards : List Shard) → w ≡ v → HasShape v → shards ≡ w.shards → (g : ℕ) (s : Shard) → slice_get shards g ≡ Some s → IsShard w.setup g s
own_made w v shards is shape same g s here = (subst HasShape (sym is) shape).own g s (ap (λ (x : List Shard). slice_get x g) (sym same) ∙ here)

pub step_instance : (w v : World) (i g : ℕ) → w ≡ v → is_enabled v (event.Step i g) ≡ true → i < w.setup.instances
step_instance w v i g is can = (step_can w i g (subst (λ (x : World). is_enabled x (event.Step i g) ≡ true) (sym is) can)).0

pub step_within : (w v : World) (shards : List Shard) (i g : ℕ) → w ≡ v → HasShape v → is_enabled v (event.Step i g) ≡ true → shards ≡ w.shards → g < length shards
step_within w v shards i g is shape can same =
    subst (λ (n : ℕ). g < n) (sym (ap length same ∙ (subst HasShape (sym is) shape).shard_count))
    (step_can w i g (subst (λ (x : World). is_enabled x (event.Step i g) ≡ true) (sym is) can)).1

pub take_instance : (w v : World) (i n : ℕ) → w ≡ v → is_enabled v (event.Take i n) ≡ true → i < w.setup.instances
take_instance w v i n is can = (take_can w i n (subst (λ (x : World). is_enabled x (event.Take i n) ≡ true) (sym is) can)).0

pub take_taken : (w v : World) (sent : List Posted) (i n : ℕ) → w ≡ v → is_enabled v (event.Take i n) ≡ true → sent ≡ w.sent → (x : Posted) → slice_get sent n ≡ Some x → IsTrue (is_taken (aim_of w.setup x.segment))
take_taken w v sent i n is can same x here =
    take_known w i n (subst (λ (y : World). is_enabled y (event.Take i n) ≡ true) (sym is) can) x (ap (λ (xs : List Posted). slice_get xs n) (sym same) ∙ here)

pub step_made : (w v : World) (clients : List ClientSpec) (old shards : List Shard) (sent : List Posted) (g i : ℕ)
    → w ≡ v → HasShape v → is_enabled v (event.Step i g) ≡ true → clients ≡ w.clients → old ≡ w.shards
    → ((s : Shard) → slice_get old g ≡ Some s → shards ≡ slice_set old g (record { bench = (served s.bench (Step i)).0; taken = s.taken }))
    → ((s : Shard) → slice_get old g ≡ Some s → (servers : List ServerEnd)
    → sent ≡ w.sent ++ shard_sends (sending w.setup clients servers w.sent) s (Step i) (index_taken s.taken i))
    → with_both w shards sent ≡ after v (calls g (Step i))
step_made w v clients old shards sent g i is shape can clients_are old_is shards_are sent_is =
    let can_w = subst (λ (x : World). is_enabled x (event.Step i g) ≡ true) (sym is) can in
    stepped_is w g i shards sent (subst HasShape (sym is) shape) (step_can w i g can_w).1
    (subst (λ (xs : List Shard). (s : Shard) → slice_get xs g ≡ Some s → shards ≡ slice_set xs g (record { bench = (served s.bench (Step i)).0; taken = s.taken })) old_is shards_are)
    (subst (λ (xs : List Shard). (s : Shard) → slice_get xs g ≡ Some s → sent ≡ w.sent ++ shard_sends (part w) s (Step i) (index_taken s.taken i)) old_is
    (subst (λ (c : List ClientSpec). (s : Shard) → slice_get old g ≡ Some s → sent ≡ w.sent ++ shard_sends (sending w.setup c w.servers w.sent) s (Step i) (index_taken s.taken i)) clients_are
    (λ s here. sent_is s here w.servers)))
    ∙ ap (λ (x : World). after x (calls g (Step i))) is

pub take_made : (w v : World) (clients : List ClientSpec) (old shards : List Shard) (sent : List Posted) (i n : ℕ)
    → w ≡ v → HasShape v → is_enabled v (event.Take i n) ≡ true → clients ≡ w.clients → old ≡ w.shards
    → ((x : Posted) → slice_get w.sent n ≡ Some x → TakenShards w old shards i n x)
    → ((x : Posted) → slice_get w.sent n ≡ Some x → (s : Shard) → slice_get old (home_of w x) ≡ Some s → (servers : List ServerEnd)
    → sent ≡ w.sent ++ shard_sends (sending w.setup clients servers w.sent) s (call_of w i x) (Some n))
    → with_both w shards sent ≡ after v (takes i 0 n)
take_made w v clients old shards sent i n is shape can clients_are old_is shards_are sent_is =
    let it = take_can w i n (subst (λ (x : World). is_enabled x (event.Take i n) ≡ true) (sym is) can) in
    let x : Posted = it.1.0 in
    took_is w i n x shards sent (subst HasShape (sym is) shape) it.0 it.1.1
    (subst (λ (xs : List Shard). TakenShards w xs shards i n x) old_is (shards_are x it.1.1))
    (subst (λ (xs : List Shard). TakenSent w xs sent i n x) old_is
    (subst (λ (c : List ClientSpec). (s : Shard) → slice_get old (home_of w x) ≡ Some s → sent ≡ w.sent ++ shard_sends (sending w.setup c w.servers w.sent) s (call_of w i x) (Some n)) clients_are
    (λ s here. sent_is x it.1.1 s here w.servers)))
    ∙ ap (λ (x : World). after x (takes i 0 n)) is

pub open_within : (w v : World) (k : ℕ) → w ≡ v → HasShape v → is_enabled v (event.Open k) ≡ true → k < length w.ends
unfolding is_enabled
open_within w v k is shape can =
    let can_w = subst (λ (x : World). is_enabled x (event.Open k) ≡ true) (sym is) can in
    let a = and_parts (nat_lt k (length w.clients)) (is_none (end_of_client w k)) can_w in
    subst (λ (n : ℕ). k < n) (sym (subst HasShape (sym is) shape).end_count) (ltb-true k (length w.clients) a.0)

-- ---- a step
pub stepped_true : (w : World) (e : Event) → is_enabled w e ≡ true → stepped w e ≡ (after_all w (events_of w e), happened.Done)
stepped_true w e is = ap (λ b. stepped_by b w e) is

pub stepped_false : (w : World) (e : Event) → is_enabled w e ≡ false → stepped w e ≡ (w, happened.NotEnabled)
stepped_false w e is = ap (λ b. stepped_by b w e) is

pub made_reached : StepLaw → (w v : World) (e : Event) (b : Bool) → IsEvent w e → IsReached w → b ≡ is_enabled w e → b ≡ true → v ≡ after_all w (events_of w e) → IsReached v
made_reached law w v e b small r is can made = subst IsReached (sym made) (goes_on w (events_of w e) r (law w e small (sym is ∙ can)))
