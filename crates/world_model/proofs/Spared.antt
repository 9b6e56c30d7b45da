-- In a generated run each record keeps a copy: replica 0 alone fails, and each record has a copy elsewhere.
use Rattle.std.proofs.Common.{◌≡◌, ℕ, zero, suc, ◌+◌, Bool, true, false, Option, Some, None, List, [], ◌∷◌, map, refl, sym, ◌∙◌, ap, subst, arith, inl, inr}
use Rattle.std.specs.Prelude.{◌++◌, slice_get, slice_set, unwrap_or, nat_lt, if◌then◌else◌}
use Rattle.std.specs.List.{AllByRecursion, flat_map, range_with_len}
use Rattle.bench.specs.Bench.{BenchState, JobState, job_at, served, step_at}
use Rattle.bench.specs.declared.call.Call.{Call}
use Rattle.bench.specs.declared.call.Call.TheVariants.{Take, Step, Crash, Fail}
use Rattle.flow_id.specs.declared.key.Key.{Key}
use Rattle.flow_record.specs.declared.record.Record.{Record}
use Rattle.flow_record.specs.Records.{asked_key}
use Rattle.replica_cell.specs.Cells.{Replica, failed, put_answer, after_put}
use Rattle.replica_cell.specs.declared.answer.Put.{Put}
use Rattle.replica_cell.specs.declared.answer.Put.TheVariants as put
use Rattle.replica_cell.specs.declared.walk.Walk.{Walk}
use Rattle.replica_cell.specs.Stores.{Lives}
use Rattle.replica_cell.specs.Walks.{changed, cell_at}
use Rattle.rule_table.specs.Setups.{SetupView}
use Rattle.tcp_end.specs.EndState.{EndState, written_more, closed_end}
use Rattle.tcp_end.specs.declared.sent.Sent.{Sent}
use Rattle.world_model.specs.declared.at.At.{At}
use Rattle.world_model.specs.declared.at.At.TheVariants.{Client, Server}
use Rattle.world_model.specs.declared.client.ClientSpec.{ClientSpec}
use Rattle.world_model.specs.declared.event.Event.{Event}
use Rattle.world_model.specs.declared.event.Event.TheVariants as event
use Rattle.world_model.specs.Acks.{AcksAreBacked}
use Rattle.world_model.specs.After.{after, changed_by, sent_by, aborted_by, received_at, received, refused, called, took, take_call}
use Rattle.world_model.specs.DrivenSetup.{driven_setup, driven_clients}
use Rattle.world_model.specs.Enabled.{home}
use Rattle.world_model.specs.Events.{WorldEvent, opens, writes, closes, sends, aborts, receives, refuses, strays, takes, calls}
use Rattle.world_model.specs.Flows.{aim_of}
use Rattle.world_model.specs.Posted.{Posted}
use Rattle.world_model.specs.Reached.{IsReached}
use Rattle.world_model.specs.Routes.{Rest}
use Rattle.world_model.specs.Runs.{after_all, AllLive}
use Rattle.world_model.specs.Safety.{IsSafeNow}
use Rattle.world_model.specs.Schedule.{made, driven}
use Rattle.world_model.specs.Steps.{events_of, fails_at, is_enabled, place_at, send_at, stepped_by}
use Rattle.world_model.specs.Streams.{StreamsAgree}
use Rattle.world_model.specs.World.{World, Shard, start, no_shard, shard_at, bench_at, end_at, with_end}
use Rattle.world_model.proofs.Following.{IsMild, driven_keeps}

-- ---- a list of replicas whose member at a place is living
abbrev LivesAt : ℕ → List Replica → Type 0
LivesAt place [] = ⊥
LivesAt zero (c ∷ cells) = c.living ≡ true
LivesAt (suc place) (c ∷ cells) = LivesAt place cells

lives_there : (place : ℕ) (cells : List Replica) → LivesAt place cells → Lives cells
lives_there place [] lives = lives
lives_there zero (c ∷ cells) lives = inl lives
lives_there (suc place) (c ∷ cells) lives = inr (lives_there place cells lives)

-- it lives on where a member changes that is as living as it was ..
same_lives : (f : Replica → Replica) → ((c : Replica) → (f c).living ≡ c.living) → (n place : ℕ) (cells : List Replica) → LivesAt place cells → LivesAt place (changed n f cells)
same_lives f same n place [] lives = lives
same_lives f same zero zero (c ∷ cells) lives = same c ∙ lives
same_lives f same zero (suc place) (c ∷ cells) lives = lives
same_lives f same (suc n) zero (c ∷ cells) lives = lives
same_lives f same (suc n) (suc place) (c ∷ cells) lives = same_lives f same n place cells lives

-- .. and where another changes
other_lives : (f : Replica → Replica) (n place : ℕ) → (n ≡ place → ⊥) → (cells : List Replica) → LivesAt place cells → LivesAt place (changed n f cells)
other_lives f n place other [] lives = lives
other_lives f zero zero other (c ∷ cells) lives = absurd (other refl)
other_lives f zero (suc place) other (c ∷ cells) lives = lives
other_lives f (suc n) zero other (c ∷ cells) lives = lives
other_lives f (suc n) (suc place) other (c ∷ cells) lives = other_lives f n place (λ e. other (ap suc e)) cells lives

put_living : (c : Replica) (k : Key) (r : Record) (a : Put) → (after_put c k r a).living ≡ c.living
put_living c k r put.Stored = refl
put_living c k r (put.Found q) = refl
put_living c k r put.Failed = refl

cell_living : (o : Option Record) (w : Walk) (c : Replica) → (cell_at o w c).living ≡ c.living
cell_living None w c = refl
cell_living (Some r) w c = put_living c (asked_key w.ask) r (put_answer c (asked_key w.ask))

-- ---- a place of each shard's list at which replica 0 is not
abbrev not_at : ℕ → ℕ
not_at zero = 1
not_at (suc place) = 0

abbrev spared : ℕ → ℕ
spared g = not_at (place_at driven_setup g 0)

apart : (place : ℕ) → place ≡ not_at place → ⊥
apart zero same = absurd (cc)
apart (suc place) same = absurd (cc)

-- a failure is one of replica 0
abbrev IsMildCall : ℕ → Call → Type 0
IsMildCall g (Fail place) = place ≡ place_at driven_setup g 0
IsMildCall g _ = Unit {0}

step_spares : (b : BenchState) (g i : ℕ) (o : Option JobState) → LivesAt (spared g) b.cells → LivesAt (spared g) (step_at b i o).0.cells
step_spares b g i None lives = lives
step_spares b g i (Some job) lives = same_lives (cell_at job.walk.carried job.walk) (cell_living job.walk.carried job.walk) job.walk.place (spared g) b.cells lives

call_spares : (b : BenchState) (g : ℕ) (c : Call) → IsMildCall g c → LivesAt (spared g) b.cells → LivesAt (spared g) (served b c).0.cells
call_spares b g (Take i item a s) mild lives = lives
call_spares b g (Step i) mild lives = step_spares b g i (job_at b.desks i) lives
call_spares b g (Crash i) mild lives = lives
call_spares b g (Fail place) mild lives = other_lives failed place (spared g) (λ same. apart (place_at driven_setup g 0) (sym mild ∙ same)) b.cells lives

-- ---- the shards from one on
abbrev AreSpared : ℕ → List Shard → Type 0
AreSpared g [] = Unit {0}
AreSpared g (s ∷ shards) = LivesAt (spared g) s.bench.cells × AreSpared (suc g) shards

all_live : (g : ℕ) (shards : List Shard) → AreSpared g shards → AllByRecursion (λ (s : Shard). Lives s.bench.cells) shards
all_live g [] spares = tt
all_live g (s ∷ shards) spares = (lives_there (spared g) s.bench.cells spares.0, all_live (suc g) shards spares.1)

set_spares : (g n h : ℕ) (shards : List Shard) (s d : Shard) → g + n ≡ h → (LivesAt (spared h) (unwrap_or (slice_get shards n) d).bench.cells → LivesAt (spared h) s.bench.cells)
    → AreSpared g shards → AreSpared g (slice_set shards n s)
set_spares g n h [] s d at still spares = tt
set_spares g zero h (t ∷ shards) s d at still spares =
    let same : h ≡ g = omega (arith, at) in
    (subst (λ k. LivesAt (spared k) s.bench.cells) same (still (subst (λ k. LivesAt (spared k) t.bench.cells) (sym same) spares.0)), spares.1)
set_spares g (suc n) h (t ∷ shards) s d at still spares = (spares.0, set_spares (suc g) n h shards s d (let e : suc g + n ≡ h = omega (arith, at) in e) still spares.1)

-- ---- the world
record Spares (w : World) : Type 0 where
  pub setup : w.setup ≡ driven_setup
  pub shards : AreSpared 0 w.shards

abbrev IsMildEvent : WorldEvent → Type 0
IsMildEvent (calls g c) = IsMildCall g c
IsMildEvent _ = Unit {0}

called_spares : (w : World) (g : ℕ) (taken : List (Option ℕ)) (c : Call) → IsMildCall g c → Spares w → Spares (called w g taken c)
called_spares w g taken c mild spares = record {
  setup = spares.setup;
  shards = set_spares 0 g g w.shards (record { bench = (served (bench_at w g) c).0; taken = taken }) (no_shard w.setup) (let e : 0 + g ≡ g = omega arith in e)
      (λ lives. call_spares (bench_at w g) g c mild lives) spares.shards;
}

with_end_spares : (w : World) (at : At) (e : EndState) → Spares w → Spares (with_end w at e)
with_end_spares w (Client k) e spares = record { setup = spares.setup; shards = spares.shards }
with_end_spares w (Server v p) e spares = record { setup = spares.setup; shards = spares.shards }

changed_spares : (w : World) (at : At) (f : EndState → EndState) (o : Option EndState) → Spares w → Spares (changed_by w at f o)
changed_spares w at f None spares = spares
changed_spares w at f (Some e) spares = with_end_spares w at (f e) spares

sent_spares : (w : World) (at : At) (s : Sent) (rest : Rest) (o : Option EndState) → Spares w → Spares (sent_by w at s rest o)
sent_spares w at s rest None spares = spares
sent_spares w at s rest (Some e) spares = record { setup = spares.setup; shards = spares.shards }

aborted_spares : (w : World) (at : At) (rest : Rest) (o : Option EndState) → Spares w → Spares (aborted_by w at rest o)
aborted_spares w at rest None spares = spares
aborted_spares w (Client k) rest (Some e) spares = record { setup = spares.setup; shards = spares.shards }
aborted_spares w (Server v p) rest (Some e) spares = record { setup = spares.setup; shards = spares.shards }

received_at_spares : (w : World) (at : At) (n : ℕ) (isn : _) (x : Posted) (o : Option EndState) → Spares w → Spares (received_at w at n isn x.segment o)
received_at_spares w (Client k) n isn x None spares = spares
received_at_spares w (Server v p) n isn x None spares = record { setup = spares.setup; shards = spares.shards }
received_at_spares w at n isn x (Some e) spares = with_end_spares w at _ spares

received_spares : (w : World) (at : At) (n : ℕ) (isn : _) (o : Option Posted) → Spares w → Spares (received w at n isn o)
received_spares w at n isn None spares = spares
received_spares w at n isn (Some x) spares = received_at_spares w at n isn x (end_at w at) spares

refused_spares : (w : World) (v p : ℕ) (rest : Rest) (o : Option Posted) → Spares w → Spares (refused w v p rest o)
refused_spares w v p rest None spares = spares
refused_spares w v p rest (Some x) spares = record { setup = spares.setup; shards = spares.shards }

took_spares : (w : World) (i item n : ℕ) (o : Option Posted) → Spares w → Spares (took w i item n o)
took_spares w i item n None spares = spares
took_spares w i item n (Some x) spares = called_spares w (home w.setup (aim_of w.setup x.segment)) _ (take_call w i item x.segment) tt spares

after_spares : (w : World) (e : WorldEvent) → IsMildEvent e → Spares w → Spares (after w e)
after_spares w (opens k) mild spares = record { setup = spares.setup; shards = spares.shards }
after_spares w (writes at bytes) mild spares = changed_spares w at (λ d. written_more d bytes) (end_at w at) spares
after_spares w (closes at) mild spares = changed_spares w at closed_end (end_at w at) spares
after_spares w (sends at s rest) mild spares = sent_spares w at s rest (end_at w at) spares
after_spares w (aborts at rest) mild spares = aborted_spares w at rest (end_at w at) spares
after_spares w (receives at n isn) mild spares = received_spares w at n isn (slice_get w.sent n) spares
after_spares w (refuses v p n rest) mild spares = refused_spares w v p rest (slice_get w.sent n) spares
after_spares w (strays s) mild spares = record { setup = spares.setup; shards = spares.shards }
after_spares w (takes i item n) mild spares = took_spares w i item n (slice_get w.sent n) spares
after_spares w (calls g c) mild spares = called_spares w g (shard_at w g).taken c mild spares

all_spare : (events : List WorldEvent) (w : World) → AllByRecursion IsMildEvent events → Spares w → Spares (after_all w events)
all_spare [] w mild spares = spares
all_spare (e ∷ events) w mild spares = all_spare events (after w e) mild.1 (after_spares w e mild.0 spares)

-- ---- an event that is asked for
send_mild : (at : At) (o : Option Sent) → AllByRecursion IsMildEvent (send_at at o)
send_mild at None = tt
send_mild at (Some s) = (tt, tt)

crash_mild : (i : ℕ) (shards : List ℕ) → AllByRecursion IsMildEvent (map (λ g. calls g (Crash i)) shards)
crash_mild i [] = tt
crash_mild i (g ∷ shards) = (tt, crash_mild i shards)

fail_mild : (setup : SetupView) → setup ≡ driven_setup → (shards : List ℕ) → AllByRecursion IsMildEvent (flat_map (fails_at setup 0) shards)
fail_mild setup is [] = tt
fail_mild setup is (g ∷ shards) = by (nat_lt (place_at setup g 0) setup.copies) (fail_mild setup is shards)
  where
    by : (b : Bool) → AllByRecursion IsMildEvent (flat_map (fails_at setup 0) shards)
        → AllByRecursion IsMildEvent ((if b then calls g (Fail (place_at setup g 0)) ∷ [] else []) ++ flat_map (fails_at setup 0) shards)
    by true rest = (ap (λ (s : SetupView). place_at s g 0) is, rest)
    by false rest = rest

events_mild : (w : World) (e : Event) → IsMild e → w.setup ≡ driven_setup → AllByRecursion IsMildEvent (events_of w e)
events_mild w (event.Open k) mild is = (tt, tt)
events_mild w (event.Write at bytes) mild is = (tt, tt)
events_mild w (event.Close at) mild is = (tt, tt)
events_mild w (event.Send at size) mild is = send_mild at _
events_mild w (event.TakeAt at n isn) mild is = (tt, tt)
events_mild w (event.Refuse server port n) mild is = (tt, tt)
events_mild w (event.Abort at) mild is = (tt, tt)
events_mild w (event.Stray s) mild is = (tt, tt)
events_mild w (event.Take i n) mild is = (tt, tt)
events_mild w (event.Step i g) mild is = (tt, tt)
events_mild w (event.Crash i) mild is = crash_mild i (range_with_len 0 w.setup.shards)
events_mild w (event.Fail replica) mild is =
    subst (λ (r : ℕ). AllByRecursion IsMildEvent (flat_map (fails_at w.setup r) (range_with_len 0 w.setup.shards))) (sym mild) (fail_mild w.setup is (range_with_len 0 w.setup.shards))

made_spares : (w : World) (e : Event) → IsMild e → Spares w → Spares (made w e)
unfolding made
made_spares w e mild spares = by (is_enabled w e)
  where
    by : (b : Bool) → Spares (stepped_by b w e).0
    by true = all_spare (events_of w e) w (events_mild w e mild spares.setup) spares
    by false = spares

-- ---- the run
first_spares : (clients : List ClientSpec) → Spares (start driven_setup clients)
unfolding driven_setup
first_spares clients = record { setup = refl; shards = (refl, (refl, (refl, (refl, tt)))) }

driven_lives : (flows bytes number : ℕ) → AllLive (driven flows bytes number)
driven_lives flows bytes number = all_live 0 _ (driven_keeps Spares made_spares flows bytes number (first_spares (driven_clients number flows))).shards

-- what is known of every world says of this one that it is safe
pub driven_safe : (w : World) (flows bytes number : ℕ) → w ≡ driven flows bytes number → IsReached w → IsSafeNow w
    → StreamsAgree (driven flows bytes number) × AcksAreBacked (driven flows bytes number)
driven_safe w flows bytes number is reached safe =
    subst (λ (v : World). StreamsAgree v × AcksAreBacked v) is
    (let it = safe reached.events reached.can reached.is (subst AllLive (sym is) (driven_lives flows bytes number)) in (it.streams, it.acks))
