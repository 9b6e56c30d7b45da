-- What the code of a generated run makes of a world is what the schedule says.
use Rattle.std.proofs.Common.{◌≡◌, ℕ, zero, suc, ◌<◌, ◌≤◌, ◌%◌, Bool, true, false, Option, Some, None, List, [], ◌∷◌, ◌++◌, length, refl, sym, ◌∙◌, ap, arith}
use Rattle.std.specs.Prelude.{is_some, slice_get, slice_set, unwrap_or, if◌then◌else◌}
use Rattle.std.proofs.lemmas.Bool.{lt-ltb, le-ltb, eq-eqb, ne_eqb}
use Rattle.std.proofs.lemmas.List.{append-nil}
use Rattle.bench.specs.Bench.{BenchState, JobState, job_at, step_at}
use Rattle.bench.specs.Blocks.{budget}
use Rattle.bench.specs.Histories.{flow_at}
use Rattle.bench.specs.declared.call.Call.TheVariants.{Step}
use Rattle.bench.specs.declared.call.Reply.{Reply}
use Rattle.drive_plan.specs.Generator.{next_state, drawn, after_turn, turn_of}
use Rattle.drive_plan.specs.declared.generator.Turn.{Turn}
use Rattle.world_model.specs.After.{after}
use Rattle.world_model.specs.Enabled.{is_living}
use Rattle.world_model.specs.Events.{calls}
use Rattle.world_model.specs.Outs.{reply_sends}
use Rattle.world_model.specs.Posted.{Posted}
use Rattle.world_model.specs.Schedule.{moment, made, server_named, sent_by_any, sent_by_drawn, end_for, taken_by, taken_drawn, turned, turn_made, shard_for, stepped_on, stepped_out, handled, out_by, out_taken, sent_and_handled, exchanged, is_over, clients_exchanged, servers_exchanged, round_made}
use Rattle.world_model.specs.Steps.{is_enabled, stepped, stepped_by}
use Rattle.world_model.specs.World.{World, Shard, no_shard, shard_at, bench_at, end_at}
use Rattle.world_model.specs.declared.at.At.{At}
use Rattle.world_model.specs.declared.at.At.TheVariants.{Client}
use Rattle.world_model.specs.declared.event.Event.{Event}
use Rattle.world_model.specs.declared.event.Event.TheVariants as event
use Rattle.world_model.specs.declared.event.Happened.TheVariants as happened

pub made_is : (w v : World) (e : Event) → v ≡ (stepped w e).0 → v ≡ made w e
unfolding made
made_is w v e is = is

-- ---- the rough part
pub none_sends : (w : World) (a : ℕ) → length w.servers ≡ 0 → sent_by_drawn w a ≡ w
unfolding sent_by_drawn
none_sends w a none = ap (λ (b : Bool). if b then w else sent_by_any w (server_named w (a % length w.servers))) (eq-eqb (length w.servers) 0 none)

pub one_sends : (w : World) (a : ℕ) → (length w.servers ≡ 0 → ⊥) → sent_by_drawn w a ≡ sent_by_any w (server_named w (a % length w.servers))
unfolding sent_by_drawn
one_sends w a some = ap (λ (b : Bool). if b then w else sent_by_any w (server_named w (a % length w.servers))) (ne_eqb (length w.servers) 0 some)

pub none_taken : (bytes : ℕ) (w : World) (c d : ℕ) → length w.sent ≡ 0 → taken_drawn bytes w c d ≡ w
unfolding taken_drawn
none_taken bytes w c d none = ap (λ (b : Bool). if b then w else taken_by bytes w (c % length w.sent) d (end_for w (c % length w.sent))) (eq-eqb (length w.sent) 0 none)

pub one_taken : (bytes : ℕ) (w : World) (c d : ℕ) → (length w.sent ≡ 0 → ⊥) → taken_drawn bytes w c d ≡ taken_by bytes w (c % length w.sent) d (end_for w (c % length w.sent))
unfolding taken_drawn
one_taken bytes w c d some = ap (λ (b : Bool). if b then w else taken_by bytes w (c % length w.sent) d (end_for w (c % length w.sent))) (ne_eqb (length w.sent) 0 some)

pub client_sends : (bytes : ℕ) (w : World) (t : Turn) → t.b < 4 → turned bytes w t ≡ made w (event.Send (Client t.a) 1460)
unfolding turned
client_sends bytes w t below = rw (lt-ltb t.b 4 below) refl

pub server_sends : (bytes : ℕ) (w : World) (t : Turn) → 4 ≤ t.b → t.b < 7 → turned bytes w t ≡ sent_by_drawn w t.a
unfolding turned
server_sends bytes w t a below = rw (le-ltb t.b 4 a, lt-ltb t.b 7 below) refl

pub one_takes : (bytes : ℕ) (w : World) (t : Turn) → 7 ≤ t.b → t.b < 11 → turned bytes w t ≡ taken_drawn bytes w t.c t.d
unfolding turned
one_takes bytes w t a below = rw (le-ltb t.b 4 (omega arith), le-ltb t.b 7 a, lt-ltb t.b 11 below) refl

pub one_steps : (bytes : ℕ) (w : World) (t : Turn) → 11 ≤ t.b → t.b < 14 → turned bytes w t ≡ made w (event.Step (t.c % 4) (t.d % 4))
unfolding turned
one_steps bytes w t a below = rw (le-ltb t.b 4 (omega arith), le-ltb t.b 7 (omega arith), le-ltb t.b 11 a, lt-ltb t.b 14 below) refl

pub one_crashes : (bytes : ℕ) (w : World) (t : Turn) → t.b ≡ 14 → turned bytes w t ≡ made w (event.Crash (t.c % 4))
unfolding turned
one_crashes bytes w t is = rw (le-ltb t.b 4 (omega arith), le-ltb t.b 7 (omega arith), le-ltb t.b 11 (omega arith), le-ltb t.b 14 (omega arith), eq-eqb t.b 14 is) refl

pub one_fails : (bytes : ℕ) (w : World) (t : Turn) → 14 ≤ t.b → (t.b ≡ 14 → ⊥) → turned bytes w t ≡ made w (event.Fail 0)
unfolding turned
one_fails bytes w t a other = rw (le-ltb t.b 4 (omega arith), le-ltb t.b 7 (omega arith), le-ltb t.b 11 (omega arith), le-ltb t.b 14 a, ne_eqb t.b 14 other) refl

pub turn_is : (flows bytes : ℕ) (w v : World) (x y : ℕ) → v ≡ turned bytes w (turn_of x flows) → y ≡ after_turn x → moment v y ≡ turn_made flows bytes (moment w x)
unfolding turn_made
turn_is flows bytes w v x y world draws = ap (λ (u : World). moment u y) world ∙ ap (moment (turned bytes w (turn_of x flows))) draws

-- ---- a step without a job changes nothing
set_same : (shards : List Shard) (g : ℕ) (other : Shard) → slice_set shards g (unwrap_or (slice_get shards g) other) ≡ shards
set_same [] g other = refl
set_same (s ∷ shards) zero other = refl
set_same (s ∷ shards) (suc g) other = ap (λ (rest : List Shard). s ∷ rest) (set_same shards g other)

idle_after : (w : World) (i g : ℕ) → job_at (bench_at w g).desks i ≡ None → after w (calls g (Step i)) ≡ w
idle_after w i g none =
    ap (λ (p : BenchState × Reply). record w { shards = slice_set w.shards g (record { bench = p.0; taken = (shard_at w g).taken }); sent = w.sent ++ reply_sends w (shard_at w g).taken (flow_at (bench_at w g) (Step i)) i p.1 })
    (ap (step_at (bench_at w g) i) none)
    ∙ ap (λ (shards : List Shard). record w { shards = shards; sent = w.sent ++ [] }) (set_same w.shards g (no_shard w.setup))
    ∙ ap (λ (sent : List Posted). record w { sent = sent }) (append-nil w.sent)

idle_made : (w : World) (i g : ℕ) → job_at (bench_at w g).desks i ≡ None → made w (event.Step i g) ≡ w
unfolding made
idle_made w i g none = by (is_enabled w (event.Step i g))
  where
    by : (b : Bool) → (stepped_by b w (event.Step i g)).0 ≡ w
    by true = idle_after w i g none
    by false = refl

pub step_on_is : (w : World) (i g : ℕ) → stepped_on i g w ≡ made w (event.Step i g)
unfolding stepped_on
step_on_is w i g = by (job_at (bench_at w g).desks i) refl
  where
    by : (o : Option JobState) → job_at (bench_at w g).desks i ≡ o → (if is_some (job_at (bench_at w g).desks i) then made w (event.Step i g) else w) ≡ made w (event.Step i g)
    by (Some job) is = ap (λ (o : Option JobState). if is_some o then made w (event.Step i g) else w) is
    by None is = ap (λ (o : Option JobState). if is_some o then made w (event.Step i g) else w) is ∙ sym (idle_made w i g is)

-- ---- the calm part
happened_can : (w : World) (e : Event) (b : Bool) → (stepped_by b w e).1 ≡ happened.Done → b ≡ true
happened_can w e true done = refl
happened_can w e false done = absurd (cc)

happened_not : (w : World) (e : Event) (b : Bool) → (stepped_by b w e).1 ≡ happened.NotEnabled → b ≡ false
happened_not w e true done = absurd (cc)
happened_not w e false done = refl

pub handled_done : (w v : World) (i n : ℕ) → (stepped w (event.Take i n)).1 ≡ happened.Done → v ≡ (stepped w (event.Take i n)).0
    → handled w i n ≡ stepped_out (budget w.setup) i (shard_for w n) v
unfolding handled made
handled_done w v i n done is =
    ap (λ (b : Bool). if b then stepped_out (budget w.setup) i (shard_for w n) (stepped w (event.Take i n)).0 else w) (happened_can w (event.Take i n) (is_enabled w (event.Take i n)) done)
    ∙ ap (stepped_out (budget w.setup) i (shard_for w n)) (sym is)

pub handled_not : (w : World) (i n : ℕ) → (stepped w (event.Take i n)).1 ≡ happened.NotEnabled → handled w i n ≡ w
unfolding handled made
handled_not w i n not_done =
    ap (λ (b : Bool). if b then stepped_out (budget w.setup) i (shard_for w n) (stepped w (event.Take i n)).0 else w) (happened_not w (event.Take i n) (is_enabled w (event.Take i n)) not_done)

pub out_is : (bytes : ℕ) (w v : World) (x y n d : ℕ) → v ≡ out_by bytes w n d (end_for w n) → d ≡ drawn y → y ≡ next_state x → moment v y ≡ out_taken bytes (moment w x) n
unfolding out_taken
out_is bytes w v x y n d world draw draws =
    ap (λ (u : World). moment u y) (world ∙ ap (λ (z : ℕ). out_by bytes w n z (end_for w n)) draw)
    ∙ ap (λ (z : ℕ). moment (out_by bytes w n (drawn z) (end_for w n)) z) draws

pub exchanged_living : (bytes : ℕ) (at : At) (i : ℕ) (w : World) (x : ℕ) → is_living (end_at w at) ≡ true
    → exchanged bytes at i (moment w x) ≡ sent_and_handled bytes at i (length w.sent) (made w (event.Send at 1460)) x
unfolding exchanged
exchanged_living bytes at i w x living = ap (λ (b : Bool). if b then sent_and_handled bytes at i (length w.sent) (made w (event.Send at 1460)) x else moment w x) living

pub exchanged_dead : (bytes : ℕ) (at : At) (i : ℕ) (w : World) (x : ℕ) → is_living (end_at w at) ≡ false → exchanged bytes at i (moment w x) ≡ moment w x
unfolding exchanged
exchanged_dead bytes at i w x dead = ap (λ (b : Bool). if b then sent_and_handled bytes at i (length w.sent) (made w (event.Send at 1460)) x else moment w x) dead

pub round_over : (flows bytes : ℕ) (w : World) (x : ℕ) → is_over flows w ≡ true → round_made flows bytes (moment w x) ≡ moment w x
unfolding round_made
round_over flows bytes w x over = ap (λ (b : Bool). if b then moment w x else servers_exchanged bytes (clients_exchanged flows bytes (moment w x))) over

pub round_on : (flows bytes : ℕ) (w : World) (x : ℕ) → is_over flows w ≡ false → round_made flows bytes (moment w x) ≡ servers_exchanged bytes (clients_exchanged flows bytes (moment w x))
unfolding round_made
round_on flows bytes w x on = ap (λ (b : Bool). if b then moment w x else servers_exchanged bytes (clients_exchanged flows bytes (moment w x))) on
