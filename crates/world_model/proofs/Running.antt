-- The invariant holds after every run as long as each bench has a living cell, and so does what it says.
use Rattle.std.proofs.Common.{◌≡◌, ℕ, ◌==◌, Bool, true, false, Some, List, [], ◌∷◌, ◌++◌, append_assoc, refl, sym, ap, subst}
use Rattle.std.specs.Prelude.{slice_get, if◌then◌else◌}
use Rattle.std.proofs.lemmas.Bool.{eq-eqb, eqb-true}
use Rattle.std.proofs.lemmas.List.{append-nil}
use Rattle.rule_table.specs.Setups.{SetupView, IsSetup}
use Rattle.bench.specs.declared.call.Call.{Call}
use Rattle.world_model.specs.After.{after, took, take_call}
use Rattle.world_model.specs.Enabled.{Enabled, home}
use Rattle.world_model.proofs.Relations.{handle_is}
use Rattle.world_model.specs.Flows.{aim_of}
use Rattle.world_model.specs.Events.{WorldEvent, opens, writes, closes, sends, aborts, receives, refuses, strays, takes}
use Rattle.world_model.specs.Events.{calls as calls_event}
use Rattle.bench.specs.MoveLaws.{MoveLaws}
use Rattle.world_model.specs.Runs.{after_all, AreEnabled, take_at, call_in, calls_in, AllLive}
use Rattle.world_model.specs.Safety.{SafetyLaw}
use Rattle.job_core.specs.TableLaws.{TableLaws}
use Rattle.world_model.specs.World.{World, start}
use Rattle.world_model.proofs.Begins.{begins}
use Rattle.world_model.proofs.Facts.{is_safe}
use Rattle.world_model.proofs.Handling.{calls_keeps, takes_keeps}
use Rattle.world_model.proofs.Invariant.{Calls, Inv}
use Rattle.world_model.proofs.Lives.{lives_after, lives_first}
use Rattle.world_model.proofs.Receiving.{receives_keeps}
use Rattle.world_model.proofs.Shapes.{all_shape, start_shape}
use Rattle.world_model.proofs.Sending.{strays_keeps, aborts_keeps, refuses_keeps, sends_keeps}
use Rattle.world_model.proofs.Writing.{opens_keeps, writes_keeps, closes_keeps}

-- the laws of the benches below
abbrev pub BenchLaws : Type 0
BenchLaws = (setup : SetupView) → IsSetup setup → (g : ℕ) → MoveLaws setup g

-- ---- one call more, or none
none_more : (calls : Calls) → ◌≡◌ {A = Calls} (λ h. calls h ++ []) calls
none_more calls = λ i h. append-nil (calls h) i

own_more : (g : ℕ) (history : List Call) (c : Call) → history ++ (if g == g then c ∷ [] else []) ≡ history ++ c ∷ []
own_more g history c = ap (λ b. history ++ (if b then c ∷ [] else [])) (eq-eqb g g refl)

other_more : (g h : ℕ) (history : List Call) (c : Call) → (h ≡ g → ⊥) → history ++ (if g == h then c ∷ [] else []) ≡ history
other_more g h history c apart = by (g == h) (eqb-true g h)
  where
    by : (b : Bool) → (b ≡ true → g ≡ h) → history ++ (if b then c ∷ [] else []) ≡ history
    by true same = absurd (apart (sym (same refl)))
    by false same = append-nil history

module _ (laws : BenchLaws) (table : TableLaws) where
  -- an event of the ends or of a stranger, which makes no call
  still : (w : World) (calls : Calls) → Inv w calls → Inv w (λ h. calls h ++ [])
  still w calls inv = subst (λ c. Inv w c) (sym (none_more calls)) inv

  pub event_keeps : (w : World) (calls : Calls) → Inv w calls → (e : WorldEvent) → Enabled w e → AllLive (after w e) → Inv (after w e) (λ h. calls h ++ call_in h w e)
  event_keeps w calls inv (opens k) can live = still (after w (opens k)) calls (opens_keeps w calls inv k can)
  event_keeps w calls inv (writes at bytes) can live = still (after w (writes at bytes)) calls (writes_keeps w calls inv at bytes can)
  event_keeps w calls inv (closes at) can live = still (after w (closes at)) calls (closes_keeps w calls inv at can)
  event_keeps w calls inv (sends at s rest) can live = still (after w (sends at s rest)) calls (sends_keeps w calls inv at s rest can)
  event_keeps w calls inv (aborts at rest) can live = still (after w (aborts at rest)) calls (aborts_keeps w calls inv at rest can)
  event_keeps w calls inv (receives at n isn) can live =
      still (after w (receives at n isn)) calls (receives_keeps w calls inv (lives_after w (receives at n isn) live) (laws w.setup inv.good) at n isn can)
  event_keeps w calls inv (refuses v p n rest) can live = still (after w (refuses v p n rest)) calls (refuses_keeps w calls inv v p n rest can)
  event_keeps w calls inv (strays s) can live = still (after w (strays s)) calls (strays_keeps w calls inv s can)
  event_keeps w calls inv (takes i item n) can live =
      let within = can.0 in
      let t = handle_is w n (slice_get w.sent n) refl can.1 in
      let x = t.0 in
      let sent = t.1 in
      let in_ = t.2 in
      let ok = t.3 in
      let g = home w.setup (aim_of w.setup x.segment) in
      let c = take_call w i item x.segment in
      subst (λ o. Inv (took w i item n o) (λ h. calls h ++ take_at w h i item o)) (sym sent)
      (takes_keeps w calls inv (laws w.setup inv.good) table i item n x sent in_ within ok (λ h. calls h ++ take_at w h i item (Some x))
      (own_more g (calls g) c) (λ h apart. other_more g h (calls h) c apart)
      (subst (λ o. AllLive (took w i item n o)) sent live))
  event_keeps w calls inv (calls_event g c) (below, may, other) live =
      calls_keeps w calls inv (laws w.setup inv.good) table g c below may other (λ h. calls h ++ (if g == h then c ∷ [] else []))
      (own_more g (calls g) c) (λ h apart. other_more g h (calls h) c apart) live

  -- ---- runs
  pub run_keeps : (events : List WorldEvent) (w : World) (calls : Calls) → Inv w calls → AreEnabled w events → AllLive (after_all w events) → Inv (after_all w events) (λ h. calls h ++ calls_in h w events)
  run_keeps [] w calls inv can live = still w calls inv
  run_keeps (e ∷ events) w calls inv can live =
      let first = event_keeps w calls inv e can.0 (lives_first events (after w e) live) in
      let rest = run_keeps events (after w e) (λ h. calls h ++ call_in h w e) first can.1 live in
      subst (λ c. Inv (after_all (after w e) events) c) (assoc w calls e events) rest
    where
      assoc : (w : World) (calls : Calls) (e : WorldEvent) (events : List WorldEvent)
          → ◌≡◌ {A = Calls} (λ h. (calls h ++ call_in h w e) ++ calls_in h (after w e) events) (λ h. calls h ++ (call_in h w e ++ calls_in h (after w e) events))
      assoc w calls e events = λ i h. append_assoc (calls h) (call_in h w e) (calls_in h (after w e) events) i

  pub safety_law : SafetyLaw
  safety_law setup clients events good apart can live =
      let w = after_all (start setup clients) events in
      let inv : Inv w (λ h. calls_in h (start setup clients) events) = run_keeps events (start setup clients) (λ h. []) (begins setup clients good apart) can live in
      is_safe w (λ h. calls_in h (start setup clients) events) inv live (laws w.setup inv.good) (all_shape events (start setup clients) (start_shape setup clients good)).apart
