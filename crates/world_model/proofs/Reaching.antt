-- A step leads from a world that a run has led to to another.
use Rattle.std.proofs.Common.{◌≡◌, ℕ, Bool, true, false, Option, Some, None, List, [], ◌∷◌, ◌++◌, refl, sym, ◌∙◌, ap, subst}
use Rattle.std.specs.Prelude.{slice_get}
use Rattle.rule_table.specs.Setups.{SetupView}
use Rattle.tcp_end.specs.EndState.{EndState, written_more, closed_end}
use Rattle.world_model.specs.declared.at.At.{At}
use Rattle.world_model.specs.declared.at.At.TheVariants.{Client, Server}
use Rattle.world_model.specs.declared.event.Event.{Event}
use Rattle.world_model.specs.After.{after, changed_by, sent_by, aborted_by, received_at, received, refused, took}
use Rattle.world_model.specs.Events.{WorldEvent, opens, writes, closes, sends, aborts, receives, refuses, strays, takes, calls}
use Rattle.world_model.specs.Reached.{IsReached}
use Rattle.world_model.specs.Routes.{Rest}
use Rattle.world_model.specs.Runs.{after_all, AreEnabled, calls_in, AllLive}
use Rattle.world_model.specs.Safety.{IsSafe, IsSafeNow, SafetyLaw}
use Rattle.world_model.specs.Posted.{Posted}
use Rattle.world_model.specs.Steps.{events_of, is_enabled, IsEvent, StepLaw, stepped_by, stepped}
use Rattle.world_model.specs.World.{World, start, end_at, with_end}

-- ---- setup and clients stay
abbrev Kept : World → World → Type 0
Kept w v = (v.setup ≡ w.setup) × (v.clients ≡ w.clients)

end_kept : (w : World) (at : At) (e : EndState) → Kept w (with_end w at e)
end_kept w (Client k) e = (refl, refl)
end_kept w (Server v p) e = (refl, refl)

changed_kept : (w : World) (at : At) (f : EndState → EndState) (o : Option EndState) → Kept w (changed_by w at f o)
changed_kept w at f None = (refl, refl)
changed_kept w at f (Some e) = end_kept w at (f e)

sent_kept : (w : World) (at : At) (s : _) (rest : Rest) (o : Option EndState) → Kept w (sent_by w at s rest o)
sent_kept w at s rest None = (refl, refl)
sent_kept w at s rest (Some e) = (refl, refl)

aborted_kept : (w : World) (at : At) (rest : Rest) (o : Option EndState) → Kept w (aborted_by w at rest o)
aborted_kept w at rest None = (refl, refl)
aborted_kept w (Client k) rest (Some e) = (refl, refl)
aborted_kept w (Server v p) rest (Some e) = (refl, refl)

received_at_kept : (w : World) (at : At) (n : ℕ) (isn : _) (x : Posted) (o : Option EndState) → Kept w (received_at w at n isn x.segment o)
received_at_kept w (Client k) n isn x None = (refl, refl)
received_at_kept w (Server v p) n isn x None = (refl, refl)
received_at_kept w at n isn x (Some e) = end_kept w at _

received_kept : (w : World) (at : At) (n : ℕ) (isn : _) (o : Option Posted) → Kept w (received w at n isn o)
received_kept w at n isn None = (refl, refl)
received_kept w at n isn (Some x) = received_at_kept w at n isn x (end_at w at)

refused_kept : (w : World) (v p : ℕ) (rest : Rest) (o : Option Posted) → Kept w (refused w v p rest o)
refused_kept w v p rest None = (refl, refl)
refused_kept w v p rest (Some x) = (refl, refl)

took_kept : (w : World) (i item n : ℕ) (o : Option Posted) → Kept w (took w i item n o)
took_kept w i item n None = (refl, refl)
took_kept w i item n (Some x) = (refl, refl)

kept : (w : World) (e : WorldEvent) → Kept w (after w e)
kept w (opens k) = (refl, refl)
kept w (writes at bytes) = changed_kept w at (λ d. written_more d bytes) (end_at w at)
kept w (closes at) = changed_kept w at closed_end (end_at w at)
kept w (sends at s rest) = sent_kept w at s rest (end_at w at)
kept w (aborts at rest) = aborted_kept w at rest (end_at w at)
kept w (receives at n isn) = received_kept w at n isn (slice_get w.sent n)
kept w (refuses v p n rest) = refused_kept w v p rest (slice_get w.sent n)
kept w (strays s) = (refl, refl)
kept w (takes i item n) = took_kept w i item n (slice_get w.sent n)
kept w (calls g c) = (refl, refl)

all_kept : (events : List WorldEvent) (w : World) → Kept w (after_all w events)
all_kept [] w = (refl, refl)
all_kept (e ∷ events) w = let rest = all_kept events (after w e) in let one = kept w e in (rest.0 ∙ one.0, rest.1 ∙ one.1)

-- ---- runs one behind the other
pub after_both : (first later : List WorldEvent) (w : World) → after_all w (first ++ later) ≡ after_all (after_all w first) later
after_both [] later w = refl
after_both (e ∷ first) later w = after_both first later (after w e)

both_enabled : (first later : List WorldEvent) (w : World) → AreEnabled w first → AreEnabled (after_all w first) later → AreEnabled w (first ++ later)
both_enabled [] later w a b = b
both_enabled (e ∷ first) later w a b = (a.0, both_enabled first later (after w e) a.1 b)

-- a run goes on
pub goes_on : (w : World) (later : List WorldEvent) → IsReached w → AreEnabled w later → IsReached (after_all w later)
goes_on w later r can =
    let same = all_kept later w in
    let first = start w.setup w.clients in
    record {
      good = subst Rattle.rule_table.specs.Setups.IsSetup (sym same.0) r.good;
      apart = subst (λ s. Rattle.world_model.specs.Clients.AreClients s (after_all w later).clients) (sym same.0) (subst (λ c. Rattle.world_model.specs.Clients.AreClients w.setup c) (sym same.1) r.apart);
      events = r.events ++ later;
      can = subst (λ s. AreEnabled (start s (after_all w later).clients) (r.events ++ later)) (sym same.0) (subst (λ c. AreEnabled (start w.setup c) (r.events ++ later)) (sym same.1)
          (both_enabled r.events later first r.can (subst (λ x. AreEnabled x later) r.is can)));
      is = ap (λ x. after_all x later) r.is ∙ sym (after_both r.events later first)
          ∙ ap (λ s. after_all (start s w.clients) (r.events ++ later)) (sym same.0)
          ∙ ap (λ c. after_all (start (after_all w later).setup c) (r.events ++ later)) (sym same.1);
    }

-- ---- a step
stepped_reached_by : (b : Bool) (w : World) (e : Event) → (b ≡ true → AreEnabled w (events_of w e)) → IsReached w → IsReached (stepped_by b w e).0
stepped_reached_by true w e can r = goes_on w (events_of w e) r (can refl)
stepped_reached_by false w e can r = r

pub stepped_reached : StepLaw → (w : World) (e : Event) → IsEvent w e → IsReached w → IsReached (stepped w e).0
stepped_reached law w e small r = stepped_reached_by (is_enabled w e) w e (λ enabled. law w e small enabled) r

-- ---- what is known of a world
pub safe_now : SafetyLaw → (w : World) → IsReached w → IsSafeNow w
safe_now law w r events can is live =
    let first = start w.setup w.clients in
    subst (λ x. IsSafe x (λ g. calls_in g first events)) (sym is) (law w.setup w.clients events r.good r.apart can (subst AllLive is live))
