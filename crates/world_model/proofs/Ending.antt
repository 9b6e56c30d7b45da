-- All that a handling sends at its end meets the invariant.
use Rattle.std.proofs.Common.{◌≡◌, ℕ, zero, suc, ◌+◌, ◌<◌, Bool, true, false, cond, Option, Some, None, List, [], ◌∷◌, length, map, refl, sym, ◌∙◌, ap, subst, inl, inr}
use Rattle.std.specs.Prelude.{◌⊎◌, slice_get, find, option_and_then}
use Rattle.std.specs.List.{AllByRecursion}
use Rattle.std.proofs.lemmas.Option.{none-some, same_Some}
use Rattle.client_hand.specs.SynAck.{AnswersSyn, forged_of}
use Rattle.flow_close.specs.Closing.{GoesBack as ResetBack}
use Rattle.flow_id.specs.Keys.{same_flow}
use Rattle.flow_id.specs.declared.key.Flow.{Flow}
use Rattle.flow_id.specs.declared.key.Key.TheVariants as key
use Rattle.flow_id.proofs.SameKeys.{same_flow_itself}
use Rattle.flow_record.specs.Records.{port_owner}
use Rattle.flow_record.specs.declared.record.Record.{Record}
use Rattle.job_core.specs.declared.aim.Aim.{Aim}
use Rattle.job_core.specs.declared.aim.Aim.TheVariants as aim
use Rattle.job_core.specs.declared.verdict.Verdict.{Verdict}
use Rattle.job_core.specs.declared.verdict.Verdict.TheVariants as verdict
use Rattle.server_hand.specs.Opening.{piece_size}
use Rattle.tcp_end.specs.Streams.{IsPrefix}
use Rattle.tcp_segment.specs.Flags.{has_fin, has_syn, has_rst, has_ack}
use Rattle.tcp_segment.specs.declared.segment.Segment.{Segment}
use Rattle.bench.specs.Calls.{IsAimedHere}
use Rattle.bench.specs.Histories.{Decides}
use Rattle.world_model.specs.declared.client.ClientSpec.{ClientSpec}
use Rattle.world_model.specs.Clients.{flow_of, IsClient}
use Rattle.world_model.proofs.Relations.{IsIn}
use Rattle.bench.specs.MoveLaws.{MoveLaws}
use Rattle.bench.specs.MoveLaws.{Sent as Says}
use Rattle.bench.specs.MoveLaws.Sent.{silent, answered, asked, opened, to_server, to_client, refused, unknown_client, unknown_server, turned_away}
use Rattle.world_model.specs.Outs.{out_at, shown_from, placed_for}
use Rattle.world_model.specs.Runs.{AllLive}
use Rattle.world_model.specs.Openings.{opening_of}
use Rattle.world_model.specs.Posted.{Posted, balancer, nowhere}
use Rattle.world_model.specs.Streams.{written_by}
use Rattle.job_core.specs.TableLaws.{TableLaws, FromClient, FromServer, IsShown, AreShown}
use Rattle.world_model.specs.World.{World, end_of_client}
use Rattle.world_model.proofs.Invariant.{Calls, log_at, DecidesOf, IsFlow, Owns, Inv}
use Rattle.world_model.proofs.Passing.{reset_out, to_client_on}
use Rattle.world_model.proofs.Placing.{OutOk, decided_at, owner_home, choice_below, answers, asks, stands, passes_on}
use Rattle.world_model.proofs.Senders.{is_flow}
use Rattle.world_model.proofs.Unique.{owner_flow}

none_passes : {X : Type 0} (test : X → Bool) (xs : List X) (k : ℕ) (x : X) → find test xs ≡ None → slice_get xs k ≡ Some x → test x ≡ true → ⊥
none_passes test [] k x none is passes = none-some x is
none_passes test (y ∷ xs) zero x none is passes = by (test y) refl none
  where
    by : (b : Bool) → test y ≡ b → cond b (Some y) (find test xs) ≡ None → ⊥
    by true t none = none-some y (sym none)
    by false t none = absurd (let e = sym (ap test (same_Some y x is)) ∙ t in cc)
none_passes test (y ∷ xs) (suc k) x none is passes = by (test y) none (λ n. none_passes test xs k x n is passes)
  where
    by : (b : Bool) → cond b (Some y) (find test xs) ≡ None → (find test xs ≡ None → ⊥) → ⊥
    by true none rest = none-some y (sym none)
    by false none rest = rest none

-- of a flow that is no client's, nothing is owed to a client
no_client : {A : Type 0} (w : World) (flow : Flow) → opening_of w flow ≡ None → (k : ℕ) (client : ClientSpec) → IsClient w.clients k client → flow ≡ flow_of w.setup client → A
no_client w flow none k client is its =
    absurd (none_passes (λ c. same_flow (flow_of w.setup c) flow) w.clients k client none is (subst (λ f. same_flow (flow_of w.setup client) f ≡ true) (sym its) (same_flow_itself (flow_of w.setup client))))

-- nothing that is sent stands anywhere
pub placed_nothing : (o : Option ClientSpec) (v : Verdict) (taken : Option Posted) (flow : Option Flow) → placed_for o v taken flow [] ≡ []
placed_nothing None v taken flow = refl
placed_nothing (Some client) verdict.Opened taken flow = refl
placed_nothing (Some client) _ taken flow = refl

-- the flags of what is shown
shown_flags : (flags : ℕ) → (flags ≡ 0x10) ⊎ (flags ≡ 0x18) → (has_syn flags ≡ false) × (has_rst flags ≡ false) × (has_fin flags ≡ false) × (has_ack flags ≡ true)
shown_flags flags (inl is) = (ap has_syn is, ap has_rst is, ap has_fin is, ap has_ack is)
shown_flags flags (inr is) = (ap has_syn is, ap has_rst is, ap has_fin is, ap has_ack is)

module _ (w : World) (calls : Calls) (inv : Inv w calls) (live : AllLive w) (laws : (g : ℕ) → MoveLaws w.setup g) (table : TableLaws) (g : ℕ) (below : g < w.setup.shards)
    (seg : Segment) (m : ℕ) (y : Posted) (sent : slice_get w.sent m ≡ Some y) (same : y.segment ≡ seg) (in_ : IsIn y.by) (before : m < length w.sent)
    (held : Flow → List ℕ) (prefix : (flow : Flow) (k : ℕ) (client : ClientSpec) → IsClient w.clients k client → flow ≡ flow_of w.setup client → IsPrefix (held flow) (written_by (end_of_client w k))) where
  abbrev pub Good : Option Flow → Posted → Type 0
  Good flow z = (z.by ≡ balancer flow) × OutOk w calls inv live laws flow z

  -- positions that are owed to an honest client alone
  abbrev Honest : Flow → Type 0 → Type 0
  Honest flow A = (k : ℕ) (client : ClientSpec) → IsClient w.clients k client → flow ≡ flow_of w.setup client → A

  -- ---- resets that go back
  back_none : (outs : List Segment) → AllByRecursion (ResetBack seg) outs → AllByRecursion (Good None) (map (nowhere (balancer None)) outs)
  back_none [] all = tt
  back_none (s ∷ outs) all = ((refl, λ n later. record { nowhere = refl; nothing = refl; rst = ap has_rst all.0.reset.flags; no_syn = ap has_syn all.0.reset.flags }), back_none outs all.1)

  back_client : (flow : Flow) (known : IsFlow w.setup w.clients flow) (from : FromClient w.setup seg.source seg.target seg.head flow) (outs : List Segment) → AllByRecursion (ResetBack seg) outs
      → AllByRecursion (Good (Some flow)) (map (nowhere (balancer (Some flow))) outs)
  back_client flow known from [] all = tt
  back_client flow known from (s ∷ outs) all = (
    (
      refl,
      reset_out w calls inv live laws flow (nowhere (balancer (Some flow)) s) known (all.0.source ∙ from.to) (all.0.source_port ∙ from.to_port)
          (all.0.target ∙ sym (ap (λ (f : Flow). f.address) from.flow_is)) (all.0.target_port ∙ sym (ap (λ (f : Flow). f.port) from.flow_is)) all.0.reset.flags refl refl,
    ),
    back_client flow known from outs all.1,
  )

  -- ---- the opening
  module _ (flow : Flow) (syn r : Record) (known : IsFlow w.setup w.clients flow) (d : DecidesOf w.setup calls flow (key.Syn flow) syn) (e : DecidesOf w.setup calls flow (key.Open flow) r) where
    shown_good : (place : ℕ) (s : Segment) (z : Posted) → z.segment ≡ s → z.by ≡ balancer (Some flow) → IsShown w.setup syn r (held flow) place s
        → Honest flow ((z.position ≡ Some (1 + place)) × (z.acknowledged ≡ Some 1)) → Good (Some flow) z
    shown_good place s z is by shown at =
        let p : IsShown w.setup syn r (held flow) place z.segment = subst (λ (x : Segment). IsShown w.setup syn r (held flow) place x) (sym is) shown in
        let flags = shown_flags z.segment.head.flags p.flags in
        (by, stands w calls inv live laws flow syn r (held flow) place z known d e (prefix flow) p.stands p.part flags.0 flags.1 flags.2 flags.3 at)

    all_shown : (place : ℕ) (outs : List Segment) → AreShown w.setup syn r (held flow) place outs → AllByRecursion (Good (Some flow)) (shown_from (Some flow) place outs)
    all_shown place [] are = tt
    all_shown place (s ∷ outs) are =
        (shown_good place s (out_at (Some flow) (Some (1 + place)) (Some 1) s) refl refl are.0 (λ k client is its. (refl, refl)), all_shown (place + length s.body) outs are.1)

    shown_nowhere : opening_of w flow ≡ None → (place : ℕ) (outs : List Segment) → AreShown w.setup syn r (held flow) place outs → AllByRecursion (Good (Some flow)) (map (nowhere (balancer (Some flow))) outs)
    shown_nowhere none place [] are = tt
    shown_nowhere none place (s ∷ outs) are =
        (shown_good place s (nowhere (balancer (Some flow)) s) refl refl are.0 (no_client w flow none), shown_nowhere none (place + length s.body) outs are.1)

    opening_good : (o : Option ClientSpec) → opening_of w flow ≡ o → (outs : List Segment) → AreShown w.setup syn r (held flow) 0 outs
        → AllByRecursion (Good (Some flow)) (placed_for o verdict.Opened (Some y) (Some flow) outs)
    opening_good None is outs are = shown_nowhere is 0 outs are
    opening_good (Some client) is outs are = all_shown 0 outs are

  -- ---- the sender of the taken segment
  from_client : (flow : Flow) → IsAimedHere w.setup g (aim.Client flow) seg → FromClient w.setup seg.source seg.target seg.head flow
  from_client flow ours = table.clients w.setup seg.source seg.target seg.head flow (sym ours.0)

  from_taken : (flow : Flow) → IsAimedHere w.setup g (aim.Client flow) seg → FromClient w.setup y.segment.source y.segment.target y.segment.head flow
  from_taken flow ours = subst (λ (s : Segment). FromClient w.setup s.source s.target s.head flow) (sym same) (from_client flow ours)

  client_known : (flow : Flow) → IsAimedHere w.setup g (aim.Client flow) seg → IsFlow w.setup w.clients flow
  client_known flow ours = is_flow w calls inv m y sent in_ flow (from_taken flow ours)

  from_server : (server port : ℕ) → IsAimedHere w.setup g (aim.Server server port) seg → FromServer w.setup y.segment.source y.segment.target y.segment.head server port
  from_server server port ours = subst (λ (s : Segment). FromServer w.setup s.source s.target s.head server port) (sym same) (table.servers w.setup seg.source seg.target seg.head server port (sym ours.0))

  server_owns : (server port : ℕ) (owner : Record) → Decides (log_at w.setup calls g) (key.Port w.setup.service.number server port) owner → Owns w.setup w.clients calls (port_owner owner) server port
  server_owns server port owner d = record {
    owner = owner;
    decided = decided_at w calls inv live laws g (port_owner owner) (key.Port w.setup.service.number server port) owner (owner_home w calls inv live laws g below server port owner d) d;
    owned = refl;
  }

  -- ---- one segment, at the place of an honest client's, or nowhere
  one_good : (flow : Flow) (p a : Option ℕ) (s : Segment) → ((z : Posted) → z.segment ≡ s → z.by ≡ balancer (Some flow) → Honest flow ((z.position ≡ p) × (z.acknowledged ≡ a)) → Good (Some flow) z)
      → (o : Option ClientSpec) → opening_of w flow ≡ o → (zs : Option ClientSpec → List Posted)
      → ((c : ClientSpec) → zs (Some c) ≡ out_at (Some flow) p a s ∷ []) → zs None ≡ nowhere (balancer (Some flow)) s ∷ []
      → AllByRecursion (Good (Some flow)) (zs o)
  one_good flow p a s good None is zs some none =
      subst (AllByRecursion (Good (Some flow))) (sym none) (good (nowhere (balancer (Some flow)) s) refl refl (no_client w flow is), tt)
  one_good flow p a s good (Some c) is zs some none =
      subst (AllByRecursion (Good (Some flow))) (sym (some c)) (good (out_at (Some flow) p a s) refl refl (λ k client i its. (refl, refl)), tt)

  pub all_good : (a : Aim) (known : Option Flow) (v : Verdict) (outs : List Segment) → Says (log_at w.setup calls g) w.setup seg held a known v outs → IsAimedHere w.setup g a seg
      → AllByRecursion (Good known) (placed_for (option_and_then (opening_of w) known) v (Some y) known outs)
  all_good a known v outs (silent aimed_ flow verdict_ quiet) ours = subst (AllByRecursion (Good known)) (sym (placed_nothing (option_and_then (opening_of w) known) v (Some y) known)) tt
  all_good a known v outs (answered flow syn s set d number answers_) ours =
      one_good flow (Some 0) (Some 1) s
      (λ z is by at. (
        by,
        answers w calls inv live laws flow syn z (client_known flow ours) (decided_at w calls inv live laws g flow (key.Syn flow) syn ours.1 d)
            (subst (λ (x : Segment). AnswersSyn w.setup flow syn x) (sym is) answers_) (λ k client i its. (at k client i its).0),
      ))
      (opening_of w flow) refl (λ o. placed_for o verdict.Answered (Some y) (Some flow) (s ∷ [])) (λ c. refl) refl
  all_good a known v outs (asked flow server port syn choice owner s clear still d e chosen f owned opens_) ours =
      one_good flow (Some 0) None s
      (λ z is by at. (
        by,
        asks w calls inv live laws flow server port syn owner z (client_known flow ours)
            (subst (λ n. n < length w.setup.servers) chosen (choice_below w calls inv live laws flow choice (decided_at w calls inv live laws g flow (key.Choice flow) choice ours.1 e)))
            (decided_at w calls inv live laws g flow (key.Syn flow) syn ours.1 d)
            (decided_at w calls inv live laws g flow (key.Port w.setup.service.number server port) owner ours.1 f) owned
            (subst (λ (x : Segment). Rattle.server_hand.specs.Opening.OpensTo w.setup syn server port x) (sym is) opens_) at,
      ))
      (opening_of w flow) refl (λ o. placed_for o (verdict.Asked server port) (Some y) (Some flow) (s ∷ [])) (λ c. refl) refl
  all_good a known v outs (to_server flow syn r s clear d e goes) ours =
      one_good flow y.position y.acknowledged s
      (λ z is by at. (
        by,
        passes_on w calls inv live laws flow syn r seg m y z (client_known flow ours) (decided_at w calls inv live laws g flow (key.Open flow) r ours.1 e)
            sent same in_ (from_taken flow ours) clear (subst (λ (x : Segment). Rattle.translate.specs.Translation.GoesToServer w.setup seg (forged_of w.setup flow) syn r x) (sym is) goes) at before,
      ))
      (opening_of w flow) refl (λ o. placed_for o verdict.Forwarded (Some y) (Some flow) (s ∷ [])) (λ c. refl) refl
  all_good a known v outs (refused flow syn why outs_ clear still d all) ours =
      by (opening_of w flow)
    where
      by : (o : Option ClientSpec) → AllByRecursion (Good (Some flow)) (placed_for o (verdict.Refused why) (Some y) (Some flow) outs)
      by None = back_client flow (client_known flow ours) (from_client flow ours) outs all
      by (Some c) = back_client flow (client_known flow ours) (from_client flow ours) outs all
  all_good a known v outs (unknown_client flow outs_ clear absent all) ours =
      by (opening_of w flow)
    where
      by : (o : Option ClientSpec) → AllByRecursion (Good (Some flow)) (placed_for o verdict.Unknown (Some y) (Some flow) outs)
      by None = back_client flow (client_known flow ours) (from_client flow ours) outs all
      by (Some c) = back_client flow (client_known flow ours) (from_client flow ours) outs all
  all_good a known v outs (opened server port owner syn r outs_ set d e f number answers_) ours =
      let flow = port_owner owner in
      let home = owner_home w calls inv live laws g below server port owner d in
      opening_good flow syn r (owner_flow w calls inv flow server port (server_owns server port owner d))
      (decided_at w calls inv live laws g flow (key.Syn flow) syn home e) (decided_at w calls inv live laws g flow (key.Open flow) r home f)
      (opening_of w flow) refl outs (table.opening w.setup syn r (piece_size seg.head.options.mss) (held flow) outs answers_)
  all_good a known v outs (to_client server port owner syn r s clear d e f goes) ours =
      let flow = port_owner owner in
      let home = owner_home w calls inv live laws g below server port owner d in
      let owns = server_owns server port owner d in
      one_good flow y.position y.acknowledged s
      (λ z is by at. (
        by,
        to_client_on w calls inv live laws flow server port syn r seg m y z (owner_flow w calls inv flow server port owns) owns
            (decided_at w calls inv live laws g flow (key.Open flow) r home f) sent same in_ (from_server server port ours) clear
            (subst (λ (x : Segment). Rattle.translate.specs.Translation.GoesToClient w.setup seg (forged_of w.setup flow) syn r flow x) (sym is) goes) at before,
      ))
      (opening_of w flow) refl (λ o. placed_for o verdict.Forwarded (Some y) (Some flow) (s ∷ [])) (λ c. refl) refl
  all_good a known v outs (unknown_server server port outs_ absent all) ours = back_none outs all
  all_good a known v outs (turned_away server port owner syn s clear reset d e turns) ours =
      let flow = port_owner owner in
      let z = nowhere (balancer (Some flow)) s in
      let ok : OutOk w calls inv live laws (Some flow) z =
      reset_out w calls inv live laws flow z (owner_flow w calls inv flow server port (server_owns server port owner d)) turns.source turns.source_port turns.target turns.target_port turns.reset.flags refl refl in
      by (opening_of w flow) ok
    where
      by : (o : Option ClientSpec) → OutOk w calls inv live laws (Some (port_owner owner)) (nowhere (balancer (Some (port_owner owner))) s)
          → AllByRecursion (Good (Some (port_owner owner))) (placed_for o verdict.TurnedAway (Some y) (Some (port_owner owner)) (s ∷ []))
      by None ok = ((refl, ok), tt)
      by (Some c) ok = ((refl, ok), tt)
