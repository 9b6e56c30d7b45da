-- An end sends or aborts, a server refuses, a stranger sends.
use Rattle.std.proofs.Common.{◌≡◌, ℕ, zero, suc, ◌+◌, ◌≤◌, ◌<◌, ◌^◌, Bool, true, false, Option, Some, None, List, [], ◌∷◌, length, refl, sym, ◌∙◌, ap, subst, arith, inl, inr}
use Rattle.std.specs.Prelude.{slice_get, find, cond, option_and_then}
use Rattle.std.proofs.lemmas.Option.{none-some, same_Some}
use Rattle.flow_id.specs.Keys.{same_flow}
use Rattle.flow_id.specs.declared.key.Flow.{Flow}
use Rattle.flow_id.proofs.SameKeys.{same_flow_itself}
use Rattle.rule_table.specs.Setups.{SetupView}
use Rattle.seq_space.specs.declared.Num.{Num}
use Rattle.tcp_end.specs.EndState.{EndState, expected, dead_end}
use Rattle.tcp_end.specs.Sending.{MaySend, MaySendTo, acknowledges, acknowledged_to, reset_to, num_at}
use Rattle.tcp_end.specs.Streams.{ShowsStream}
use Rattle.tcp_end.specs.declared.sent.Sent.{Sent as Part}
use Rattle.tcp_segment.specs.Flags.{has_fin, has_syn, has_rst, has_ack}
use Rattle.tcp_segment.specs.declared.segment.Segment.{Segment}
use Rattle.world_model.specs.declared.at.At.{At}
use Rattle.world_model.specs.declared.at.At.TheVariants.{Client, Server}
use Rattle.world_model.specs.declared.client.ClientSpec.{ClientSpec}
use Rattle.world_model.specs.After.{after, with_sent, sent_by, aborted_by, refused, refusal_of, placed_at}
use Rattle.world_model.specs.Flows.{client_behind, flow_made}
use Rattle.world_model.specs.Clients.{flow_of, IsClient}
use Rattle.world_model.specs.Enabled.{Enabled}
use Rattle.world_model.specs.Openings.{opening_of}
use Rattle.world_model.proofs.Relations.{Goes, living_is, refuse_is, stray_is}
use Rattle.world_model.specs.Events.{sends, aborts, refuses, strays}
use Rattle.world_model.specs.Routes.{Rest, route_of, segment_on}
use Rattle.world_model.specs.Posted.{Posted, end, stranger, nowhere}
use Rattle.world_model.specs.Streams.{written_by, closed_by}
use Rattle.world_model.specs.World.{World, ServerEnd, end_of_server, end_of_client, end_at, with_end}
use Rattle.world_model.proofs.Ends.{later_sent, one_sent}
use Rattle.world_model.proofs.Growth.{either}
use Rattle.world_model.proofs.Invariant.{Calls, IsOpened, IsReset, Leg, IsSynOf, AcksNothing, AcksBack, IsPartOf, Carries, forged, client_leg, server_leg, KnowsPeer, ClientSent, EndSent, ServerSent, ClientIs, ServerIs, Inv}
use Rattle.world_model.proofs.Invariant.Carries.{resets, opens, shows}
use Rattle.world_model.proofs.Later.{made_later}
use Rattle.world_model.proofs.Writing.{state_of, dies_keeps}

-- ---- numbers
num : (n : Num) → n.0 < 2 ^ 32 → num_at n 0 ≡ n
num n small = ap (λ (x : ℕ). num_of x) (omega arith)
  where
    num_of : ℕ → Num
    num_of x = record { 0 = x }

-- ---- resets
reset_flags : (o : Option Num) (e : EndState) → (has_rst (reset_to o e).flags ≡ true) × (has_syn (reset_to o e).flags ≡ false)
reset_flags None e = (refl, refl)
reset_flags (Some peer) e = (refl, refl)

module _ (setup : SetupView) (clients : List ClientSpec) (w : World) (calls : Calls) where
  client_reset : (k n : ℕ) (client : ClientSpec) (s : Part) (rest : Rest) → IsClient clients k client → has_rst s.flags ≡ true → has_syn s.flags ≡ false
      → ClientSent setup clients w calls k n (nowhere (end (Client k)) (segment_on (route_of setup clients (Client k)) s rest))
  client_reset k n client s rest is rst syn = record {
    client = client;
    is = is;
    goes = record { source = refl; source_port = refl; target = refl; target_port = refl };
    carries = resets (record { nowhere = refl; nothing = refl; rst = rst; no_syn = syn });
    near = inr (λ p at. absurd (none-some p at));
  }

  server_reset : (v p n : ℕ) (s : Part) (rest : Rest) → v < length setup.servers → has_rst s.flags ≡ true → has_syn s.flags ≡ false
      → ServerSent setup clients w v p n (nowhere (end (Server v p)) (segment_on (route_of setup clients (Server v p)) s rest))
  server_reset v p n s rest known rst syn = record {
    known = known;
    goes = record { source = refl; source_port = refl; target = refl; target_port = refl };
    what = inl (record { nowhere = refl; nothing = refl; rst = rst; no_syn = syn });
  }

module _ (w : World) (calls : Calls) (inv : Inv w calls) where
  pub strays_keeps : (s : Segment) → Enabled w (strays s) → Inv (after w (strays s)) calls
  strays_keeps s can = one_sent w calls inv (nowhere stranger s) (stray_is w.setup w.clients s can)

  aborts_by : (at : At) (rest : Rest) (e : EndState) → end_at w at ≡ Some e → Inv (aborted_by w at rest (Some e)) calls
  aborts_by (Client k) rest e here =
      let now = with_end w (Client k) (dead_end e) in
      let c = inv.client k e here in
      let x = nowhere (end (Client k)) (segment_on (route_of w.setup w.clients (Client k)) (reset_to e.peer e) rest) in
      one_sent now calls (dies_keeps w calls inv (Client k) e here) x
      (client_reset w.setup w.clients (with_sent now x) calls k (length w.sent) c.client (reset_to e.peer e) rest c.is (reset_flags e.peer e).0 (reset_flags e.peer e).1)
  aborts_by (Server v p) rest e here =
      let now = with_end w (Server v p) (dead_end e) in
      let s = state_of (end_of_server w v p) e here in
      let x = nowhere (end (Server v p)) (segment_on (route_of w.setup w.clients (Server v p)) (reset_to e.peer e) rest) in
      one_sent now calls (dies_keeps w calls inv (Server v p) e here) x
      (server_reset w.setup w.clients (with_sent now x) calls v p (length w.sent) (reset_to e.peer e) rest (inv.server v p s.0 s.1).known (reset_flags e.peer e).0 (reset_flags e.peer e).1)

  pub aborts_keeps : (at : At) (rest : Rest) → Enabled w (aborts at rest) → Inv (after w (aborts at rest)) calls
  aborts_keeps at rest can =
      let t = living_is w at (end_at w at) refl can in
      subst (λ o. Inv (aborted_by w at rest o) calls) (sym t.1) (aborts_by at rest t.0 t.1)

  pub refuses_keeps : (v p n : ℕ) (rest : Rest) → Enabled w (refuses v p n rest) → Inv (after w (refuses v p n rest)) calls
  refuses_keeps v p n rest can =
      let t = refuse_is w (Server v p) n (slice_get w.sent n) refl can in
      let x = t.0 in
      let goes = t.1 in
      let makes = t.2 in
      let y = nowhere (end (Server v p)) (segment_on (route_of w.setup w.clients (Server v p)) (refusal_of x.segment) rest) in
      subst (λ o. Inv (refused w v p rest o) calls) (sym goes.sent)
      (one_sent w calls inv y (server_reset w.setup w.clients (with_sent w y) calls v p (length w.sent) (refusal_of x.segment) rest makes.0 refl refl))

  -- ---- a client sends
  module _ (k : ℕ) (e : EndState) (here : end_of_client w k ≡ Some e) (s : Part) (rest : Rest) where
    abbrev part : Segment
    part = segment_on (route_of w.setup w.clients (Client k)) s rest

    abbrev sent_now : Posted
    sent_now = record { segment = part; by = end (Client k); position = Some s.position; acknowledged = acknowledges e }

    abbrev leg_now : ClientSpec → Leg
    leg_now client = record { first = client.isn; back = forged w.setup w.clients (flow_of w.setup client); stream = e.written; closed = e.closed }

    client_carries : (client : ClientSpec) (o : Option Num) → client.isn.0 < 2 ^ 32 → e.first ≡ client.isn → KnowsPeer w.setup w.clients (flow_of w.setup client) e o → MaySendTo o e s
        → (y : Posted) → y.segment ≡ part → y.position ≡ Some s.position → y.acknowledged ≡ acknowledged_to o e → Carries (leg_now client) y
    client_carries client None small first knows syn y seg at acked =
        opens
        (record {
          position = at ∙ ap (λ (n : ℕ). Some n) syn.position;
          seq = ap (λ (z : Segment). z.head.seq) seg ∙ syn.seq ∙ ap (λ (n : Num). num_at n 0) first ∙ num client.isn small;
          syn = ap (λ (z : Segment). has_syn z.head.flags) seg ∙ syn.syn;
          no_rst = ap (λ (z : Segment). has_rst z.head.flags) seg ∙ syn.no_rst;
          no_fin = ap (λ (z : Segment). has_fin z.head.flags) seg ∙ syn.no_fin;
          body = ap (λ (z : Segment). z.body) seg ∙ syn.body;
        })
        (inl (record { nothing = acked; no_ack = ap (λ (z : Segment). has_ack z.head.flags) seg ∙ syn.no_ack }))
    client_carries client (Some peer) small first knows (inl syn_ack) y seg at acked = absurd (let one = knows.1 in omega (arith, syn_ack.unacknowledged, one))
    client_carries client (Some peer) small first knows (inr sent) y seg at acked =
        shows
        (record {
          at = s.position;
          position = at;
          shows = subst (λ (z : Segment). ShowsStream client.isn e.written e.closed s.position z.head.seq z.head.flags z.body) (sym seg)
              (subst (λ (n : Num). ShowsStream n e.written e.closed s.position s.seq s.flags s.body) first sent.stream);
          no_syn = ap (λ (z : Segment). has_syn z.head.flags) seg ∙ sent.no_syn;
          no_rst = ap (λ (z : Segment). has_rst z.head.flags) seg ∙ sent.no_rst;
        })
        (record {
          position = expected e;
          acknowledges = acked;
          ack = ap (λ (z : Segment). has_ack z.head.flags) seg ∙ sent.acks;
          number = ap (λ (z : Segment). z.head.ack) seg ∙ sent.ack ∙ ap (λ (n : Num). num_at n (expected e)) knows.0;
        })

    -- nothing behind position 2 ^ 31 as long as at most its SYN was acknowledged to it
    client_near : (o : Option Num) → MaySendTo o e s → e.acked ≤ 1 → s.position + length s.body ≤ 2 ^ 31
    client_near None syn few = let at = syn.position in let none : length s.body ≡ 0 = ap length syn.body in omega arith
    client_near (Some peer) (inl syn) few = let at = syn.position in let none : length s.body ≡ 0 = ap length syn.body in omega arith
    client_near (Some peer) (inr sent) few = let reach = sent.reach in omega arith

    client_sends : MaySend e s → Inv (with_sent w sent_now) calls
    client_sends may =
        let c = inv.client k e here in
        one_sent w calls inv sent_now
        (record {
          client = c.client;
          is = c.is;
          goes = record { source = refl; source_port = refl; target = refl; target_port = refl };
          carries = subst (λ (o : Option EndState). Carries (record { first = c.client.isn; back = forged w.setup w.clients (flow_of w.setup c.client); stream = written_by o; closed = closed_by o }) sent_now) (sym here)
              (client_carries c.client e.peer c.number c.first c.peer may.sends sent_now refl refl refl);
          near = either (λ o. o) (λ few p at. subst (λ q. q + length s.body ≤ 2 ^ 31) (same_Some s.position p at) (client_near e.peer may.sends few)) c.acked;
        })

  -- ---- a server sends
  none_found : {X : Type 0} (test : X → Bool) (xs : List X) (k : ℕ) (x : X) → find test xs ≡ None → slice_get xs k ≡ Some x → test x ≡ true → ⊥
  none_found test [] k x none is passes = none-some x is
  none_found test (y ∷ xs) zero x none is passes = by (test y) refl none
    where
      by : (b : Bool) → test y ≡ b → cond b (Some y) (find test xs) ≡ None → ⊥
      by true t none = none-some y (sym none)
      by false t none = absurd (let e = sym (ap test (same_Some y x is)) ∙ t in cc)
  none_found test (y ∷ xs) (suc k) x none is passes = by (test y) none (λ n. none_found test xs k x n is passes)
    where
      by : (b : Bool) → cond b (Some y) (find test xs) ≡ None → (find test xs ≡ None → ⊥) → ⊥
      by true none rest = none-some y (sym none)
      by false none rest = rest none

  module _ (v p : ℕ) (t : ServerEnd) (here : end_of_server w v p ≡ Some t) (s : Part) (rest : Rest) (may : MaySend t.state s) where
    abbrev reply : Segment
    reply = segment_on (route_of w.setup w.clients (Server v p)) s rest

    server_syn : (o : Option Num) (peer : Num) → o ≡ Some peer → t.state.first.0 < 2 ^ 32 → MaySendTo o t.state s → has_syn s.flags ≡ true → s.seq ≡ t.state.first
    server_syn None peer knows small sent syn = absurd (none-some peer knows)
    server_syn (Some n) peer knows small (inl syn_ack) syn = syn_ack.seq ∙ num t.state.first small
    server_syn (Some n) peer knows small (inr stream) syn = absurd (let clear = stream.no_syn in cc)

    server_carries : (client : ClientSpec) (o : Option Num) (peer : Num) → o ≡ Some peer → peer ≡ client.isn → t.state.first.0 < 2 ^ 32 → MaySendTo o t.state s
        → (y : Posted) → y.segment ≡ reply → y.position ≡ Some s.position → y.acknowledged ≡ acknowledged_to o t.state → Carries (server_leg w.setup w.clients client t) y
    server_carries client None peer knows own small sent y seg at acked = absurd (none-some peer knows)
    server_carries client (Some n) peer knows own small (inl sent) y seg at acked =
        opens
        (record {
          position = at ∙ ap (λ (n : ℕ). Some n) sent.position;
          seq = ap (λ (z : Segment). z.head.seq) seg ∙ sent.seq ∙ num t.state.first small;
          syn = ap (λ (z : Segment). has_syn z.head.flags) seg ∙ sent.syn;
          no_rst = ap (λ (z : Segment). has_rst z.head.flags) seg ∙ sent.no_rst;
          no_fin = ap (λ (z : Segment). has_fin z.head.flags) seg ∙ sent.no_fin;
          body = ap (λ (z : Segment). z.body) seg ∙ sent.body;
        })
        (inr (record {
          position = expected t.state;
          acknowledges = acked;
          ack = ap (λ (z : Segment). has_ack z.head.flags) seg ∙ sent.acks;
          number = ap (λ (z : Segment). z.head.ack) seg ∙ sent.ack ∙ ap (λ (m : Num). num_at m (expected t.state)) (same_Some n peer knows ∙ own);
        }))
    server_carries client (Some n) peer knows own small (inr sent) y seg at acked =
        shows
        (record {
          at = s.position;
          position = at;
          shows = subst (λ (z : Segment). ShowsStream t.state.first t.state.written t.state.closed s.position z.head.seq z.head.flags z.body) (sym seg) sent.stream;
          no_syn = ap (λ (z : Segment). has_syn z.head.flags) seg ∙ sent.no_syn;
          no_rst = ap (λ (z : Segment). has_rst z.head.flags) seg ∙ sent.no_rst;
        })
        (record {
          position = expected t.state;
          acknowledges = acked;
          ack = ap (λ (z : Segment). has_ack z.head.flags) seg ∙ sent.acks;
          number = ap (λ (z : Segment). z.head.ack) seg ∙ sent.ack ∙ ap (λ (m : Num). num_at m (expected t.state)) (same_Some n peer knows ∙ own);
        })

    server_entry : (y : Posted) → y.by ≡ end (Server v p) → y.segment ≡ reply
        → ((client : ClientSpec) (peer : Num) → t.state.peer ≡ Some peer → peer ≡ client.isn → (k : ℕ) → IsClient w.clients k client → flow_made w t ≡ Some (flow_of w.setup client) → Carries (server_leg w.setup w.clients client t) y)
        → Inv (with_sent w y) calls
    server_entry y by seg carries =
        let c = inv.server v p t here in
        let goes = subst (λ (z : Segment). Goes (route_of w.setup w.clients (Server v p)) z) (sym seg) (record { source = refl; source_port = refl; target = refl; target_port = refl }) in
        one_sent w calls inv y
        (subst (λ b. Rattle.world_model.proofs.Invariant.IsSentBy w.setup w.clients (with_sent w y) calls (length w.sent) y b) (sym by)
        (record {
          known = c.known;
          goes = goes;
          what = inr (record {
            end = t;
            here = here;
            syn = λ syn. ap (λ (z : Segment). z.head.seq) seg ∙ server_syn t.state.peer c.peer c.knows c.number may.sends (sym (ap (λ (z : Segment). has_syn z.head.flags) seg) ∙ syn);
            flow = c.flow;
            made = made_later w.setup w.clients w calls (with_sent w y) calls (later_sent w calls inv y) t t c.flow refl c.made;
            honest = λ k client is same. carries client c.peer c.knows (c.honest k client is same).0 k is (c.made ∙ ap (λ (f : Flow). Some f) same);
          });
        }))

    -- by whether an honest client's SYN made the end
    server_sends_by : (o : Option ClientSpec) → client_behind w (Server v p) ≡ o → Inv (with_sent w (placed_at o (Server v p) t.state s reply)) calls
    server_sends_by None none =
        server_entry (nowhere (end (Server v p)) reply) refl refl
        (λ client peer knows own k is made.
        let behind : client_behind w (Server v p) ≡ opening_of w (flow_of w.setup client) =
        ap (λ x. option_and_then (opening_of w) (option_and_then (flow_made w) x)) here ∙ ap (λ x. option_and_then (opening_of w) x) made in
        absurd (none_found (λ c. same_flow (flow_of w.setup c) (flow_of w.setup client)) w.clients k client (sym behind ∙ none) is (same_flow_itself (flow_of w.setup client))))
    server_sends_by (Some client) some =
        let c = inv.server v p t here in
        server_entry (record { segment = reply; by = end (Server v p); position = Some s.position; acknowledged = acknowledges t.state }) refl refl
        (λ client peer knows own k is made. server_carries client t.state.peer peer knows own c.number may.sends _ refl refl refl)

  sends_by : (at : At) (e : EndState) (s : Part) (rest : Rest) → end_at w at ≡ Some e → MaySend e s → Inv (sent_by w at s rest (Some e)) calls
  sends_by (Client k) e s rest here may =
      let c = inv.client k e here in
      subst (λ o. Inv (with_sent w (placed_at o (Client k) e s (segment_on (route_of w.setup w.clients (Client k)) s rest))) calls) (sym c.is) (client_sends k e here s rest may)
  sends_by (Server v p) e s rest here may =
      let t = state_of (end_of_server w v p) e here in
      let now : MaySend t.0.state s = subst (λ (x : EndState). MaySend x s) (sym t.2) may in
      subst (λ (x : EndState). Inv (with_sent w (placed_at (client_behind w (Server v p)) (Server v p) x s (segment_on (route_of w.setup w.clients (Server v p)) s rest))) calls) t.2
      (server_sends_by v p t.0 t.1 s rest now (client_behind w (Server v p)) refl)

  pub sends_keeps : (at : At) (s : Part) (rest : Rest) → Enabled w (sends at s rest) → Inv (after w (sends at s rest)) calls
  sends_keeps at s rest (e, here, may) = subst (λ o. Inv (sent_by w at s rest o) calls) (sym here) (sends_by at e s rest here may)
