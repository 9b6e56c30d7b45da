-- A client opens; an end writes, closes or dies.
use Rattle.std.proofs.Common.{◌≡◌, ℕ, zero, suc, ◌≤◌, ◌<◌, ◌^◌, Bool, false, Option, Some, None, List, [], ◌∷◌, length, lit≤, refl, sym, ◌∙◌, ap, subst, arith, inl, inr}
use Rattle.std.specs.Prelude.{slice_get, option_map, option_and_then}
use Rattle.std.proofs.lemmas.List.{append-nil}
use Rattle.std.proofs.lemmas.Option.{none-some, same_Some}
use Rattle.flow_id.specs.declared.key.Flow.{Flow}
use Rattle.rule_table.specs.Setups.{SetupView}
use Rattle.seq_space.specs.declared.Num.{Num}
use Rattle.tcp_end.specs.EndState.{EndState, written_more, closed_end, dead_end}
use Rattle.tcp_end.specs.EndState.{client_end as first_client}
use Rattle.tcp_end.specs.Streams.{IsPrefix, HasReceived}
use Rattle.world_model.specs.declared.at.At.{At}
use Rattle.world_model.specs.declared.at.At.TheVariants.{Client, Server}
use Rattle.world_model.specs.declared.client.ClientSpec.{ClientSpec}
use Rattle.world_model.specs.After.{after, changed_by}
use Rattle.world_model.specs.Clients.{flow_of}
use Rattle.world_model.specs.Enabled.{Enabled}
use Rattle.world_model.specs.Events.{opens, writes, closes}
use Rattle.world_model.specs.Routes.{client_in}
use Rattle.world_model.specs.Streams.{written_by, closed_by}
use Rattle.world_model.specs.World.{World, ServerEnd, end_of_server, end_of_client, end_at, with_end}
use Rattle.world_model.proofs.Conclude.{client_in_is}
use Rattle.world_model.proofs.Ends.{later_client, one_client, later_server, one_server}
use Rattle.world_model.proofs.Frame.{client_later, server_later}
use Rattle.world_model.proofs.Growth.{either, StreamGrows, same_stream}
use Rattle.world_model.proofs.Relations.{open_is, write_is, some_is}
use Rattle.world_model.proofs.Invariant.{Calls, KnowsPeer, ReceivedFrom, ClientIs, ServerIs, Inv}

-- ---- what is there
pub get_within : {X : Type 0} (xs : List X) (k : ℕ) (x : X) → slice_get xs k ≡ Some x → k < length xs
get_within [] k x is = absurd (none-some x is)
get_within (y ∷ xs) zero x is = omega arith
get_within (y ∷ xs) (suc k) x is = let h = get_within xs k x is in omega arith

pub got_within : {X : Type 0} (xs : List X) (k : ℕ) → k < length xs → (x : X) × (slice_get xs k ≡ Some x)
got_within [] k below = absurd (omega arith)
got_within (y ∷ xs) zero below = (y, refl)
got_within (y ∷ xs) (suc k) below = got_within xs k (omega arith)

pub client_within : (w : World) (k : ℕ) (e : EndState) → end_of_client w k ≡ Some e → k < length w.ends
client_within w k e is = by (slice_get w.ends k) refl is
  where
    by : (o : Option (Option EndState)) → slice_get w.ends k ≡ o → option_and_then (λ x. x) o ≡ Some e → k < length w.ends
    by None at is = absurd (none-some e is)
    by (Some x) at is = get_within w.ends k x at

-- the server's end whose state this is
pub state_of : (o : Option ServerEnd) (e : EndState) → option_map (λ s. s.state) o ≡ Some e → (s : ServerEnd) × (o ≡ Some s) × (s.state ≡ e)
state_of None e is = absurd (none-some e is)
state_of (Some s) e is = (s, refl, same_Some s.state e is)

-- ---- an end with the same received bytes
-- whose first number, peer, acknowledged position, received bytes and seen close are these
pub record SameEnd (e d : EndState) : Type 0 where
  pub first : d.first ≡ e.first
  pub peer : d.peer ≡ e.peer
  pub acked : d.acked ≡ e.acked
  pub received : d.received ≡ e.received
  pub saw_close : d.saw_close ≡ e.saw_close

pub has_as : (e d : EndState) (stream : List ℕ) (closed : Bool) → SameEnd e d → HasReceived stream closed e → HasReceived stream closed d
has_as e d stream closed same h = record {
  bytes = subst (λ r. IsPrefix r stream) (sym same.received) h.bytes;
  close = λ saw. let c = h.close (sym same.saw_close ∙ saw) in (c.0, same.received ∙ c.1);
}

module _ (setup : SetupView) (clients : List ClientSpec) (w : World) (calls : Calls) where
  knows_as : (flow : Flow) (e d : EndState) (o : Option Num) → SameEnd e d → KnowsPeer setup clients flow e o → KnowsPeer setup clients flow d o
  knows_as flow e d None same k = (same.acked ∙ k.0, same.received ∙ k.1, same.saw_close ∙ k.2)
  knows_as flow e d (Some peer) same k = (k.0, subst (λ n. 1 ≤ n) (sym same.acked) k.1)

  pub client_as : (k : ℕ) (e d : EndState) → SameEnd e d → ClientIs setup clients w calls k e → ClientIs setup clients w calls k d
  client_as k e d same c = record {
    client = c.client;
    is = c.is;
    first = same.first ∙ c.first;
    number = c.number;
    peer = subst (λ o. KnowsPeer setup clients (flow_of setup c.client) d o) (sym same.peer) (knows_as (flow_of setup c.client) e d e.peer same c.peer);
    acked = either (λ o. o) (λ h. subst (λ n. n ≤ 1) (sym same.acked) h) c.acked;
    received = either (λ none. (same.received ∙ none.0, same.saw_close ∙ none.1))
        (λ (r : ReceivedFrom setup clients w (flow_of setup c.client) e). record { server = r.server; port = r.port; end = r.end; is = r.is; has = has_as e d r.end.state.written r.end.state.closed same r.has }) c.received;
  }

  pub server_as : (v p : ℕ) (s : ServerEnd) (d : EndState) → SameEnd s.state d → ServerIs setup clients w calls v p s → ServerIs setup clients w calls v p (record s { state = d })
  server_as v p s d same c = record {
    known = c.known;
    number = subst (λ (n : Num). n.0 < 2 ^ 32) (sym same.first) c.number;
    peer = c.peer;
    knows = same.peer ∙ c.knows;
    flow = c.flow;
    made = c.made;
    owns = c.owns;
    honest = λ k client is its. let h = c.honest k client is its in (h.0, has_as s.state d (written_by (end_of_client w k)) (closed_by (end_of_client w k)) same h.1);
  }

-- ---- an end whose stream grows, and no more
module _ (w : World) (calls : Calls) (inv : Inv w calls) where
  pub client_grows : (k : ℕ) (e d : EndState) → end_of_client w k ≡ Some e → SameEnd e d → StreamGrows e.written e.closed d.written d.closed → Inv (with_end w (Client k) d) calls
  client_grows k e d here same grows =
      let within = client_within w k e here in
      let more : StreamGrows (written_by (end_of_client w k)) (closed_by (end_of_client w k)) d.written d.closed = subst (λ o. StreamGrows (written_by o) (closed_by o) d.written d.closed) (sym here) grows in
      one_client w calls inv k d within more
      (client_as w.setup w.clients (with_end w (Client k) d) calls k e d same
      (client_later w.setup w.clients w calls (with_end w (Client k) d) calls (later_client w calls inv k d within more) k e (inv.client k e here)))

  pub server_grows : (v p : ℕ) (s : ServerEnd) (d : EndState) → end_of_server w v p ≡ Some s → SameEnd s.state d → StreamGrows s.state.written s.state.closed d.written d.closed → Inv (with_end w (Server v p) d) calls
  server_grows v p s d here same grows =
      one_server w calls inv v p s here d same.first grows
      (server_as w.setup w.clients (with_end w (Server v p) d) calls v p s d same
      (server_later w.setup w.clients w calls (with_end w (Server v p) d) calls (later_server w calls inv v p s here d same.first grows) v p s (inv.server v p s here)))

  pub end_grows : (at : At) (e d : EndState) → end_at w at ≡ Some e → SameEnd e d → StreamGrows e.written e.closed d.written d.closed → Inv (with_end w at d) calls
  end_grows (Client k) e d here same grows = client_grows k e d here same grows
  end_grows (Server v p) e d here same grows =
      let s = state_of (end_of_server w v p) e here in
      server_grows v p s.0 d s.1 (subst (λ (x : EndState). SameEnd x d) (sym s.2) same) (subst (λ (x : EndState). StreamGrows x.written x.closed d.written d.closed) (sym s.2) grows)

  -- ---- the events
  pub opens_keeps : (k : ℕ) → Enabled w (opens k) → Inv (after w (opens k)) calls
  opens_keeps k can =
      let may = open_is w k can.0 in
      let c = got_within w.clients k may.0 in
      let e = first_client (client_in w.clients k).isn in
      let within : k < length w.ends = subst (λ n. k < n) (sym inv.end_count) may.0 in
      one_client w calls inv k e within (subst (λ o. StreamGrows (written_by o) (closed_by o) [] false) (sym may.1) (same_stream [] false))
      (record {
        client = c.0;
        is = c.1;
        first = ap (λ (x : ClientSpec). x.isn) (client_in_is w.clients k c.0 c.1);
        number = subst (λ (x : ClientSpec). x.isn.0 < 2 ^ 32) (client_in_is w.clients k c.0 c.1) can.1;
        peer = (refl, refl, refl);
        acked = inr (lit≤ tt);
        received = inl (refl, refl);
      })

  pub writes_keeps : (at : At) (bytes : List ℕ) → Enabled w (writes at bytes) → Inv (after w (writes at bytes)) calls
  writes_keeps at bytes can =
      let t = write_is w at (end_at w at) refl can in
      let e = t.0 in
      let here = t.1 in
      let may = t.2 in
      subst (λ o. Inv (changed_by w at (λ (d : EndState). written_more d bytes) o) calls) (sym here)
      (end_grows at e (written_more e bytes) here (record { first = refl; peer = refl; acked = refl; received = refl; saw_close = refl })
      (record { more = bytes; is = refl; over = λ c. absurd (let clear = may.0 in cc) }))

  pub closes_keeps : (at : At) → Enabled w (closes at) → Inv (after w (closes at)) calls
  closes_keeps at can =
      let t = some_is w at (end_at w at) refl can in
      let e = t.0 in
      let here = t.1 in
      subst (λ o. Inv (changed_by w at closed_end o) calls) (sym here)
      (end_grows at e (closed_end e) here (record { first = refl; peer = refl; acked = refl; received = refl; saw_close = refl })
      (record { more = []; is = sym (append-nil e.written); over = λ c. (refl, refl) }))

  pub dies_keeps : (at : At) (e : EndState) → end_at w at ≡ Some e → Inv (with_end w at (dead_end e)) calls
  dies_keeps at e here =
      end_grows at e (dead_end e) here (record { first = refl; peer = refl; acked = refl; received = refl; saw_close = refl }) (same_stream e.written e.closed)
