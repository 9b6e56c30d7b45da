-- An end takes a segment of the balancer's.
use Rattle.std.proofs.Common.{◌≡◌, ℕ, ◌+◌, ◌≤◌, ◌<◌, ◌^◌, Bool, true, false, cond, Option, Some, None, List, [], ◌∷◌, ◌++◌, length, lit≤, refl, sym, ◌∙◌, ap, subst, arith, inl, inr}
use Rattle.std.specs.Prelude.{◌⊎◌, find, slice_get, option_map, option_and_then}
use Rattle.std.specs.Option.{option_or}
use Rattle.std.proofs.lemmas.List.Folds.{find-append}
use Rattle.std.proofs.lemmas.Option.{none-some, same_Some}
use Rattle.flow_id.specs.declared.key.Flow.{Flow}
use Rattle.rule_table.specs.Matching.{place_of}
use Rattle.rule_table.specs.Setups.{server_of}
use Rattle.seq_space.specs.declared.Num.{Num}
use Rattle.tcp_end.specs.EndState.{EndState, expected, next_expected, next_expected_of, dead_end}
use Rattle.tcp_end.specs.EndState.{server_end as made_end}
use Rattle.tcp_end.specs.Streams.{ShowsStream, HasReceived}
use Rattle.tcp_end.specs.Taking.{answers_syn, acked_after, new_bytes, received_with, stream_taken, taken_by, taken}
use Rattle.tcp_end.proofs.Prefixes.{taken-prefix, taken-syn}
use Rattle.tcp_segment.specs.Flags.{has_fin, has_syn}
use Rattle.tcp_segment.specs.declared.segment.Head.{Head}
use Rattle.world_model.specs.declared.at.At.{At}
use Rattle.world_model.specs.declared.at.At.TheVariants.{Client, Server}
use Rattle.world_model.specs.declared.client.ClientSpec.{ClientSpec}
use Rattle.world_model.specs.After.{after, received, received_at}
use Rattle.world_model.specs.Flows.{flow_sent}
use Rattle.world_model.specs.Clients.{flow_of, IsClient}
use Rattle.world_model.specs.Enabled.{Enabled}
use Rattle.world_model.proofs.Relations.{IsOut, IsWithin, GoesToEnd, MayReceive, take_is}
use Rattle.world_model.specs.Events.{receives}
use Rattle.bench.specs.MoveLaws.{MoveLaws}
use Rattle.world_model.specs.Runs.{AllLive}
use Rattle.world_model.specs.Posted.{Posted, Sender, end, balancer, stranger}
use Rattle.world_model.specs.Streams.{written_by, closed_by, IsEndFor}
use Rattle.world_model.specs.World.{World, ServerEnd, is_end, end_of_server, end_of_client, end_at, with_end}
use Rattle.world_model.proofs.Conclude.{not_both, same_way, client_flow, sent_as, client_has, received_of}
use Rattle.world_model.proofs.Ends.{later_client, one_client, later_server, one_server, end_names}
use Rattle.world_model.proofs.Frame.{frame, client_later}
use Rattle.world_model.proofs.Growth.{StreamGrows, same_stream}
use Rattle.world_model.proofs.Invariant.{Calls, IsOpened, IsReset, forged, Owns, KnowsPeer, SaysToServer, SaysToClient, ClientIs, ServerIs, Inv}
use Rattle.world_model.proofs.Invariant.SaysToServer.{resets as server_resets, opens as server_opens, shows as server_shows}
use Rattle.world_model.proofs.Invariant.SaysToClient.{resets as client_resets, opens as client_opens, shows as client_shows}
use Rattle.world_model.proofs.Later.{Later, opened_later, end_for_later, owns_later, made_later}
use Rattle.world_model.proofs.Places.{place_is}
use Rattle.world_model.proofs.Taking.{answers_none, by_bool, taken_is, taken_rst, OwnStream, own_stream, peer_stays, acked_rises, rst_received}
use Rattle.world_model.proofs.Unique.{one_owner}
use Rattle.world_model.proofs.Writing.{client_as, client_within, state_of}

-- what is kept of the stream
own_grows : (e d : EndState) → OwnStream e d → StreamGrows e.written e.closed d.written d.closed
own_grows e d own =
    subst (λ b. StreamGrows e.written e.closed d.written b) (sym own.closed) (subst (λ s. StreamGrows e.written e.closed s e.closed) (sym own.written) (same_stream e.written e.closed))

module _ (w : World) (calls : Calls) (inv : Inv w calls) (live : AllLive w) (laws : (g : ℕ) → MoveLaws w.setup g) where
  -- ---- a client
  module _ (k : ℕ) (e : EndState) (here : end_of_client w k ≡ Some e) (n : ℕ) (x : Posted) (goes : GoesToEnd w (Client k) n x) (near : IsWithin (next_expected e) x.position) where
    abbrev head : Head
    head = x.segment.head

    abbrev after_take : EndState
    after_take = taken e head x.segment.body

    abbrev now : World
    now = with_end w (Client k) after_take

    within : k < length w.ends
    within = client_within w k e here

    grows : StreamGrows (written_by (end_of_client w k)) (closed_by (end_of_client w k)) after_take.written after_take.closed
    grows = subst (λ o. StreamGrows (written_by o) (closed_by o) after_take.written after_take.closed) (sym here) (own_grows e after_take (own_stream e head x.segment.body))

    later : Later w.setup w calls now calls
    later = later_client w calls inv k after_take within grows

    abbrev Is : EndState → Type 0
    Is d = ClientIs w.setup w.clients now calls k d

    as_was : Is e
    as_was = client_later w.setup w.clients w calls now calls later k e (inv.client k e here)

    as_dead : Is (dead_end e)
    as_dead = client_as w.setup w.clients now calls k e (dead_end e) (record { first = refl; peer = refl; acked = refl; received = refl; saw_close = refl }) as_was

    abbrev client : ClientSpec
    client = (inv.client k e here).client

    abbrev flow : Flow
    flow = flow_of w.setup client

    abbrev is : IsClient w.clients k client
    is = (inv.client k e here).is

    -- a SYN-ACK makes the peer known
    syn_ack : (o : Option Num) → KnowsPeer w.setup w.clients flow e o → has_syn head.flags ≡ true → head.seq ≡ forged w.setup w.clients flow → Is (taken_by o e head x.segment.body)
    syn_ack None knows syn seq =
        by_bool Is (answers_syn e head) (record e { peer = Some head.seq; acked = 1 }) e
        (record { client = client; is = is; first = (inv.client k e here).first; number = (inv.client k e here).number; peer = (seq, lit≤ tt); acked = inr (lit≤ tt); received = inl (knows.1, knows.2) })
        as_was
    syn_ack (Some peer) knows syn seq = subst (λ b. Is (cond b e (stream_taken e peer head x.segment.body))) (sym syn) as_was

    -- a part of the server's stream
    abbrev Knows : EndState → Type 0
    Knows d = KnowsPeer w.setup w.clients flow d d.peer

    knows_part : (b : Option (List ℕ)) (fin : Bool) (acked : ℕ) (o : Option Num) (peer : Num) → e.peer ≡ Some peer → KnowsPeer w.setup w.clients flow e (Some peer) → e.acked ≤ acked
        → Knows (record (received_with b fin e) { acked = acked })
    knows_part None fin acked o peer is_peer knows up =
        subst (λ q. KnowsPeer w.setup w.clients flow (record e { acked = acked }) q) (sym is_peer) (knows.0, (let h = knows.1 in omega arith))
    knows_part (Some bytes) fin acked o peer is_peer knows up =
        subst (λ q. KnowsPeer w.setup w.clients flow (record e { received = e.received ++ bytes; saw_close = fin; acked = acked }) q) (sym is_peer) (knows.0, (let h = knows.1 in omega arith))

    knows_dead : (o : Option Num) → KnowsPeer w.setup w.clients flow e o → KnowsPeer w.setup w.clients flow (dead_end e) o
    knows_dead None knows = knows
    knows_dead (Some peer) knows = knows

    part_known : (peer : Num) → e.peer ≡ Some peer → Knows e → Knows after_take
    part_known peer is_peer knows =
        taken_is Knows e head x.segment.body knows (knows_dead e.peer knows)
        (subst (λ o. Knows (taken_by o e head x.segment.body)) (sym is_peer)
        (by_bool Knows (has_syn head.flags) e (stream_taken e peer head x.segment.body) knows
        (knows_part (new_bytes e peer head x.segment.body) (has_fin head.flags) (acked_after e head) e.peer peer is_peer (subst (λ o. KnowsPeer w.setup w.clients flow e o) is_peer knows) (acked_rises e head))))

    within_part : (o : Option Num) (peer : Num) → e.peer ≡ o → o ≡ Some peer → (p : ℕ) → x.position ≡ Some p → (p < expected e + 2 ^ 31) × (expected e < p + 2 ^ 31)
    within_part o peer is_o is_peer p at =
        let known : e.peer ≡ Some peer = is_o ∙ is_peer in
        subst (λ q. IsWithin (next_expected_of q e) (Some p)) known (subst (λ q. IsWithin (next_expected e) q) at near)

    part : (o : Option Num) → e.peer ≡ o → (server port : ℕ) (s : ServerEnd) → IsOpened w.setup calls flow → IsEndFor w flow server port s
        → (q : ℕ) → x.position ≡ Some q → ShowsStream (forged w.setup w.clients flow) s.state.written s.state.closed q head.seq head.flags x.segment.body
        → has_syn head.flags ≡ false → Is after_take
    part None is_o server port s opened at q position shows clear =
        taken_is Is e head x.segment.body as_was as_dead
        (subst (λ o. Is (taken_by o e head x.segment.body)) (sym is_o)
        (subst (λ b. Is (cond b (record e { peer = Some head.seq; acked = 1 }) e)) (sym (answers_none e head clear)) as_was))
    part (Some peer) is_o server port s opened at q position shows clear =
        let c = inv.client k e here in
        let knows = subst (λ o. KnowsPeer w.setup w.clients flow e o) is_o c.peer in
        let shows_peer : ShowsStream peer s.state.written s.state.closed q head.seq head.flags x.segment.body =
        subst (λ (m : Num). ShowsStream m s.state.written s.state.closed q head.seq head.flags x.segment.body) (sym knows.0) shows in
        let reach = within_part (Some peer) peer is_o refl q position in
        let had : HasReceived s.state.written s.state.closed e = client_has w calls inv live laws k client is server port s e at (received_of w calls inv live laws k client is e here) in
        let g = later.server server port s at.here in
        record {
          client = client;
          is = is;
          first = (own_stream e head x.segment.body).first ∙ c.first;
          number = c.number;
          peer = part_known peer is_o c.peer;
          acked = inl (opened_later w.setup w.clients w calls now calls later flow opened);
          received = inr (record {
            server = server;
            port = port;
            end = g.end;
            is = end_for_later w.setup w.clients w calls now calls later flow server port s g at;
            has = Rattle.world_model.proofs.Growth.has_grows s.state.written g.end.state.written s.state.closed g.end.state.closed g.stream after_take
                (taken-prefix e peer head x.segment.body s.state.written s.state.closed q is_o shows_peer reach.0 reach.1 had);
          });
        }

    says : SaysToClient w.setup w.clients w calls k client n x → Is after_take
    says (client_resets r) = taken_rst Is e head x.segment.body r.rst as_was as_dead
    says (client_opens r d seq position syn ack rst acks) =
        taken_is Is e head x.segment.body as_was as_dead (syn_ack e.peer (inv.client k e here).peer syn seq)
    says (client_shows server port s opened at shown acks passes) = part e.peer refl server port s opened at shown.at shown.position shown.shows shown.no_syn

    client_by : (by : Sender) → x.by ≡ by → Is after_take
    client_by (end at) by = absurd (subst IsOut by goes.out)
    client_by stranger by = absurd (subst IsOut by goes.out)
    client_by (balancer None) by =
        let r : IsReset x = sent_as w calls inv n x (balancer None) goes.sent by in
        taken_rst Is e head x.segment.body r.rst as_was as_dead
    client_by (balancer (Some f)) by =
        let sent = sent_as w calls inv n x (balancer (Some f)) goes.sent by in
        elim sent.way [
          | inl t ↦ not_both w calls inv k client t.server t.port x is t.known goes.goes t.goes
          | inr t ↦ says (t.honest k client is (client_flow w calls inv k client f n x is goes.goes sent.known t))
        ]

    pub client_receives : Inv now calls
    client_receives = one_client w calls inv k after_take within grows (client_by x.by refl)

  -- ---- a segment that goes to a server's end
  -- the flow of whose it is owns the port
  pub record Bound (v p n : ℕ) (x : Posted) (f : Flow) : Type 0 where
    pub owns : Owns w.setup w.clients calls f v p
    pub honest : (k : ℕ) (client : ClientSpec) → IsClient w.clients k client → f ≡ flow_of w.setup client → SaysToServer w.setup w.clients w calls k client v p n x

  pub bound : (v p n : ℕ) (x : Posted) (f : Flow) → v < length w.setup.servers → GoesToEnd w (Server v p) n x → x.by ≡ balancer (Some f) → Bound v p n x f
  bound v p n x f known goes by =
      let sent = sent_as w calls inv n x (balancer (Some f)) goes.sent by in
      elim sent.way [
        | inl t ↦
            let same = same_way w calls inv t.server t.port v p x t.known known t.goes goes.goes in
            record {
              owns = subst (λ q. Owns w.setup w.clients calls f v q) same.1 (subst (λ u. Owns w.setup w.clients calls f u t.port) same.0 t.owns);
              honest = λ k client is its.
                  subst (λ q. SaysToServer w.setup w.clients w calls k client v q n x) same.1
                  (subst (λ u. SaysToServer w.setup w.clients w calls k client u t.port n x) same.0 (t.honest k client is its));
            }
        | inr t ↦ absurd (none-some v (sym sent.known.no_server
            ∙ ap (λ a. place_of w.setup.servers a f.port) (sym t.target)
            ∙ ap (λ q. place_of w.setup.servers x.segment.target q) (sym t.target_port)
            ∙ ap (λ a. place_of w.setup.servers a x.segment.head.target_port) goes.goes.target
            ∙ ap (λ q. place_of w.setup.servers (server_of w.setup v).address q) goes.goes.target_port
            ∙ place_is w.setup inv.good v known))
      ]

  -- ---- a server's end that is there
  module _ (v p : ℕ) (s : ServerEnd) (here : end_of_server w v p ≡ Some s) (n : ℕ) (x : Posted) (goes : GoesToEnd w (Server v p) n x) (near : IsWithin (next_expected s.state) x.position) where
    abbrev server_take : EndState
    server_take = taken s.state x.segment.head x.segment.body

    abbrev server_now : World
    server_now = with_end w (Server v p) server_take

    abbrev own : OwnStream s.state server_take
    own = own_stream s.state x.segment.head x.segment.body

    abbrev server_is : ServerIs w.setup w.clients w calls v p s
    server_is = inv.server v p s here

    server_later_now : Later w.setup w calls server_now calls
    server_later_now = later_server w calls inv v p s here server_take own.first (own_grows s.state server_take own)

    -- what an honest client's flow says to it
    takes : (k : ℕ) (client : ClientSpec) → server_is.peer ≡ client.isn → HasReceived (written_by (end_of_client w k)) (closed_by (end_of_client w k)) s.state
        → SaysToServer w.setup w.clients w calls k client v p n x → HasReceived (written_by (end_of_client w k)) (closed_by (end_of_client w k)) server_take
    takes k client peer had (server_resets r) = rst_received s.state x.segment.head x.segment.body (written_by (end_of_client w k)) (closed_by (end_of_client w k)) r.rst had
    takes k client peer had (server_opens seq position syn rst acks) = taken-syn s.state x.segment.head x.segment.body (written_by (end_of_client w k)) (closed_by (end_of_client w k)) syn had
    takes k client peer had (server_shows r t d at number shown acks backed) =
        let knows : s.state.peer ≡ Some client.isn = server_is.knows ∙ ap (λ (m : Num). Some m) peer in
        let reach : IsWithin (expected s.state) (Some shown.at) = subst (λ q. IsWithin (next_expected_of q s.state) (Some shown.at)) knows (subst (λ q. IsWithin (next_expected s.state) q) shown.position near) in
        taken-prefix s.state client.isn x.segment.head x.segment.body (written_by (end_of_client w k)) (closed_by (end_of_client w k)) shown.at knows shown.shows reach.0 reach.1 had

    server_with : ((k : ℕ) (client : ClientSpec) → IsClient w.clients k client → server_is.flow ≡ flow_of w.setup client → HasReceived (written_by (end_of_client w k)) (closed_by (end_of_client w k)) server_take) → Inv server_now calls
    server_with has =
        one_server w calls inv v p s here server_take own.first (own_grows s.state server_take own)
        (record {
          known = server_is.known;
          number = subst (λ (m : Num). m.0 < 2 ^ 32) (sym own.first) server_is.number;
          peer = server_is.peer;
          knows = peer_stays s.state server_is.peer x.segment.head x.segment.body server_is.knows;
          flow = server_is.flow;
          made = made_later w.setup w.clients w calls server_now calls server_later_now s (record s { state = server_take }) server_is.flow refl server_is.made;
          owns = owns_later w.setup w.clients w calls server_now calls server_later_now server_is.flow v p server_is.owns;
          honest = λ k client is its. ((server_is.honest k client is its).0, has k client is its);
        })

    server_by : (by : Sender) → x.by ≡ by → Inv server_now calls
    server_by (end at) by = absurd (subst IsOut by goes.out)
    server_by stranger by = absurd (subst IsOut by goes.out)
    server_by (balancer None) by =
        let r : IsReset x = sent_as w calls inv n x (balancer None) goes.sent by in
        server_with (λ k client is its. rst_received s.state x.segment.head x.segment.body (written_by (end_of_client w k)) (closed_by (end_of_client w k)) r.rst (server_is.honest k client is its).1)
    server_by (balancer (Some f)) by =
        let b = bound v p n x f server_is.known goes by in
        let same : f ≡ server_is.flow = one_owner w calls inv live laws f server_is.flow v p b.owns server_is.owns in
        server_with (λ k client is its. let h = server_is.honest k client is its in takes k client h.0 h.1 (b.honest k client is (same ∙ its)))

    pub server_receives : Inv server_now calls
    server_receives = server_by x.by refl

  -- ---- a server's end that is made
  module _ (v p n : ℕ) (x : Posted) (goes : GoesToEnd w (Server v p) n x) (known : v < length w.setup.servers) (syn : has_syn x.segment.head.flags ≡ true) (isn : Num) (small : isn.0 < 2 ^ 32)
      (none : end_of_server w v p ≡ None) where
    abbrev new_end : ServerEnd
    new_end = record { server = v; port = p; maker = n; state = made_end isn x.segment.head.seq }

    abbrev made_now : World
    made_now = received_at w (Server v p) n isn x.segment None

    still : (v' p' : ℕ) (s : ServerEnd) → end_of_server w v' p' ≡ Some s → end_of_server made_now v' p' ≡ Some s
    still v' p' s at = find-append (is_end v' p') w.servers (new_end ∷ []) ∙ ap (λ o. option_or o (find (is_end v' p') (new_end ∷ []))) at

    made_later_now : Later w.setup w calls made_now calls
    made_later_now = record {
      decided = λ g k r d. d;
      sent = λ m y at. at;
      client = λ k. same_stream (written_by (end_of_client w k)) (closed_by (end_of_client w k));
      server = λ v' p' s at. record { end = s; here = still v' p' s at; maker = refl; first = refl; stream = same_stream s.state.written s.state.closed };
    }

    new_is : (v' p' : ℕ) (s : ServerEnd) → end_of_server made_now v' p' ≡ Some s → (o : Option ServerEnd) → end_of_server w v' p' ≡ o → (end_of_server w v' p' ≡ Some s) ⊎ ((v ≡ v') × (p ≡ p') × (new_end ≡ s))
    new_is v' p' s at (Some t) is = inl (is ∙ sym (still v' p' t is) ∙ at)
    new_is v' p' s at None is =
        let last : find (is_end v' p') (new_end ∷ []) ≡ Some s =
        sym (find-append (is_end v' p') w.servers (new_end ∷ []) ∙ ap (λ o. option_or o (find (is_end v' p') (new_end ∷ []))) is) ∙ at in
        inr (by (is_end v' p' new_end) refl last)
      where
        by : (b : Bool) → is_end v' p' new_end ≡ b → cond b (Some new_end) None ≡ Some s → (v ≡ v') × (p ≡ p') × (new_end ≡ s)
        by true passes found = let names = end_names v' p' new_end passes in (names.0, names.1, same_Some new_end s found)
        by false passes found = absurd (none-some s found)

    made_with : (f : Flow) → flow_sent x.by ≡ Some f → Bound v p n x f → ((k : ℕ) (client : ClientSpec) → IsClient w.clients k client → f ≡ flow_of w.setup client → x.segment.head.seq ≡ client.isn) → Inv made_now calls
    made_with f by b number =
        frame w w.ends (w.servers ++ new_end ∷ []) w.sent calls inv made_later_now refl
        (λ m y at. inl at)
        (λ k e at. inl at)
        (λ v' p' s at. elim (new_is v' p' s at (end_of_server w v' p') refl) [
          | inl was ↦ inl was
          | inr new ↦ inr (subst (λ a. ServerIs w.setup w.clients made_now calls a p' s) new.0 (subst (λ q. ServerIs w.setup w.clients made_now calls v q s) new.1
              (subst (λ (t : ServerEnd). ServerIs w.setup w.clients made_now calls v p t) new.2 it)))
        ])
      where
        it : ServerIs w.setup w.clients made_now calls v p new_end
        it = record {
          known = known;
          number = small;
          peer = x.segment.head.seq;
          knows = refl;
          flow = f;
          made = ap (λ o. option_and_then (λ (y : Posted). flow_sent y.by) o) goes.sent ∙ by;
          owns = owns_later w.setup w.clients w calls made_now calls made_later_now f v p b.owns;
          honest = λ k client is its. (number k client is its, record { bytes = refl; close = λ saw. absurd (cc) });
        }

    number_of_syn : (k : ℕ) (client : ClientSpec) → SaysToServer w.setup w.clients w calls k client v p n x → x.segment.head.seq ≡ client.isn
    number_of_syn k client (server_resets r) = absurd (let clear = r.no_syn in cc)
    number_of_syn k client (server_opens seq position is_syn rst acks) = seq
    number_of_syn k client (server_shows r t d at number shown acks backed) = absurd (let clear = shown.no_syn in cc)

    made_by : (by : Sender) → x.by ≡ by → Inv made_now calls
    made_by (end at) by = absurd (subst IsOut by goes.out)
    made_by stranger by = absurd (subst IsOut by goes.out)
    made_by (balancer None) by = absurd (let r : IsReset x = sent_as w calls inv n x (balancer None) goes.sent by in let clear = r.no_syn in cc)
    made_by (balancer (Some f)) by =
        let b = bound v p n x f known goes by in
        made_with f (ap flow_sent by) b (λ k client is its. number_of_syn k client (b.honest k client is its))

    pub end_made : Inv made_now calls
    end_made = made_by x.by refl

  -- ---- the event
  receives_by : (at : At) (n : ℕ) (isn : Num) (x : Posted) → GoesToEnd w at n x → (o : Option EndState) → end_at w at ≡ o → MayReceive w.setup at isn x o → Inv (received_at w at n isn x.segment o) calls
  receives_by (Client k) n isn x goes (Some e) here may = client_receives k e here n x goes may
  receives_by (Client k) n isn x goes None here may = absurd may.0
  receives_by (Server v p) n isn x goes (Some e) here may =
      let t = state_of (end_of_server w v p) e here in
      subst (λ (d : EndState). Inv (with_end w (Server v p) (taken d x.segment.head x.segment.body)) calls) t.2
      (server_receives v p t.0 t.1 n x goes (subst (λ (d : EndState). IsWithin (next_expected d) x.position) (sym t.2) may))
  receives_by (Server v p) n isn x goes None here may = end_made v p n x goes may.0.0 may.0.1 isn may.1 (by (end_of_server w v p) here)
    where
      by : (o : Option ServerEnd) → option_map (λ s. s.state) o ≡ None → o ≡ None
      by None is = refl
      by (Some s) is = absurd (none-some s.state (sym is))

  pub receives_keeps : (at : At) (n : ℕ) (isn : Num) → Enabled w (receives at n isn) → Inv (after w (receives at n isn)) calls
  receives_keeps at n isn can =
      let t = take_is w at n isn (slice_get w.sent n) can.1 refl can.0 in
      subst (λ o. Inv (received w at n isn o) calls) (sym t.1.sent) (receives_by at n isn t.0 t.1 (end_at w at) refl t.2)
