-- What the invariant says of the streams, the acknowledgments, the records and the held bytes.
use Rattle.std.proofs.Common.{◌≡◌, ℕ, ◌<◌, Bool, true, false, Option, Some, None, List, [], length, take, refl, sym, ◌∙◌, ap, subst, inl, inr}
use Rattle.std.specs.Prelude.{◌⊎◌, IsTrue, slice_get, slice_set, unwrap_or, cond}
use Rattle.std.proofs.lemmas.Option.{none-some, same_Some}
use Rattle.flow_id.specs.Ports.{shard_of}
use Rattle.flow_id.specs.declared.key.Flow.{Flow}
use Rattle.flow_id.specs.declared.key.Key.TheVariants as key
use Rattle.flow_record.specs.Records.{is_syn, syn_number, is_open, open_number}
use Rattle.flow_record.specs.declared.record.Record.{Record}
use Rattle.http_head.specs.Reading.{Reading, reading}
use Rattle.http_head.specs.Fields.{is_complete}
use Rattle.rule_table.specs.Matching.{place_of, matched_in, admits_in, gives_weight, admits}
use Rattle.rule_table.specs.Setups.{server_of}
use Rattle.rule_table.specs.declared.types.Rule.{Rule}
use Rattle.seq_space.specs.Positions.{number_of}
use Rattle.seq_space.specs.declared.Num.{Num}
use Rattle.tcp_end.specs.EndState.{EndState}
use Rattle.tcp_end.specs.Streams.{HasReceived}
use Rattle.tcp_segment.specs.Flags.{has_rst, has_ack}
use Rattle.bench.specs.Histories.{Decides}
use Rattle.bench.proofs.Fits.{decided_fit}
use Rattle.world_model.specs.declared.at.At.{At}
use Rattle.world_model.specs.declared.at.At.TheVariants.{Client, Server}
use Rattle.world_model.specs.declared.client.ClientSpec.{ClientSpec}
use Rattle.world_model.specs.Acks.{AcksStored, PeerAcked, Acknowledges, AcksAreBackedFor}
use Rattle.world_model.specs.Clients.{flow_of, IsClient}
use Rattle.world_model.proofs.Relations.{GoesBack, IsOut, to_end}
use Rattle.bench.specs.MoveLaws.{MoveLaws}
use Rattle.world_model.specs.Routes.{route_of, client_in}
use Rattle.world_model.specs.Runs.{AllLive}
use Rattle.world_model.specs.Posted.{Posted, Sender, end, balancer, stranger}
use Rattle.world_model.specs.Streams.{written_by, IsEndFor, IsServerBound, AdmitsServer, StreamsAgreeFor}
use Rattle.world_model.specs.World.{World, ServerEnd, end_of_server, end_of_client}
use Rattle.world_model.proofs.Invariant.{Calls, log_at, DecidesOf, IsReset, SaysToServer, SaysToClient, Owns, Passes, ToClient, FlowSent, IsFlow, IsSentBy, ReceivedFrom, ClientIs, Inv}
use Rattle.world_model.proofs.Invariant.SaysToServer.{resets as server_resets, opens as server_opens, shows as server_shows}
use Rattle.world_model.proofs.Invariant.SaysToClient.{resets as client_resets, opens as client_opens, shows as client_shows}
use Rattle.world_model.proofs.Places.{place_is}
use Rattle.world_model.proofs.Unique.{home_below, shard_is, proposed_of, port_for, word_is, one_port, one_owner, end_owns, one_end}

-- what admits a server begins with a head
pub admits_head : (rules : List Rule) (r : Reading) (server : ℕ) → admits_in rules r server ≡ true → IsTrue (is_complete r)
unfolding admits_in matched_in
admits_head rules r server e = by (is_complete r) e
  where
    by : (b : Bool) → gives_weight rules server (cond b (Rattle.std.specs.Prelude.position (Rattle.rule_table.specs.Matching.applies r) rules) None) ≡ true → IsTrue b
    by true e = refl
    by false e = absurd (cc)

rst_is : {A : Type 0} (x : Posted) → IsReset x → has_rst x.segment.head.flags ≡ false → A
rst_is x r clear = absurd (let e = r.rst in cc)

pub client_in_is : (clients : List ClientSpec) (k : ℕ) (client : ClientSpec) → IsClient clients k client → client_in clients k ≡ client
client_in_is clients k client is = ap (λ (o : Option ClientSpec). unwrap_or o (record { address = 0; port = 0; isn = record { 0 = 0 } })) is

module _ (w : World) (calls : Calls) (inv : Inv w calls) where
  -- what goes back to a client goes to its address and port
  pub back_to_client : (k : ℕ) (client : ClientSpec) (x : Posted) → IsClient w.clients k client → GoesBack (route_of w.setup w.clients (Client k)) x.segment
      → (x.segment.target ≡ client.address) × (x.segment.head.target_port ≡ client.port)
  back_to_client k client x is goes =
      let same = client_in_is w.clients k client is in
      (goes.target ∙ ap (λ (c : ClientSpec). c.address) same, goes.target_port ∙ ap (λ (c : ClientSpec). c.port) same)

  -- and to no server
  pub not_both : {A : Type 0} (k : ℕ) (client : ClientSpec) (server port : ℕ) (x : Posted) → IsClient w.clients k client → server < length w.setup.servers
      → GoesBack (route_of w.setup w.clients (Client k)) x.segment → GoesBack (route_of w.setup w.clients (Server server port)) x.segment → A
  not_both k client server port x is known a b =
      let to = back_to_client k client x is a in
      let here : place_of w.setup.servers (server_of w.setup server).address (server_of w.setup server).port ≡ Some server = place_is w.setup inv.good server known in
      let none : place_of w.setup.servers client.address client.port ≡ None = inv.apart.no_server k client is in
      let address : (server_of w.setup server).address ≡ client.address = sym b.target ∙ to.0 in
      let port_is : (server_of w.setup server).port ≡ client.port = sym b.target_port ∙ to.1 in
      absurd (none-some server (sym none
      ∙ ap (λ n. place_of w.setup.servers n client.port) (sym address)
      ∙ ap (λ n. place_of w.setup.servers (server_of w.setup server).address n) (sym port_is)
      ∙ here))

  -- two servers' ends to which one segment goes are one
  pub same_way : (server port server' port' : ℕ) (x : Posted) → server < length w.setup.servers → server' < length w.setup.servers
      → GoesBack (route_of w.setup w.clients (Server server port)) x.segment → GoesBack (route_of w.setup w.clients (Server server' port')) x.segment → (server ≡ server') × (port ≡ port')
  same_way server port server' port' x known known' a b =
      let address : (server_of w.setup server).address ≡ (server_of w.setup server').address = sym a.target ∙ b.target in
      let port_is : (server_of w.setup server).port ≡ (server_of w.setup server').port = sym a.target_port ∙ b.target_port in (
        same_Some server server' (sym (place_is w.setup inv.good server known)
            ∙ ap (λ n. place_of w.setup.servers n (server_of w.setup server).port) address
            ∙ ap (λ n. place_of w.setup.servers (server_of w.setup server').address n) port_is
            ∙ place_is w.setup inv.good server' known'),
        sym a.source_port ∙ b.source_port,
      )

  -- the flow of what goes to a client is the client's
  pub client_flow : (k : ℕ) (client : ClientSpec) (flow : Flow) (n : ℕ) (x : Posted) → IsClient w.clients k client → GoesBack (route_of w.setup w.clients (Client k)) x.segment
      → IsFlow w.setup w.clients flow → ToClient w.setup w.clients w calls flow n x → flow ≡ flow_of w.setup client
  client_flow k client flow n x is goes known t =
      let to = back_to_client k client x is goes in
      known.is
      ∙ ap (λ a. Rattle.job_core.specs.Aims.flow_from w.setup a flow.port) (sym t.target ∙ to.0)
      ∙ ap (λ p. Rattle.job_core.specs.Aims.flow_from w.setup client.address p) (sym t.target_port ∙ to.1)

  -- what was sent, by its sender
  pub sent_as : (n : ℕ) (x : Posted) (by : Sender) → slice_get w.sent n ≡ Some x → x.by ≡ by → IsSentBy w.setup w.clients w calls n x by
  sent_as n x by sent is = subst (λ s. IsSentBy w.setup w.clients w calls n x s) is (inv.sent n x sent)

  module _ (live : AllLive w) (laws : (g : ℕ) → MoveLaws w.setup g) (k : ℕ) (client : ClientSpec) (is : IsClient w.clients k client) where
    abbrev flow : Flow
    flow = flow_of w.setup client

    -- ---- streams
    pub has_none : (e : EndState) (stream : List ℕ) (closed : Bool) → e.received ≡ [] → e.saw_close ≡ false → HasReceived stream closed e
    has_none e stream closed none clear = record {
      bytes = none ∙ ap (λ (r : List ℕ). take (length r) stream) (sym none);
      close = λ saw. absurd (cc);
    }

    pub client_has : (server port : ℕ) (s : ServerEnd) (e : EndState) → IsEndFor w flow server port s
        → (((e.received ≡ []) × (e.saw_close ≡ false)) ⊎ ReceivedFrom w.setup w.clients w flow e) → HasReceived s.state.written s.state.closed e
    client_has server port s e at (inl none) = has_none e s.state.written s.state.closed none.0 none.1
    client_has server port s e at (inr from) =
        let one = one_end w calls inv live laws flow from.server from.port server port from.end s from.is at in
        let here : end_of_server w server port ≡ Some from.end =
        subst (λ p. end_of_server w server p ≡ Some from.end) one.1 (subst (λ v. end_of_server w v from.port ≡ Some from.end) one.0 from.is.here) in
        subst (λ (t : ServerEnd). HasReceived t.state.written t.state.closed e) (same_Some from.end s (sym here ∙ at.here)) from.has

    -- the client of an end's state is this one
    pub of_client : (e : EndState) → end_of_client w k ≡ Some e → (c : ClientIs w.setup w.clients w calls k e) → c.client ≡ client
    of_client e here c = same_Some c.client client (sym c.is ∙ is)

    pub received_of : (e : EndState) → end_of_client w k ≡ Some e → ((e.received ≡ []) × (e.saw_close ≡ false)) ⊎ ReceivedFrom w.setup w.clients w flow e
    received_of e here =
        let c = inv.client k e here in
        subst (λ (d : ClientSpec). ((e.received ≡ []) × (e.saw_close ≡ false)) ⊎ ReceivedFrom w.setup w.clients w (flow_of w.setup d) e) (of_client e here c) c.received

    -- what goes to a server goes from a port that the flow owns
    bound_owns : (server port n : ℕ) (x : Posted) → IsServerBound w flow server port n x → FlowSent w.setup w.clients w calls flow n x → Owns w.setup w.clients calls flow server port
    bound_owns server port n x b f = elim f.way [
      | inl t ↦
          let here : t.server ≡ server = same_Some t.server server (sym (place_is w.setup inv.good t.server t.known)
          ∙ ap (λ a. place_of w.setup.servers a (server_of w.setup t.server).port) (sym t.goes.target)
          ∙ ap (λ p. place_of w.setup.servers x.segment.target p) (sym t.goes.target_port)
          ∙ b.goes_to) in
          let from : t.port ≡ port = sym t.goes.source_port ∙ b.from_port in
          subst (λ v. Owns w.setup w.clients calls flow v port) here (subst (λ p. Owns w.setup w.clients calls flow t.server p) from t.owns)
      | inr t ↦ absurd (none-some server (sym f.known.no_server
          ∙ ap (λ a. place_of w.setup.servers a flow.port) (sym t.target)
          ∙ ap (λ p. place_of w.setup.servers x.segment.target p) (sym t.target_port)
          ∙ b.goes_to))
    ]

    else_is : (n : ℕ) (x : Posted) → slice_get w.sent n ≡ Some x → x.by ≡ balancer (Some flow) → FlowSent w.setup w.clients w calls flow n x
        → ((x.segment.target ≡ flow.address) × (x.segment.head.target_port ≡ flow.port)) ⊎ ((server : ℕ) × (port : ℕ) × IsServerBound w flow server port n x)
    else_is n x sent by f = elim f.way [
      | inl t ↦ inr (
        t.server,
        t.port,
        record {
          sent = sent;
          by = by;
          goes_to = ap (λ p. place_of w.setup.servers x.segment.target p) t.goes.target_port
              ∙ ap (λ a. place_of w.setup.servers a (server_of w.setup t.server).port) t.goes.target
              ∙ place_is w.setup inv.good t.server t.known;
          from_port = t.goes.source_port;
        },
      )
      | inr t ↦ inl (t.target, t.target_port)
    ]

    bound_is : (server port n : ℕ) (x : Posted) → IsServerBound w flow server port n x → Owns w.setup w.clients calls flow server port
    bound_is server port n x b = bound_owns server port n x b (sent_as n x (balancer (Some flow)) b.sent b.by)

    -- the server of an owned port is admitted
    owned_admits : (server port : ℕ) → Owns w.setup w.clients calls flow server port → AdmitsServer w (written_by (end_of_client w k)) server
    owned_admits server port o =
        let g = shard_of flow w.setup.shards in
        let p = port_for w calls inv g (home_below w calls inv flow) w.setup.service.number server port o.owner o.decided in
        let chosen : Decides (log_at w.setup calls g) (key.Choice flow) p.choice = subst (λ f. Decides (log_at w.setup calls g) (key.Choice f) p.choice) o.owned p.choice_decided in
        let says = proposed_of w calls inv g (home_below w calls inv flow) (key.Choice flow) p.choice chosen k client is refl in
        let admitted : admits w.setup (written_by (end_of_client w k)) server ≡ true = subst (λ v. admits w.setup (written_by (end_of_client w k)) v ≡ true) (sym p.of_choice) says in
        record { head = admits_head w.setup.rules (reading (written_by (end_of_client w k))) server admitted; admitted = admitted }

    pub streams_agree : StreamsAgreeFor w flow (end_of_client w k)
    streams_agree = record {
      nowhere_else = λ n x sent by. else_is n x sent by (sent_as n x (balancer (Some flow)) sent by);
      untold = λ n x sent by. (sent_as n x (balancer None) sent by).rst;
      one_end = λ server port server' port' s t a b. one_end w calls inv live laws flow server port server' port' s t a b;
      client = λ server port s e at here. client_has server port s e at (received_of e here);
      alone = λ e here none. elim (received_of e here) [
        | inl clear ↦ clear
        | inr from ↦ absurd (none from.server from.port from.end from.is)
      ];
      server = λ server port s at.
          let e = inv.server server port s at.here in
          (e.honest k client is (same_Some e.flow flow (sym e.made ∙ at.made))).1;
      one_server = λ server port server' port' n m x y a b. one_port w calls inv live laws flow server port server' port' (bound_is server port n x a) (bound_is server' port' m y b);
      admitted = λ server port n x b. owned_admits server port (bound_is server port n x b);
    }

    -- ---- acknowledgments
    syn_kind : (r : Record) → DecidesOf w.setup calls flow (key.Syn flow) r → is_syn r ≡ true
    syn_kind r d = (decided_fit w.setup (shard_of flow w.setup.shards) inv.good (calls (shard_of flow w.setup.shards)) (shard_is w calls inv flow).are (key.Syn flow) r d).0

    open_kind : (r : Record) → DecidesOf w.setup calls flow (key.Open flow) r → is_open r ≡ true
    open_kind r d = (decided_fit w.setup (shard_of flow w.setup.shards) inv.good (calls (shard_of flow w.setup.shards)) (shard_is w calls inv flow).are (key.Open flow) r d).0

    syn_says : (r : Record) → DecidesOf w.setup calls flow (key.Syn flow) r → syn_number r ≡ client.isn.0
    syn_says r d = proposed_of w calls inv (shard_of flow w.setup.shards) (home_below w calls inv flow) (key.Syn flow) r d k client is refl

    abbrev ClientBacked : ℕ → Posted → Type 0
    ClientBacked n x = AcksStored w flow (key.Syn flow) is_syn syn_number client.isn x
        ⊎ ((server : ℕ) × (port : ℕ) × (s : ServerEnd) × IsEndFor w flow server port s × PeerAcked w (Server server port) client.isn.0 n x)

    peer_acked : (at : At) (first : ℕ) (n position : ℕ) (x : Posted) → Passes w.setup w.clients w at n x → x.acknowledged ≡ Some position → x.segment.head.ack.0 ≡ number_of first position → PeerAcked w at first n x
    peer_acked at first n position x p acked number = record {
      index = p.index;
      earlier = p.earlier;
      segment = p.segment;
      sent = p.sent;
      by = p.by;
      position = position;
      acknowledges = p.acknowledged ∙ acked;
      acks = number;
    }

    client_backed : (n : ℕ) (x : Posted) → has_rst x.segment.head.flags ≡ false → SaysToClient w.setup w.clients w calls k client n x → ClientBacked n x
    client_backed n x clear (client_resets r) = rst_is x r clear
    client_backed n x clear (client_opens r d a b c e f acks) =
        inl (record { r = r; stored = word_is w calls inv live laws flow (key.Syn flow) r d; is_kind = syn_kind r d; numbered = syn_says r d; acks = acks ∙ ap (λ m. number_of m 1) (syn_says r d) })
    client_backed n x clear (client_shows server port s o at part acks passes) =
        inr (server, port, s, at, peer_acked (Server server port) client.isn.0 n acks.position x passes acks.acknowledges (ap (λ (m : Num). m.0) acks.number))

    server_backed : (server port : ℕ) (s : ServerEnd) (n : ℕ) (x : Posted) → IsEndFor w flow server port s → has_rst x.segment.head.flags ≡ false → has_ack x.segment.head.flags ≡ true
        → SaysToServer w.setup w.clients w calls k client server port n x → AcksStored w flow (key.Open flow) is_open open_number s.state.first x ⊎ PeerAcked w (Client k) s.state.first.0 n x
    server_backed server port s n x at clear ack (server_resets r) = rst_is x r clear
    server_backed server port s n x at clear ack (server_opens a b c d none) = absurd (let e = none.no_ack in cc)
    server_backed server port s n x at clear ack (server_shows r t d here number part acks backed) = elim backed [
      | inl stored ↦
          let same : t ≡ s = same_Some t s (sym here ∙ at.here) in
          let numbered : open_number r ≡ s.state.first.0 = number ∙ ap (λ (e : ServerEnd). e.state.first.0) same in
          inl (record { r = r; stored = word_is w calls inv live laws flow (key.Open flow) r d; is_kind = open_kind r d; numbered = numbered; acks = stored ∙ ap (λ m. number_of m 1) numbered })
      | inr passes ↦ inr (
          let same : t ≡ s = same_Some t s (sym here ∙ at.here) in
          peer_acked (Client k) s.state.first.0 n acks.position x passes acks.acknowledges
          (ap (λ (m : Num). m.0) acks.number ∙ ap (λ (e : ServerEnd). number_of e.state.first.0 acks.position) same))
    ]

    to_client_by : (n : ℕ) (x : Posted) → Acknowledges w (Client k) n x → (by : Sender) → x.by ≡ by → ClientBacked n x
    to_client_by n x a (end at) by = absurd (subst IsOut by (to_end w (Client k) n x a.sent a.goes).out)
    to_client_by n x a stranger by = absurd (subst IsOut by (to_end w (Client k) n x a.sent a.goes).out)
    to_client_by n x a (balancer None) by = rst_is x (sent_as n x (balancer None) a.sent by) a.no_rst
    to_client_by n x a (balancer (Some f)) by =
        let goes = (to_end w (Client k) n x a.sent a.goes).goes in
        let sent = sent_as n x (balancer (Some f)) a.sent by in
        elim sent.way [
          | inl t ↦ not_both k client t.server t.port x is t.known goes t.goes
          | inr t ↦ client_backed n x a.no_rst (t.honest k client is (client_flow k client f n x is goes sent.known t))
        ]

    to_server_by : (server port : ℕ) (s : ServerEnd) (n : ℕ) (x : Posted) → IsEndFor w flow server port s → Acknowledges w (Server server port) n x → (by : Sender) → x.by ≡ by
        → AcksStored w flow (key.Open flow) is_open open_number s.state.first x ⊎ PeerAcked w (Client k) s.state.first.0 n x
    to_server_by server port s n x at a (end e) by = absurd (subst IsOut by (to_end w (Server server port) n x a.sent a.goes).out)
    to_server_by server port s n x at a stranger by = absurd (subst IsOut by (to_end w (Server server port) n x a.sent a.goes).out)
    to_server_by server port s n x at a (balancer None) by = rst_is x (sent_as n x (balancer None) a.sent by) a.no_rst
    to_server_by server port s n x at a (balancer (Some f)) by =
        let goes = (to_end w (Server server port) n x a.sent a.goes).goes in
        let sent = sent_as n x (balancer (Some f)) a.sent by in
        let known = (inv.server server port s at.here).known in
        elim sent.way [
          | inl t ↦
              let same = same_way t.server t.port server port x t.known known t.goes goes in
              let owns : Owns w.setup w.clients calls f server port =
              subst (λ p. Owns w.setup w.clients calls f server p) same.1 (subst (λ v. Owns w.setup w.clients calls f v t.port) same.0 t.owns) in
              let flows : f ≡ flow = one_owner w calls inv live laws f flow server port owns (end_owns w calls inv live laws flow server port s at) in
              let says : SaysToServer w.setup w.clients w calls k client server port n x =
              subst (λ p. SaysToServer w.setup w.clients w calls k client server p n x) same.1
              (subst (λ v. SaysToServer w.setup w.clients w calls k client v t.port n x) same.0 (t.honest k client is flows)) in
              server_backed server port s n x at a.no_rst a.ack says
          | inr t ↦ absurd (none-some server (sym sent.known.no_server
              ∙ ap (λ a. place_of w.setup.servers a f.port) (sym t.target)
              ∙ ap (λ p. place_of w.setup.servers x.segment.target p) (sym t.target_port)
              ∙ ap (λ a. place_of w.setup.servers a x.segment.head.target_port) goes.target
              ∙ ap (λ p. place_of w.setup.servers (server_of w.setup server).address p) goes.target_port
              ∙ place_is w.setup inv.good server known))
        ]

    pub acks_backed : AcksAreBackedFor w k flow client.isn
    acks_backed = record {
      to_client = λ n x a. to_client_by n x a x.by refl;
      to_server = λ server port s n x at a. to_server_by server port s n x at a x.by refl;
    }
