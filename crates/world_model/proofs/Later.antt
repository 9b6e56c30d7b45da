-- The world goes on: what holds of what was there still holds.
use Rattle.std.proofs.Common.{◌≡◌, ℕ, Option, Some, None, List, refl, sym, ◌∙◌, ap, subst}
use Rattle.std.specs.Prelude.{slice_get, option_and_then}
use Rattle.std.proofs.lemmas.Option.{none-some}
use Rattle.flow_id.specs.declared.key.Flow.{Flow}
use Rattle.flow_id.specs.declared.key.Key.{Key}
use Rattle.flow_record.specs.declared.record.Record.{Record}
use Rattle.rule_table.specs.Setups.{SetupView}
use Rattle.tcp_end.specs.EndState.{EndState}
use Rattle.bench.specs.Histories.{Decides}
use Rattle.world_model.specs.declared.at.At.{At}
use Rattle.world_model.specs.declared.at.At.TheVariants.{Client, Server}
use Rattle.world_model.specs.declared.client.ClientSpec.{ClientSpec}
use Rattle.world_model.specs.Flows.{flow_sent, flow_made}
use Rattle.world_model.specs.Clients.{flow_of}
use Rattle.world_model.specs.Posted.{Posted, Sender, end, balancer, stranger}
use Rattle.world_model.specs.Streams.{written_by, closed_by, IsEndFor}
use Rattle.world_model.specs.World.{World, ServerEnd, end_of_server, end_of_client}
use Rattle.world_model.proofs.Growth.{either, StreamGrows, LegGrows, carries_grow, part_grows, acks_grow, has_grows}
use Rattle.world_model.proofs.Invariant.{Calls, log_at, IsOpened, client_leg, server_leg, to_server_leg, to_client_leg, ClientSent, EndSent, ServerSent, Passes, SaysToServer, SaysToClient, Owns, ToServer, ToClient, IsSentBy, ReceivedFrom, OpensEnd}
use Rattle.world_model.proofs.Invariant.SaysToServer.{resets as server_resets, opens as server_opens, shows as server_shows}
use Rattle.world_model.proofs.Invariant.SaysToClient.{resets as client_resets, opens as client_opens, shows as client_shows}

-- the same end of a server, later
pub record EndGrows (w : World) (server port : ℕ) (s : ServerEnd) : Type 0 where
  pub end : ServerEnd
  pub here : end_of_server w server port ≡ Some end
  pub maker : end.maker ≡ s.maker
  pub first : end.state.first ≡ s.state.first
  pub stream : StreamGrows s.state.written s.state.closed end.state.written end.state.closed

pub record Later (setup : SetupView) (w : World) (calls : Calls) (w' : World) (calls' : Calls) : Type 0 where
  pub decided : (g : ℕ) (k : Key) (r : Record) → Decides (log_at setup calls g) k r → Decides (log_at setup calls' g) k r
  pub sent : (n : ℕ) (x : Posted) → slice_get w.sent n ≡ Some x → slice_get w'.sent n ≡ Some x
  pub client : (k : ℕ) → StreamGrows (written_by (end_of_client w k)) (closed_by (end_of_client w k)) (written_by (end_of_client w' k)) (closed_by (end_of_client w' k))
  pub server : (server port : ℕ) (s : ServerEnd) → end_of_server w server port ≡ Some s → EndGrows w' server port s

module _ (setup : SetupView) (clients : List ClientSpec) (w : World) (calls : Calls) (w' : World) (calls' : Calls) (later : Later setup w calls w' calls') where
  pub opened_later : (flow : Flow) → IsOpened setup calls flow → IsOpened setup calls' flow
  opened_later flow (r, d) = (r, later.decided _ _ _ d)

  pub owns_later : (flow : Flow) (server port : ℕ) → Owns setup clients calls flow server port → Owns setup clients calls' flow server port
  owns_later flow server port o = record { owner = o.owner; decided = later.decided _ _ _ o.decided; owned = o.owned }

  -- ---- ends of servers
  made_by : (f : Flow) (o : Option Posted) (n : ℕ) → slice_get w.sent n ≡ o → option_and_then (λ x. flow_sent x.by) o ≡ Some f → option_and_then (λ x. flow_sent x.by) (slice_get w'.sent n) ≡ Some f
  made_by f None n is made = absurd (none-some f made)
  made_by f (Some x) n is made = ap (λ o. option_and_then (λ (y : Posted). flow_sent y.by) o) (later.sent n x is) ∙ made

  pub made_later : (s t : ServerEnd) (flow : Flow) → t.maker ≡ s.maker → flow_made w s ≡ Some flow → flow_made w' t ≡ Some flow
  made_later s t flow maker made = subst (λ n. option_and_then (λ (y : Posted). flow_sent y.by) (slice_get w'.sent n) ≡ Some flow) (sym maker) (made_by flow (slice_get w.sent s.maker) s.maker refl made)

  pub end_for_later : (flow : Flow) (server port : ℕ) (s : ServerEnd) (g : EndGrows w' server port s) → IsEndFor w flow server port s → IsEndFor w' flow server port g.end
  end_for_later flow server port s g is = record { here = g.here; made = made_later s g.end flow g.maker is.made }

  pub received_later : (flow : Flow) (e : EndState) → ReceivedFrom setup clients w flow e → ReceivedFrom setup clients w' flow e
  received_later flow e r =
      let g = later.server r.server r.port r.end r.is.here in
      record {
        server = r.server;
        port = r.port;
        end = g.end;
        is = end_for_later flow r.server r.port r.end g r.is;
        has = has_grows r.end.state.written g.end.state.written r.end.state.closed g.end.state.closed g.stream e r.has;
      }

  pub opens_end_later : (r : Record) → OpensEnd setup clients w r → OpensEnd setup clients w' r
  opens_end_later r o =
      let g = later.server _ _ o.end o.here in
      record { end = g.end; here = g.here; number = o.number ∙ ap (λ (n : Rattle.seq_space.specs.declared.Num.Num). n.0) (sym g.first) }

  -- ---- legs
  client_leg_grows : (k : ℕ) (client : ClientSpec) → LegGrows (client_leg setup clients w k client) (client_leg setup clients w' k client)
  client_leg_grows k client = record { first = refl; back = refl; stream = later.client k }

  to_server_leg_grows : (k : ℕ) (client : ClientSpec) (s t : ServerEnd) → t.state.first ≡ s.state.first → LegGrows (to_server_leg setup clients w k client s) (to_server_leg setup clients w' k client t)
  to_server_leg_grows k client s t first = record { first = refl; back = first; stream = later.client k }

  server_leg_grows : (client : ClientSpec) (server port : ℕ) (s : ServerEnd) (g : EndGrows w' server port s) → LegGrows (server_leg setup clients client s) (server_leg setup clients client g.end)
  server_leg_grows client server port s g = record { first = g.first; back = refl; stream = g.stream }

  to_client_leg_grows : (client : ClientSpec) (server port : ℕ) (s : ServerEnd) (g : EndGrows w' server port s) → LegGrows (to_client_leg setup clients client s) (to_client_leg setup clients client g.end)
  to_client_leg_grows client server port s g = record { first = refl; back = refl; stream = g.stream }

  -- ---- what was sent
  pub client_sent_later : (k n : ℕ) (x : Posted) → ClientSent setup clients w calls k n x → ClientSent setup clients w' calls' k n x
  client_sent_later k n x c = record {
    client = c.client;
    is = c.is;
    goes = c.goes;
    carries = carries_grow (client_leg setup clients w k c.client) (client_leg setup clients w' k c.client) x (client_leg_grows k c.client) c.carries;
    near = either (opened_later (flow_of setup c.client)) (λ h. h) c.near;
  }

  end_sent_later : (server port n : ℕ) (x : Posted) → EndSent setup clients w server port n x → EndSent setup clients w' server port n x
  end_sent_later server port n x e =
      let g = later.server server port e.end e.here in
      record {
        end = g.end;
        here = g.here;
        syn = λ s. e.syn s ∙ sym g.first;
        flow = e.flow;
        made = made_later e.end g.end e.flow g.maker e.made;
        honest = λ k client is same.
            carries_grow (server_leg setup clients client e.end) (server_leg setup clients client g.end) x (server_leg_grows client server port e.end g) (e.honest k client is same);
      }

  server_sent_later : (server port n : ℕ) (x : Posted) → ServerSent setup clients w server port n x → ServerSent setup clients w' server port n x
  server_sent_later server port n x s = record {
    known = s.known;
    goes = s.goes;
    what = either (λ r. r) (end_sent_later server port n x) s.what;
  }

  passes_later : (at : At) (n : ℕ) (x : Posted) → Passes setup clients w at n x → Passes setup clients w' at n x
  passes_later at n x p = record { index = p.index; earlier = p.earlier; segment = p.segment; sent = later.sent p.index p.segment p.sent; by = p.by; acknowledged = p.acknowledged }

  says_to_server_later : (k : ℕ) (client : ClientSpec) (server port n : ℕ) (x : Posted)
      → SaysToServer setup clients w calls k client server port n x → SaysToServer setup clients w' calls' k client server port n x
  says_to_server_later k client server port n x (server_resets r) = server_resets r
  says_to_server_later k client server port n x (server_opens a b c d e) = server_opens a b c d e
  says_to_server_later k client server port n x (server_shows r s d here number part acks backed) =
      let g = later.server server port s here in
      let grows = to_server_leg_grows k client s g.end g.first in
      server_shows r g.end (later.decided _ _ _ d) g.here (number ∙ ap (λ (n : Rattle.seq_space.specs.declared.Num.Num). n.0) (sym g.first))
      (part_grows (to_server_leg setup clients w k client s) (to_server_leg setup clients w' k client g.end) x grows part)
      (acks_grow (to_server_leg setup clients w k client s) (to_server_leg setup clients w' k client g.end) x grows acks)
      (either (λ b. b) (passes_later (Client k) n x) backed)

  says_to_client_later : (k : ℕ) (client : ClientSpec) (n : ℕ) (x : Posted) → SaysToClient setup clients w calls k client n x → SaysToClient setup clients w' calls' k client n x
  says_to_client_later k client n x (client_resets r) = client_resets r
  says_to_client_later k client n x (client_opens r d a b c e f h) = client_opens r (later.decided _ _ _ d) a b c e f h
  says_to_client_later k client n x (client_shows server port s o is part acks passes) =
      let g = later.server server port s is.here in
      let grows = to_client_leg_grows client server port s g in
      client_shows server port g.end (opened_later (flow_of setup client) o) (end_for_later (flow_of setup client) server port s g is)
      (part_grows (to_client_leg setup clients client s) (to_client_leg setup clients client g.end) x grows part)
      (acks_grow (to_client_leg setup clients client s) (to_client_leg setup clients client g.end) x grows acks)
      (passes_later (Server server port) n x passes)

  to_server_later : (flow : Flow) (n : ℕ) (x : Posted) → ToServer setup clients w calls flow n x → ToServer setup clients w' calls' flow n x
  to_server_later flow n x t = record {
    server = t.server;
    port = t.port;
    known = t.known;
    goes = t.goes;
    owns = owns_later flow t.server t.port t.owns;
    honest = λ k client is same. says_to_server_later k client t.server t.port n x (t.honest k client is same);
  }

  to_client_later : (flow : Flow) (n : ℕ) (x : Posted) → ToClient setup clients w calls flow n x → ToClient setup clients w' calls' flow n x
  to_client_later flow n x t = record {
    source = t.source;
    source_port = t.source_port;
    target = t.target;
    target_port = t.target_port;
    honest = λ k client is same. says_to_client_later k client n x (t.honest k client is same);
  }

  pub sent_later : (n : ℕ) (x : Posted) (by : Sender) → IsSentBy setup clients w calls n x by → IsSentBy setup clients w' calls' n x by
  sent_later n x (end (Client k)) s = client_sent_later k n x s
  sent_later n x (end (Server server port)) s = server_sent_later server port n x s
  sent_later n x (balancer None) s = s
  sent_later n x (balancer (Some flow)) s = record { known = s.known; way = either (to_server_later flow n x) (to_client_later flow n x) s.way }
  sent_later n x stranger s = s
