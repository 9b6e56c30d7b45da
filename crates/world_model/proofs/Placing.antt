-- What the balancer sends at the end of a handling meets the invariant: the segments that go to a server or a client.
use Rattle.std.proofs.Common.{◌≡◌, ℕ, ◌+◌, ◌-◌, ◌≤◌, ◌<◌, true, false, ◌&&◌, Option, Some, None, List, ◌++◌, length, drop, sym, ◌∙◌, ap, subst, arith, inl, inr}
use Rattle.std.specs.Prelude.{slice_get}
use Rattle.std.proofs.lemmas.Bool.{ltb-true, and_parts}
use Rattle.std.proofs.lemmas.List.{take-append-drop}
use Rattle.std.proofs.lemmas.Option.{same_Some}
use Rattle.client_hand.specs.SynAck.{AnswersSyn, forged_of}
use Rattle.flow_id.specs.Ports.{shard_of}
use Rattle.flow_id.specs.declared.key.Flow.{Flow}
use Rattle.flow_id.specs.declared.key.Key.{Key}
use Rattle.flow_id.specs.declared.key.Key.TheVariants as key
use Rattle.flow_record.specs.Records.{is_choice, is_open, syn_number, choice_server, port_owner, open_server, open_port, open_number}
use Rattle.flow_record.specs.declared.record.Record.{Record}
use Rattle.flow_record.specs.declared.record.Record.TheVariants.{Syn, Choice, Port, Open, Fin, Gone}
use Rattle.job_core.specs.Aims.{is_syn, is_reset}
use Rattle.job_core.specs.Jobs.{names_server}
use Rattle.rule_table.specs.Setups.{SetupView}
use Rattle.seq_space.specs.Positions.{number_of}
use Rattle.seq_space.specs.declared.Num.{Num}
use Rattle.server_hand.specs.Opening.{OpensTo, StandsAt}
use Rattle.tcp_end.specs.Streams.{IsPrefix, IsSliceAt}
use Rattle.tcp_segment.specs.Flags.{has_fin, has_syn, has_rst, has_ack}
use Rattle.tcp_segment.specs.declared.segment.Segment.{Segment}
use Rattle.sack_opt.specs.Moves.{moved}
use Rattle.translate.specs.Translation.{GoesToServer}
use Rattle.translate.proofs.Numbers.{keeps_position}
use Rattle.bench.specs.Histories.{Decides}
use Rattle.bench.proofs.Fits.{decided_fit}
use Rattle.world_model.specs.declared.at.At.TheVariants.{Client, Server}
use Rattle.world_model.specs.declared.client.ClientSpec.{ClientSpec}
use Rattle.world_model.specs.Clients.{flow_of, IsClient}
use Rattle.world_model.proofs.Relations.{GoesBack, IsIn}
use Rattle.bench.specs.MoveLaws.{MoveLaws}
use Rattle.world_model.specs.Routes.{route_of}
use Rattle.world_model.specs.Runs.{AllLive}
use Rattle.world_model.specs.Posted.{Posted, end, balancer}
use Rattle.world_model.specs.Streams.{written_by}
use Rattle.job_core.specs.TableLaws.{FromClient}
use Rattle.world_model.specs.World.{World, ServerEnd, end_of_server, end_of_client}
use Rattle.world_model.proofs.Calling.{other_no_syn}
use Rattle.world_model.proofs.Conclude.{sent_as}
use Rattle.world_model.proofs.Growth.{slice_grows}
use Rattle.world_model.proofs.Invariant.{Calls, log_at, DecidesOf, Carries, client_leg, IsFlow, SaysToServer, IsSentBy, Inv}
use Rattle.world_model.proofs.Invariant.Carries.{resets, opens, shows}
use Rattle.world_model.proofs.Invariant.SaysToServer.{resets as server_resets, opens as server_opens, shows as server_shows}
use Rattle.world_model.proofs.Invariant.SaysToClient.{opens as client_opens}
use Rattle.world_model.proofs.Senders.{of_client}
use Rattle.world_model.proofs.Unique.{home_below, shard_is, proposed_of, port_for, opened_owns, opened_end}

-- ---- numbers and records
pub as_num : (n : Num) (m : ℕ) → n.0 ≡ m → n ≡ record { 0 = m }
as_num n m is = ap (λ (x : ℕ). num_of x) is
  where
    num_of : ℕ → Num
    num_of x = record { 0 = x }

choice_known : (setup : SetupView) (r : Record) → is_choice r ≡ true → names_server setup r ≡ true → choice_server r < length setup.servers
choice_known setup (Syn number mss window scale sack) kind names = absurd (cc)
choice_known setup (Choice server rule) kind names = ltb-true server (length setup.servers) names
choice_known setup (Port owner) kind names = absurd (cc)
choice_known setup (Open server port number scale sack) kind names = absurd (cc)
choice_known setup (Fin side number) kind names = absurd (cc)
choice_known setup (Gone by) kind names = absurd (cc)

open_known : (setup : SetupView) (r : Record) → is_open r ≡ true → names_server setup r ≡ true → open_server r < length setup.servers
open_known setup (Syn number mss window scale sack) kind names = absurd (cc)
open_known setup (Choice server rule) kind names = absurd (cc)
open_known setup (Port owner) kind names = absurd (cc)
open_known setup (Open server port number scale sack) kind names = ltb-true server (length setup.servers) names
open_known setup (Fin side number) kind names = absurd (cc)
open_known setup (Gone by) kind names = absurd (cc)

-- a reset of the connection has RST
pub reset_has : (flags : ℕ) → is_reset flags ≡ true → has_rst flags ≡ true
reset_has flags is = (and_parts (has_rst flags) _ (and_parts (has_rst flags && _) _ is).0).0

-- what is part of a prefix of a stream is part of the stream
pub slice_of_prefix : (stream held body : List ℕ) (o : ℕ) → IsPrefix held stream → IsSliceAt held o body → IsSliceAt stream o body
slice_of_prefix stream held body o prefix slice =
    let whole : stream ≡ held ++ drop (length held) stream = sym (take-append-drop (length held) stream) ∙ ap (λ (x : List ℕ). x ++ drop (length held) stream) (sym prefix) in
    subst (λ x. IsSliceAt x o body) (sym whole) (slice_grows held (drop (length held) stream) o body slice)

module _ (w : World) (calls : Calls) (inv : Inv w calls) (live : AllLive w) (laws : (g : ℕ) → MoveLaws w.setup g) where
  -- what is decided at the flow's shard
  pub decided_at : (g : ℕ) (flow : Flow) (k : Key) (r : Record) → shard_of flow w.setup.shards ≡ g → Decides (log_at w.setup calls g) k r → DecidesOf w.setup calls flow k r
  decided_at g flow k r home d = subst (λ n. Decides (log_at w.setup calls n) k r) (sym home) d

  pub syn_is : (flow : Flow) (r : Record) → DecidesOf w.setup calls flow (key.Syn flow) r → (k : ℕ) (client : ClientSpec) → IsClient w.clients k client → flow ≡ flow_of w.setup client → syn_number r ≡ client.isn.0
  syn_is flow r d = proposed_of w calls inv (shard_of flow w.setup.shards) (home_below w calls inv flow) (key.Syn flow) r d

  fit : (flow : Flow) (k : Key) (r : Record) → DecidesOf w.setup calls flow k r → Rattle.bench.specs.JobLaws.IsRecordOf w.setup k r
  fit flow k r d = decided_fit w.setup (shard_of flow w.setup.shards) inv.good (calls (shard_of flow w.setup.shards)) (shard_is w calls inv flow).are k r d

  pub choice_below : (flow : Flow) (r : Record) → DecidesOf w.setup calls flow (key.Choice flow) r → choice_server r < length w.setup.servers
  choice_below flow r d = let f = fit flow (key.Choice flow) r d in choice_known w.setup r f.0 f.1

  pub open_below : (flow : Flow) (r : Record) → DecidesOf w.setup calls flow (key.Open flow) r → open_server r < length w.setup.servers
  open_below flow r d = let f = fit flow (key.Open flow) r d in open_known w.setup r f.0 f.1

  pub owner_home : (g : ℕ) → g < w.setup.shards → (server port : ℕ) (owner : Record) → Decides (log_at w.setup calls g) (key.Port w.setup.service.number server port) owner → shard_of (port_owner owner) w.setup.shards ≡ g
  owner_home g below server port owner d = (port_for w calls inv g below w.setup.service.number server port owner d).on_shard

  -- ---- positions
  -- a segment that will be sent next, or later
  abbrev pub OutOk : Option Flow → Posted → Type 0
  OutOk flow z = (n : ℕ) → length w.sent ≤ n → IsSentBy w.setup w.clients w calls n z (balancer flow)

  -- ---- the answer to a client's SYN
  pub answers : (flow : Flow) (syn : Record) (z : Posted) → IsFlow w.setup w.clients flow → DecidesOf w.setup calls flow (key.Syn flow) syn → AnswersSyn w.setup flow syn z.segment
      → ((k : ℕ) (client : ClientSpec) → IsClient w.clients k client → flow ≡ flow_of w.setup client → z.position ≡ Some 0)
      → OutOk (Some flow) z
  answers flow syn z known d s at n later = record {
    known = known;
    way = inr (record {
      source = s.source;
      source_port = s.source_port;
      target = s.target;
      target_port = s.target_port;
      honest = λ k client is its.
          client_opens syn (subst (λ f. DecidesOf w.setup calls f (key.Syn f) syn) its d)
          (as_num z.segment.head.seq (forged_of w.setup (flow_of w.setup client)) (s.seq ∙ ap (λ f. forged_of w.setup f) its))
          (at k client is its)
          (ap has_syn s.flags) (ap has_ack s.flags) (ap has_rst s.flags) s.ack;
    });
  }

  -- ---- the SYN to a server
  pub asks : (flow : Flow) (server port : ℕ) (syn owner : Record) (z : Posted) → IsFlow w.setup w.clients flow → server < length w.setup.servers
      → DecidesOf w.setup calls flow (key.Syn flow) syn → DecidesOf w.setup calls flow (key.Port w.setup.service.number server port) owner → port_owner owner ≡ flow
      → OpensTo w.setup syn server port z.segment
      → ((k : ℕ) (client : ClientSpec) → IsClient w.clients k client → flow ≡ flow_of w.setup client → (z.position ≡ Some 0) × (z.acknowledged ≡ None))
      → OutOk (Some flow) z
  asks flow server port syn owner z known below d e owned s at n later = record {
    known = known;
    way = inl (record {
      server = server;
      port = port;
      known = below;
      goes = record { source = s.source; source_port = s.source_port; target = s.target; target_port = s.target_port };
      owns = record { owner = owner; decided = e; owned = owned };
      honest = λ k client is its.
          server_opens
          (as_num z.segment.head.seq client.isn.0 (s.seq ∙ syn_is flow syn d k client is its))
          (at k client is its).0 (ap has_syn s.flags) (ap has_rst s.flags)
          (record { nothing = (at k client is its).1; no_ack = ap has_ack s.flags });
    });
  }

  -- ---- what goes to the server of an open connection
  pub to_opened : (flow : Flow) (r : Record) (z : Posted) → IsFlow w.setup w.clients flow → DecidesOf w.setup calls flow (key.Open flow) r
      → GoesBack (route_of w.setup w.clients (Server (open_server r) (open_port r))) z.segment
      → ((n : ℕ) → length w.sent ≤ n → (k : ℕ) (client : ClientSpec) → IsClient w.clients k client → flow ≡ flow_of w.setup client → (s : ServerEnd) → end_of_server w (open_server r) (open_port r) ≡ Some s → open_number r ≡ s.state.first.0
      → SaysToServer w.setup w.clients w calls k client (open_server r) (open_port r) n z)
      → OutOk (Some flow) z
  to_opened flow r z known d goes says n later = record {
    known = known;
    way = inl (record {
      server = open_server r;
      port = open_port r;
      known = open_below flow r d;
      goes = goes;
      owns = opened_owns w calls inv live laws flow r d;
      honest = λ k client is its. let e = opened_end w calls inv live laws flow r d in says n later k client is its e.end e.here e.number;
    });
  }

  -- the acknowledgment and the pieces
  pub stands : (flow : Flow) (syn r : Record) (held : List ℕ) (o : ℕ) (z : Posted) → IsFlow w.setup w.clients flow
      → DecidesOf w.setup calls flow (key.Syn flow) syn → DecidesOf w.setup calls flow (key.Open flow) r
      → ((k : ℕ) (client : ClientSpec) → IsClient w.clients k client → flow ≡ flow_of w.setup client → IsPrefix held (written_by (end_of_client w k)))
      → StandsAt w.setup syn r (1 + o) z.segment → IsSliceAt held o z.segment.body
      → has_syn z.segment.head.flags ≡ false → has_rst z.segment.head.flags ≡ false → has_fin z.segment.head.flags ≡ false → has_ack z.segment.head.flags ≡ true
      → ((k : ℕ) (client : ClientSpec) → IsClient w.clients k client → flow ≡ flow_of w.setup client → (z.position ≡ Some (1 + o)) × (z.acknowledged ≡ Some 1))
      → OutOk (Some flow) z
  stands flow syn r held o z known d e prefix s slice clear_syn clear_rst clear_fin ack at =
      to_opened flow r z known e (record { source = s.source; source_port = s.source_port; target = s.target; target_port = s.target_port })
      (λ n later k client is its t here number.
      server_shows r t (subst (λ f. DecidesOf w.setup calls f (key.Open f) r) its e) here number
      (record {
        at = 1 + o;
        position = (at k client is its).0;
        shows = record {
          behind_syn = omega arith;
          numbered = as_num z.segment.head.seq (number_of client.isn.0 (1 + o)) (s.seq ∙ ap (λ c. number_of c (1 + o)) (syn_is flow syn d k client is its));
          bytes = subst (λ x. IsSliceAt (written_by (end_of_client w k)) x z.segment.body) (omega arith) (slice_of_prefix (written_by (end_of_client w k)) held z.segment.body o (prefix k client is its) slice);
          fin = λ fin. absurd (cc);
        };
        no_syn = clear_syn;
        no_rst = clear_rst;
      })
      (record {
        position = 1;
        acknowledges = (at k client is its).1;
        ack = ack;
        number = as_num z.segment.head.ack (number_of t.state.first.0 1) (s.ack ∙ ap (λ x. number_of x 1) number);
      })
      (inl s.ack))

  -- ---- what a client sent, passed on
  pub passes_on : (flow : Flow) (syn r : Record) (seg : Segment) (m : ℕ) (y z : Posted) → IsFlow w.setup w.clients flow → DecidesOf w.setup calls flow (key.Open flow) r
      → slice_get w.sent m ≡ Some y → y.segment ≡ seg → IsIn y.by → FromClient w.setup y.segment.source y.segment.target y.segment.head flow → is_syn seg.head.flags ≡ false
      → GoesToServer w.setup seg (forged_of w.setup flow) syn r z.segment
      → ((k : ℕ) (client : ClientSpec) → IsClient w.clients k client → flow ≡ flow_of w.setup client → (z.position ≡ y.position) × (z.acknowledged ≡ y.acknowledged))
      → m < length w.sent
      → OutOk (Some flow) z
  passes_on flow syn r seg m y z known d sent same in_ from clear g at before =
      to_opened flow r z known d (record { source = g.source; source_port = g.source_port; target = g.target; target_port = g.target_port })
      (λ n later k client is its t here number.
      let sender = of_client w calls inv m y sent in_ flow from k client is its in
      let c = sent_as w calls inv m y (end (Client k)) sent sender in
      let own : c.client ≡ client = same_Some c.client client (sym c.is ∙ is) in
      says n later k client is its t here number sender (subst (λ (x : ClientSpec). Carries (client_leg w.setup w.clients w k x) y) own c.carries))
    where
      says : (n : ℕ) → length w.sent ≤ n → (k : ℕ) (client : ClientSpec) → IsClient w.clients k client → flow ≡ flow_of w.setup client → (t : ServerEnd) → end_of_server w (open_server r) (open_port r) ≡ Some t → open_number r ≡ t.state.first.0
          → y.by ≡ end (Client k) → Carries (client_leg w.setup w.clients w k client) y → SaysToServer w.setup w.clients w calls k client (open_server r) (open_port r) n z
      says n later k client is its t here number sender (resets x) =
          server_resets (record {
            nowhere = (at k client is its).0 ∙ x.nowhere;
            nothing = (at k client is its).1 ∙ x.nothing;
            rst = g.flags.rst ∙ ap (λ (s : Segment). has_rst s.head.flags) (sym same) ∙ x.rst;
            no_syn = g.flags.syn ∙ ap (λ (s : Segment). has_syn s.head.flags) (sym same) ∙ x.no_syn;
          })
      says n later k client is its t here number sender (opens s a) =
          let clear_y : is_syn y.segment.head.flags ≡ false = ap (λ (s : Segment). is_syn s.head.flags) same ∙ clear in
          elim from.kind [
            | inl syn ↦ absurd (cc)
            | inr rest ↦ elim rest [
              | inl reset ↦ absurd (let h = reset_has y.segment.head.flags reset in let none = s.no_rst in cc)
              | inr other ↦ absurd (let h = other_no_syn y.segment.head.flags other in let set = s.syn in cc)
            ]
          ]
      says n later k client is its t here number sender (shows p a) =
          server_shows r t (subst (λ f. DecidesOf w.setup calls f (key.Open f) r) its d) here number
          (record {
            at = p.at;
            position = (at k client is its).0 ∙ p.position;
            shows = record {
              behind_syn = p.shows.behind_syn;
              numbered = as_num z.segment.head.seq (number_of client.isn.0 p.at) (g.seq ∙ ap (λ (s : Segment). s.head.seq.0) (sym same) ∙ ap (λ (x : Num). x.0) p.shows.numbered);
              bytes = subst (λ x. IsSliceAt (written_by (end_of_client w k)) (p.at - 1) x) (ap (λ (s : Segment). s.body) same ∙ sym g.body) p.shows.bytes;
              fin = λ fin.
                  let f = p.shows.fin (ap (λ (s : Segment). has_fin s.head.flags) same ∙ sym g.flags.fin ∙ fin) in
                  (f.0, ap (λ (x : List ℕ). p.at - 1 + length x) (g.body ∙ ap (λ (s : Segment). s.body) (sym same)) ∙ f.1);
            };
            no_syn = g.flags.syn ∙ ap (λ (s : Segment). has_syn s.head.flags) (sym same) ∙ p.no_syn;
            no_rst = g.flags.rst ∙ ap (λ (s : Segment). has_rst s.head.flags) (sym same) ∙ p.no_rst;
          })
          (record {
            position = a.position;
            acknowledges = (at k client is its).1 ∙ a.acknowledges;
            ack = g.flags.ack ∙ ap (λ (s : Segment). has_ack s.head.flags) (sym same) ∙ a.ack;
            number = as_num z.segment.head.ack (number_of t.state.first.0 a.position)
                (g.ack (ap (λ (s : Segment). has_ack s.head.flags) (sym same) ∙ a.ack)
                ∙ ap (λ x. moved (forged_of w.setup flow) (open_number r) x) (ap (λ (s : Segment). s.head.ack.0) (sym same) ∙ ap (λ (x : Num). x.0) a.number ∙ ap (λ f. number_of (forged_of w.setup f) a.position) (sym its))
                ∙ keeps_position (forged_of w.setup flow) (open_number r) a.position
                ∙ ap (λ x. number_of x a.position) number);
          })
          (inr (record { index = m; earlier = omega arith; segment = y; sent = sent; by = sender; acknowledged = sym (at k client is its).1 }))
