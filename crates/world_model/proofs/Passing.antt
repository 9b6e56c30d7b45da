-- What the balancer passes on to a client, and the resets that it sends to one.
use Rattle.std.proofs.Common.{◌≡◌, ℕ, ◌+◌, ◌-◌, ◌≤◌, ◌<◌, false, Some, None, List, length, sym, ◌∙◌, ap, subst, arith, inl, inr}
use Rattle.std.specs.Prelude.{slice_get}
use Rattle.std.proofs.lemmas.Option.{same_Some}
use Rattle.client_hand.specs.SynAck.{forged_of}
use Rattle.flow_id.specs.declared.key.Flow.{Flow}
use Rattle.flow_id.specs.declared.key.Key.TheVariants as key
use Rattle.flow_record.specs.Records.{open_server, open_port, open_number}
use Rattle.flow_record.specs.declared.record.Record.{Record}
use Rattle.job_core.specs.Aims.{is_syn_ack}
use Rattle.seq_space.specs.Positions.{number_of}
use Rattle.seq_space.specs.declared.Num.{Num}
use Rattle.tcp_end.specs.Streams.{IsSliceAt}
use Rattle.tcp_segment.specs.Flags.{has_fin, has_syn, has_rst, has_ack}
use Rattle.tcp_segment.specs.declared.segment.Segment.{Segment}
use Rattle.sack_opt.specs.Moves.{moved}
use Rattle.translate.specs.Translation.{GoesToClient}
use Rattle.translate.proofs.Numbers.{keeps_position}
use Rattle.world_model.specs.declared.at.At.TheVariants.{Server}
use Rattle.world_model.specs.declared.client.ClientSpec.{ClientSpec}
use Rattle.world_model.specs.Clients.{flow_of, IsClient}
use Rattle.world_model.proofs.Relations.{IsIn}
use Rattle.bench.specs.MoveLaws.{MoveLaws}
use Rattle.world_model.specs.Runs.{AllLive}
use Rattle.world_model.specs.Posted.{Posted, end}
use Rattle.world_model.specs.Streams.{IsEndFor}
use Rattle.job_core.specs.TableLaws.{FromServer}
use Rattle.world_model.specs.World.{World, ServerEnd, end_of_server}
use Rattle.world_model.proofs.Calling.{other_no_syn}
use Rattle.world_model.proofs.Conclude.{sent_as}
use Rattle.world_model.proofs.Invariant.{Calls, DecidesOf, IsOpened, IsReset, Carries, server_leg, IsFlow, SaysToClient, Owns, ServerSent, Inv}
use Rattle.world_model.proofs.Invariant.Carries.{resets, opens, shows}
use Rattle.world_model.proofs.Invariant.SaysToClient.{resets as client_resets, shows as client_shows}
use Rattle.world_model.proofs.Placing.{as_num, reset_has, OutOk}
use Rattle.world_model.proofs.Senders.{of_server}
use Rattle.world_model.proofs.Unique.{one_port, opened_owns, opened_end, end_for}

module _ (w : World) (calls : Calls) (inv : Inv w calls) (live : AllLive w) (laws : (g : ℕ) → MoveLaws w.setup g) where
  -- a reset that stands nowhere
  pub reset_out : (flow : Flow) (z : Posted) → IsFlow w.setup w.clients flow → z.segment.source ≡ w.setup.service.address → z.segment.head.source_port ≡ w.setup.service.port
      → z.segment.target ≡ flow.address → z.segment.head.target_port ≡ flow.port → z.segment.head.flags ≡ 4 → z.position ≡ None → z.acknowledged ≡ None
      → OutOk w calls inv live laws (Some flow) z
  reset_out flow z known source source_port target target_port flags nowhere nothing n later = record {
    known = known;
    way = inr (record {
      source = source;
      source_port = source_port;
      target = target;
      target_port = target_port;
      honest = λ k client is its. client_resets (record { nowhere = nowhere; nothing = nothing; rst = ap has_rst flags; no_syn = ap has_syn flags });
    });
  }

  -- what a server sent, passed on
  module _ (flow : Flow) (server port : ℕ) (syn r : Record) (seg : Segment) (m : ℕ) (y z : Posted) (known : IsFlow w.setup w.clients flow) (owns : Owns w.setup w.clients calls flow server port)
      (d : DecidesOf w.setup calls flow (key.Open flow) r) (sent : slice_get w.sent m ≡ Some y) (same : y.segment ≡ seg) (in_ : IsIn y.by)
      (from : FromServer w.setup y.segment.source y.segment.target y.segment.head server port) (clear : is_syn_ack seg.head.flags ≡ false)
      (g : GoesToClient w.setup seg (forged_of w.setup flow) syn r flow z.segment)
      (at : (k : ℕ) (client : ClientSpec) → IsClient w.clients k client → flow ≡ flow_of w.setup client → (z.position ≡ y.position) × (z.acknowledged ≡ y.acknowledged))
      (before : m < length w.sent) where
    sender : y.by ≡ end (Server server port)
    sender = of_server w calls inv m y sent in_ server port from

    -- the Open's number is the first of this end's
    number_is : (t : ServerEnd) → end_of_server w server port ≡ Some t → open_number r ≡ t.state.first.0
    number_is t here =
        let e = opened_end w calls inv live laws flow r d in
        let one = one_port w calls inv live laws flow (open_server r) (open_port r) server port (opened_owns w calls inv live laws flow r d) owns in
        let there : end_of_server w server port ≡ Some e.end = subst (λ p. end_of_server w server p ≡ Some e.end) one.1 (subst (λ v. end_of_server w v (open_port r) ≡ Some e.end) one.0 e.here) in
        e.number ∙ ap (λ (x : ServerEnd). x.state.first.0) (same_Some e.end t (sym there ∙ here))

    is_reset_too : IsReset y → (k : ℕ) (client : ClientSpec) → IsClient w.clients k client → flow ≡ flow_of w.setup client → IsReset z
    is_reset_too x k client is its = record {
      nowhere = (at k client is its).0 ∙ x.nowhere;
      nothing = (at k client is its).1 ∙ x.nothing;
      rst = g.flags.rst ∙ ap (λ (s : Segment). has_rst s.head.flags) (sym same) ∙ x.rst;
      no_syn = g.flags.syn ∙ ap (λ (s : Segment). has_syn s.head.flags) (sym same) ∙ x.no_syn;
    }

    says : (n : ℕ) → length w.sent ≤ n → (k : ℕ) (client : ClientSpec) → IsClient w.clients k client → flow ≡ flow_of w.setup client → (t : ServerEnd) → IsEndFor w (flow_of w.setup client) server port t
        → Carries (server_leg w.setup w.clients client t) y → SaysToClient w.setup w.clients w calls k client n z
    says n later k client is its t end_is (resets x) = client_resets (is_reset_too x k client is its)
    says n later k client is its t end_is (opens s a) =
        let clear_y : is_syn_ack y.segment.head.flags ≡ false = ap (λ (x : Segment). is_syn_ack x.head.flags) same ∙ clear in
        elim from.kind [
          | inl syn ↦ absurd (cc)
          | inr rest ↦ elim rest [
            | inl reset ↦ absurd (let h = reset_has y.segment.head.flags reset in let none = s.no_rst in cc)
            | inr other ↦ absurd (let h = other_no_syn y.segment.head.flags other in let set = s.syn in cc)
          ]
        ]
    says n later k client is its t end_is (shows p a) =
        client_shows server port t (subst (λ f. IsOpened w.setup calls f) its (r, d)) end_is
        (record {
          at = p.at;
          position = (at k client is its).0 ∙ p.position;
          shows = record {
            behind_syn = p.shows.behind_syn;
            numbered = as_num z.segment.head.seq (number_of (forged_of w.setup (flow_of w.setup client)) p.at)
                (g.seq
                ∙ ap (λ x. moved (open_number r) (forged_of w.setup flow) x) (ap (λ (s : Segment). s.head.seq.0) (sym same) ∙ ap (λ (x : Num). x.0) p.shows.numbered ∙ ap (λ x. number_of x p.at) (sym (number_is t end_is.here)))
                ∙ keeps_position (open_number r) (forged_of w.setup flow) p.at
                ∙ ap (λ f. number_of (forged_of w.setup f) p.at) its);
            bytes = subst (λ x. IsSliceAt t.state.written (p.at - 1) x) (ap (λ (s : Segment). s.body) same ∙ sym g.body) p.shows.bytes;
            fin = λ fin.
                let f = p.shows.fin (ap (λ (s : Segment). has_fin s.head.flags) same ∙ sym g.flags.fin ∙ fin) in
                (f.0, ap (λ (x : List ℕ). p.at - 1 + length x) (g.body ∙ ap (λ (s : Segment). s.body) (sym same)) ∙ f.1);
          };
          no_syn = g.flags.syn ∙ ap (λ (s : Segment). has_syn s.head.flags) (sym same) ∙ p.no_syn;
          no_rst = g.flags.rst ∙ ap (λ (s : Segment). has_rst s.head.flags) (sym same) ∙ p.no_rst;
        })
        (record {
          position = a.position;
          acknowledges = (at k client is its).1 ∙ a.acknowledges;
          ack = g.flags.ack ∙ ap (λ (s : Segment). has_ack s.head.flags) (sym same) ∙ a.ack;
          number = as_num z.segment.head.ack (number_of client.isn.0 a.position)
              (g.ack (ap (λ (s : Segment). has_ack s.head.flags) (sym same) ∙ a.ack) ∙ ap (λ (s : Segment). s.head.ack.0) (sym same) ∙ ap (λ (x : Num). x.0) a.number);
        })
        (record { index = m; earlier = omega arith; segment = y; sent = sent; by = sender; acknowledged = sym (at k client is its).1 })

    by_server : (n : ℕ) → length w.sent ≤ n → ServerSent w.setup w.clients w server port m y → (k : ℕ) (client : ClientSpec) → IsClient w.clients k client → flow ≡ flow_of w.setup client
        → SaysToClient w.setup w.clients w calls k client n z
    by_server n later s k client is its = elim s.what [
      | inl reset ↦ client_resets (is_reset_too reset k client is its)
      | inr e ↦
          let end_is = end_for w calls inv live laws flow server port e.end e.here owns in
          let own : e.flow ≡ flow_of w.setup client = same_Some e.flow (flow_of w.setup client) (sym e.made ∙ end_is.made ∙ ap (λ (f : Flow). Some f) its) in
          says n later k client is its e.end (subst (λ f. IsEndFor w f server port e.end) its end_is) (e.honest k client is own)
    ]

    pub to_client_on : OutOk w calls inv live laws (Some flow) z
    to_client_on n later = record {
      known = known;
      way = inr (record {
        source = g.source;
        source_port = g.source_port;
        target = g.target;
        target_port = g.target_port;
        honest = λ k client is its. by_server n later (sent_as w calls inv m y (end (Server server port)) sent sender) k client is its;
      });
    }
