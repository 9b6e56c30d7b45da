-- Each of these worlds lacks what every world has.
use Rattle.std.proofs.Common.{◌≡◌, ℕ, ◌==◌, Bool, true, false, Option, Some, None, List, [], ◌∷◌, refl, sym, ap, true≢false, inl, inr}
use Rattle.std.specs.Prelude.{◌⊎◌}
use Rattle.std.proofs.lemmas.Option.{none-some}
use Rattle.flow_id.specs.declared.key.Key.TheVariants as key
use Rattle.flow_record.specs.Records.{is_syn, syn_number}
use Rattle.world_model.specs.declared.at.At.TheVariants.{Server}
use Rattle.world_model.specs.Acks.{AcksStored, PeerAcked, AcksAreBacked}
use Rattle.world_model.specs.FirstFlow.{example_client, client_done, server_done, request}
use Rattle.world_model.specs.Openings.{IsOpening}
use Rattle.world_model.specs.Posted.{Posted}
use Rattle.world_model.specs.Streams.{IsEndFor, IsServerBound, StreamsAgreeFor, StreamsAgree}
use Rattle.world_model.specs.World.{ServerEnd}
use Rattle.world_model.specs.WrongWorlds.{example_flow, world_of, early_ack, first_syn, second_syn, astray, end_with, acknowledged_early, opened_twice, gone_astray, beginning_lost, never_closed, two_servers, one_server_twice, WrongWorlds}

-- the client's connection in these worlds
opening : (servers : List ServerEnd) (sent : List Posted) → IsOpening (world_of client_done servers sent) 0 example_flow example_client.isn (Some client_done)
opening servers sent = record { client = example_client; is = refl; flow_is = refl; first_is = refl; state_is = refl }

acknowledged : AcksAreBacked acknowledged_early → ⊥
acknowledged law = by ((law 0 example_flow example_client.isn (Some client_done) (opening [] (early_ack ∷ []))).to_client 0 early_ack (record { sent = refl; goes = refl; ack = refl; no_rst = refl }))
  where
    by : AcksStored acknowledged_early example_flow (key.Syn example_flow) is_syn syn_number example_client.isn early_ack
        ⊎ ((server : ℕ) × (port : ℕ) × (s : ServerEnd) × IsEndFor acknowledged_early example_flow server port s × PeerAcked acknowledged_early (Server server port) 1000 0 early_ack) → ⊥
    by (inl a) = true≢false (ap (λ n. n == 1070) a.acks)
    by (inr (server, port, s, made, p)) = none-some s made.here

opened : StreamsAgree opened_twice → ⊥
opened law =
    let of : StreamsAgreeFor opened_twice example_flow (Some client_done) = law.each 0 example_flow example_client.isn (Some client_done) (opening [] (first_syn ∷ second_syn ∷ [])) in
    true≢false (ap (λ n. n == 0) (of.one_server 0 17163 1 17163 0 1 first_syn second_syn
    (record { sent = refl; by = refl; goes_to = refl; from_port = refl }) (record { sent = refl; by = refl; goes_to = refl; from_port = refl })).0)

gone : StreamsAgree gone_astray → ⊥
gone law =
    let of : StreamsAgreeFor gone_astray example_flow (Some client_done) = law.each 0 example_flow example_client.isn (Some client_done) (opening [] (first_syn ∷ astray ∷ [])) in
    by (of.nowhere_else 1 astray refl refl)
  where
    by : ((astray.segment.target ≡ example_flow.address) × (astray.segment.head.target_port ≡ example_flow.port)) ⊎ ((server : ℕ) × (port : ℕ) × IsServerBound gone_astray example_flow server port 1 astray) → ⊥
    by (inl t) = true≢false (ap (λ n. n == 16909060) t.0)
    by (inr (server, port, b)) = none-some server b.goes_to

first_byte : List ℕ → ℕ
first_byte [] = 0
first_byte (b ∷ bytes) = b

lost : StreamsAgree beginning_lost → ⊥
unfolding first_byte
lost law =
    let s = end_with 0 (record server_done { received = Rattle.std.proofs.Common.drop 5 request }) in
    let of : StreamsAgreeFor beginning_lost example_flow (Some client_done) = law.each 0 example_flow example_client.isn (Some client_done) (opening (s ∷ []) (first_syn ∷ [])) in
    true≢false (ap (λ bytes. first_byte bytes == 99) (of.server 0 17163 s (record { here = refl; made = refl })).bytes)

closed : StreamsAgree never_closed → ⊥
closed law =
    let s = end_with 0 (record server_done { closed = false }) in
    let of : StreamsAgreeFor never_closed example_flow (Some client_done) = law.each 0 example_flow example_client.isn (Some client_done) (opening (s ∷ []) (first_syn ∷ [])) in
    true≢false (sym ((of.client 0 17163 s client_done (record { here = refl; made = refl }) refl).close refl).0)

servers : StreamsAgree two_servers → ⊥
servers law =
    let of : StreamsAgreeFor two_servers example_flow (Some client_done) = law.each 0 example_flow example_client.isn (Some client_done) (opening (end_with 0 server_done ∷ end_with 1 server_done ∷ []) (first_syn ∷ [])) in
    true≢false (ap (λ n. n == 0) (of.one_end 0 17163 1 17163 (end_with 0 server_done) (end_with 1 server_done) (record { here = refl; made = refl }) (record { here = refl; made = refl })).0)

twice : StreamsAgree one_server_twice → ⊥
twice law = none-some (end_with 0 server_done) (sym law.apart.0)

pub wrong_worlds : WrongWorlds
wrong_worlds = record { acknowledged = acknowledged; opened = opened; astray = gone; lost = lost; closed = closed; servers = servers; twice = twice }
