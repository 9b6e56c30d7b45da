-- What the invariant says of the records and of the held bytes, and all that it says.
use Rattle.std.proofs.Common.{◌≡◌, ℕ, ◌+◌, ◌-◌, ◌<◌, ◌≤◌, ◌^◌, true, false, Option, Some, List, [], ◌∷◌, ◌++◌, length, refl, sym, ◌∙◌, ap, subst, arith, inl, inr}
use Rattle.std.specs.Prelude.{◌⊎◌, IsTrue, slice_get}
use Rattle.std.specs.List.{AllByRecursion}
use Rattle.std.proofs.lemmas.Option.{none-some, same_Some}
use Rattle.flow_id.specs.Keys.{same_flow}
use Rattle.flow_id.specs.Ports.{shard_of}
use Rattle.flow_id.specs.declared.key.Flow.{Flow}
use Rattle.flow_id.specs.declared.key.Key.{Key}
use Rattle.flow_id.specs.declared.key.Key.TheVariants.{Syn, Choice, Port, Open, Fin, Gone}
use Rattle.flow_record.specs.Records.{fits_key, syn_number, choice_server, port_owner, open_server, open_port}
use Rattle.flow_record.specs.declared.record.Record.{Record}
use Rattle.http_head.specs.Reading.{reading}
use Rattle.job_core.specs.Held.{offset_of}
use Rattle.job_core.specs.Table.{candidate_of}
use Rattle.rule_table.specs.Matching.{admits}
use Rattle.seq_space.specs.Positions.{number_of, difference}
use Rattle.seq_space.specs.declared.Num.{Num}
use Rattle.tcp_end.specs.EndState.{EndState}
use Rattle.tcp_end.specs.Streams.{IsPrefix}
use Rattle.tcp_segment.specs.Flags.{has_syn}
use Rattle.bench.specs.declared.call.Call.{Call}
use Rattle.bench.specs.Bench.{BenchState, desk_at, job_at, held_of}
use Rattle.bench.specs.Calls.{IsCall, AreCalls}
use Rattle.bench.specs.MoveLaws.{Becomes}
use Rattle.bench.specs.MoveLaws.Becomes.{stays, drops, grows}
use Rattle.bench.specs.Histories.{Mark, bench_after, log_after, Decides, Proposes}
use Rattle.bench.proofs.Chains.{port_law, open_law}
use Rattle.bench.proofs.Fits.{proposed_fit}
use Rattle.bench.proofs.Origins.{origin_on_cells, origin_in_walks}
use Rattle.world_model.specs.declared.at.At.TheVariants.{Client}
use Rattle.world_model.specs.declared.client.ClientSpec.{ClientSpec}
use Rattle.world_model.specs.Acks.{word_of, AcksAreBackedFor}
use Rattle.world_model.specs.Openings.{IsOpening}
use Rattle.world_model.specs.Clients.{flow_of, IsClient}
use Rattle.world_model.specs.Held.{IsUndecided, BeforeOpen, NothingIsAdded}
use Rattle.bench.specs.MoveLaws.{MoveLaws}
use Rattle.world_model.specs.Records.{OnCell, InWalk, IsPortOf, IsOpenOf, SaysOf}
use Rattle.world_model.specs.Runs.{AllLive}
use Rattle.world_model.specs.Safety.{IsSafe}
use Rattle.world_model.specs.Posted.{Posted, end}
use Rattle.world_model.specs.Streams.{written_by, StreamsAgreeFor}
use Rattle.world_model.specs.World.{World, AreApart, end_of_client, bench_at}
use Rattle.world_model.proofs.Conclude.{admits_head, sent_as, streams_agree, acks_backed}
use Rattle.world_model.proofs.Invariant.{Calls, log_at, DecidesOf, IsOpened, Carries, ClientSent, client_leg, Owns, OpensEnd, Inv}
use Rattle.world_model.proofs.Invariant.Carries.{resets, opens, shows}
use Rattle.world_model.proofs.Numbers.{offset_exact}
use Rattle.world_model.proofs.Unique.{port_for, word_is, end_for}

module _ (w : World) (calls : Calls) (inv : Inv w calls) (live : AllLive w) (laws : (g : ℕ) → MoveLaws w.setup g) where
  -- ---- records
  cell_proposed : (g : ℕ) → g < w.setup.shards → (k : Key) (r : Record) → OnCell (bench_at w g) k r → Proposes (log_at w.setup calls g) k r
  cell_proposed g below k r o =
      origin_on_cells w.setup g (calls g) o.place o.cell o.index (k, r) (subst (λ (b : BenchState). slice_get b.cells o.place ≡ Some o.cell) (inv.shard g below).bench o.stands) o.kept

  walk_proposed : (g : ℕ) → g < w.setup.shards → (k : Key) (r : Record) → InWalk (bench_at w g) k r → Proposes (log_at w.setup calls g) k r
  walk_proposed g below k r o =
      subst (λ x. Proposes (log_at w.setup calls g) x r) o.asks
      (origin_in_walks w.setup g (calls g) o.instance o.job r (subst (λ (b : BenchState). job_at b.desks o.instance ≡ Some o.job) (inv.shard g below).bench o.here) o.carries)

  proposed : (g : ℕ) → g < w.setup.shards → (k : Key) (r : Record) → OnCell (bench_at w g) k r ⊎ InWalk (bench_at w g) k r → Proposes (log_at w.setup calls g) k r
  proposed g below k r (inl o) = cell_proposed g below k r o
  proposed g below k r (inr o) = walk_proposed g below k r o

  module _ (k : ℕ) (client : ClientSpec) (is : IsClient w.clients k client) where
    abbrev flow : Flow
    flow = flow_of w.setup client

    word_at : (g : ℕ) → shard_of flow w.setup.shards ≡ g → (key : Key) (r : Record) → Decides (log_at w.setup calls g) key r → word_of w flow key ≡ Some r
    word_at g same key r decides = word_is w calls inv live laws flow key r (subst (λ n. Decides (log_at w.setup calls n) key r) (sym same) decides)

    port_says : (g : ℕ) → g < w.setup.shards → (service server port : ℕ) (r : Record) → Proposes (log_at w.setup calls g) (Port service server port) r → port_owner r ≡ flow → IsPortOf w flow server port
    port_says g below service server port r proposes owned =
        let p = port_law w.setup g inv.good (calls g) (inv.shard g below).are service server port r proposes in
        let here : shard_of flow w.setup.shards ≡ g = ap (λ (f : Flow). shard_of f w.setup.shards) (sym owned) ∙ p.on_shard in
        record {
          choice = p.choice;
          chosen = word_at g here (Choice flow) p.choice (subst (λ f. Decides (log_at w.setup calls g) (Choice f) p.choice) owned p.choice_decided);
          of_choice = sym p.of_choice;
          candidate = p.candidate;
          below = p.below;
          is_candidate = p.is_candidate ∙ ap (λ f. candidate_of w.setup f p.candidate) owned;
          others = λ j before.
              let t = p.taken j before in
              let there : Decides (log_at w.setup calls g) (Port w.setup.service.number server (candidate_of w.setup flow j)) t.0 =
              subst (λ s. Decides (log_at w.setup calls g) (Port s server (candidate_of w.setup flow j)) t.0) p.of_service
              (subst (λ f. Decides (log_at w.setup calls g) (Port service server (candidate_of w.setup f j)) t.0) owned t.1) in
              (t.0, word_at g here (Port w.setup.service.number server (candidate_of w.setup flow j)) t.0 there, subst (λ f. same_flow (port_owner t.0) f ≡ false) owned t.2);
        }

    open_says : (g : ℕ) → g < w.setup.shards → (r : Record) → Proposes (log_at w.setup calls g) (Open flow) r → IsOpenOf w flow r
    open_says g below r proposes =
        let o = open_law w.setup g inv.good (calls g) (inv.shard g below).are flow r proposes in
        let p = port_for w calls inv g below w.setup.service.number (open_server r) (open_port r) o.owner o.owner_decided in
        let here : shard_of flow w.setup.shards ≡ g = ap (λ (f : Flow). shard_of f w.setup.shards) (sym o.owned) ∙ p.on_shard in
        let owns : Owns w.setup w.clients calls flow (open_server r) (open_port r) =
        record { owner = o.owner; decided = subst (λ n. Decides (log_at w.setup calls n) (Port w.setup.service.number (open_server r) (open_port r)) o.owner) (sym here) o.owner_decided; owned = o.owned } in
        let e : OpensEnd w.setup w.clients w r = (inv.shard g below).proposals (Open flow) r proposes in
        record {
          owner = o.owner;
          owned = word_at g here (Port w.setup.service.number (open_server r) (open_port r)) o.owner o.owner_decided;
          by_flow = o.owned;
          end = e.end;
          is_end = end_for w calls inv live laws flow (open_server r) (open_port r) e.end e.here owns;
          number = e.number;
        }

    kind : (g : ℕ) → g < w.setup.shards → (key : Key) (r : Record) → Proposes (log_at w.setup calls g) key r → IsTrue (fits_key key r)
    kind g below key r proposes = (proposed_fit w.setup g inv.good (calls g) (inv.shard g below).are key r proposes).0

    says : (g : ℕ) → g < w.setup.shards → (key : Key) (r : Record) → Proposes (log_at w.setup calls g) key r → SaysOf w flow client.isn (end_of_client w k) key r
    says g below (Syn f) r proposes = λ same. (kind g below (Syn f) r proposes, (inv.shard g below).proposals (Syn f) r proposes k client is same)
    says g below (Choice f) r proposes = λ same.
        let admitted : admits w.setup (written_by (end_of_client w k)) (choice_server r) ≡ true = (inv.shard g below).proposals (Choice f) r proposes k client is same in
        (kind g below (Choice f) r proposes, record { head = admits_head w.setup.rules (reading (written_by (end_of_client w k))) (choice_server r) admitted; admitted = admitted })
    says g below (Port service server port) r proposes = λ owned. (kind g below (Port service server port) r proposes, port_says g below service server port r proposes owned)
    says g below (Open f) r proposes = λ same. (kind g below (Open f) r proposes, open_says g below r (subst (λ x. Proposes (log_at w.setup calls g) (Open x) r) same proposes))
    says g below (Fin f side) r proposes = tt
    says g below (Gone f) r proposes = tt

    -- ---- before the flow's connection is opened
    module _ (none : (r : Record) → DecidesOf w.setup calls flow (Open flow) r → ⊥) where
      not_opened : {A : Type 0} → IsOpened w.setup calls flow → A
      not_opened (r, decided) = absurd (none r decided)

      acked_by : (e : EndState) → IsOpened w.setup calls flow ⊎ (e.acked ≤ 1) → e.acked ≤ 1
      acked_by e (inl o) = not_opened o
      acked_by e (inr h) = h

      near_by : (p : ℕ) (x : Posted) → x.position ≡ Some p → IsOpened w.setup calls flow ⊎ ((q : ℕ) → x.position ≡ Some q → q + length x.segment.body ≤ 2 ^ 31) → p + length x.segment.body ≤ 2 ^ 31
      near_by p x at (inl o) = not_opened o
      near_by p x at (inr h) = h p at

      client_sent : (n : ℕ) (x : Posted) → slice_get w.sent n ≡ Some x → x.by ≡ end (Client k) → ClientSent w.setup w.clients w calls k n x
      client_sent n x sent by = sent_as w calls inv n x (end (Client k)) sent by

      same_client : (n : ℕ) (x : Posted) (c : ClientSent w.setup w.clients w calls k n x) → c.client ≡ client
      same_client n x c = same_Some c.client client (sym c.is ∙ is)

      reach : (n p : ℕ) (x : Posted) → slice_get w.sent n ≡ Some x → x.by ≡ end (Client k) → x.position ≡ Some p → p + length x.segment.body ≤ 2 ^ 31
      reach n p x sent by at =
          let c = client_sent n x sent by in
          near_by p x at (subst (λ (d : ClientSpec). IsOpened w.setup calls (flow_of w.setup d) ⊎ ((q : ℕ) → x.position ≡ Some q → q + length x.segment.body ≤ 2 ^ 31)) (same_client n x c) c.near)

      offset_by : (p : ℕ) (x : Posted) (syn : Record) → x.position ≡ Some p → has_syn x.segment.head.flags ≡ false → syn_number syn ≡ client.isn.0 → p + length x.segment.body ≤ 2 ^ 31
          → Carries (client_leg w.setup w.clients w k client) x → offset_of syn x.segment ≡ p - 1
      offset_by p x syn at clear number near (resets r) = absurd (none-some p (sym r.nowhere ∙ at))
      offset_by p x syn at clear number near (opens s a) = absurd (let e = s.syn in cc)
      offset_by p x syn at clear number near (shows part a) =
          let same : part.at ≡ p = same_Some part.at p (sym part.position ∙ at) in
          let seq : x.segment.head.seq.0 ≡ number_of client.isn.0 p = ap (λ (m : Num). m.0) part.shows.numbered ∙ ap (number_of client.isn.0) same in
          let one : 1 ≤ p = subst (λ q. 1 ≤ q) same part.shows.behind_syn in
          ap (λ s. difference s (number_of (syn_number syn) 1)) seq
          ∙ ap (λ c. difference (number_of client.isn.0 p) (number_of c 1)) number
          ∙ offset_exact client.isn.0 p one (omega arith)

      before_open : BeforeOpen w k client.isn (end_of_client w k)
      before_open = record {
        acked = λ e here.
            let c = inv.client k e here in
            acked_by e (subst (λ (d : ClientSpec). IsOpened w.setup calls (flow_of w.setup d) ⊎ (e.acked ≤ 1)) (same_Some c.client client (sym c.is ∙ is)) c.acked);
        reach = reach;
        offset = λ n p x syn sent by at clear number.
            let c = client_sent n x sent by in
            offset_by p x syn at clear number (reach n p x sent by at)
            (subst (λ (d : ClientSpec). Carries (client_leg w.setup w.clients w k d) x) (same_client n x c) c.carries);
      }

  -- ---- after it
  still_held : (log : List Mark) (b : BenchState) (c : Call) (i : ℕ) (flow : Flow) (was now : List ℕ) (r : Record) → Decides log (Open flow) r → Becomes log b c i flow was now → (now ≡ was) ⊎ (now ≡ [])
  still_held log b c i flow was now r decided stays = inl refl
  still_held log b c i flow was now r decided drops = inr refl
  still_held log b c i flow was now r decided (grows more seg syn before handles clear still known unopened reached) = absurd (unopened r decided)

  all_first : (P : Call → Type 0) (before later : List Call) (c : Call) → AllByRecursion P (before ++ c ∷ later) → AllByRecursion P (before ++ c ∷ [])
  all_first P [] later c all = (all.0, tt)
  all_first P (d ∷ before) later c all = (all.0, all_first P before later c all.1)

  nothing_added : NothingIsAdded w calls
  nothing_added g i flow r before later c below history decided =
      still_held (log_after w.setup g (before ++ c ∷ [])) (bench_after w.setup g before) c i flow _ _ r decided
      ((laws g).becomes before c (all_first (IsCall w.setup g) before later c (subst (λ (h : List Call). AreCalls w.setup g h) history (inv.shard g below).are)) i flow)

  -- ---- together
  -- what holds of a client's connection holds of it by another name
  of_opening : (P : Flow → Num → Option EndState → Type 0) (k : ℕ) (flow : Flow) (first : Num) (state : Option EndState) (o : IsOpening w k flow first state)
      → P (flow_of w.setup o.client) o.client.isn (end_of_client w k) → P flow first state
  of_opening P k flow first state o p =
      subst (λ f. P f first state) (sym o.flow_is)
      (subst (λ (n : Num). P (flow_of w.setup o.client) n state) (sym o.first_is)
      (subst (λ s. P (flow_of w.setup o.client) o.client.isn s) (sym o.state_is) p))

  pub is_safe : AreApart w.servers → IsSafe w calls
  is_safe apart = record {
    replayed = λ g below. record { are = (inv.shard g below).are; bench = (inv.shard g below).bench };
    streams = record {
      apart = apart;
      each = λ k flow first state o. of_opening (λ f n s. StreamsAgreeFor w f s) k flow first state o (streams_agree w calls inv live laws k o.client o.is);
    };
    acks = λ k flow first state o. of_opening (λ f n s. AcksAreBackedFor w k f n) k flow first state o (acks_backed w calls inv live laws k o.client o.is);
    records = λ g k flow first state key r below o at.
        of_opening (λ f n s. SaysOf w f n s key r) k flow first state o (says k o.client o.is g below key r (proposed g below key r at));
    proposals = λ g k flow first state key r below o p. of_opening (λ f n s. SaysOf w f n s key r) k flow first state o (says k o.client o.is g below key r p);
    held = λ g i k flow first state below o.
        of_opening (λ f n s. IsPrefix (held_of (desk_at (bench_at w g).desks i).held f) (written_by s)) k flow first state o ((inv.shard g below).held i k o.client o.is);
    offsets = λ k flow first state o.
        of_opening (λ f n s. IsUndecided w calls f (Open f) → BeforeOpen w k n s) k flow first state o (λ none. before_open k o.client o.is none);
    added = nothing_added;
  }
