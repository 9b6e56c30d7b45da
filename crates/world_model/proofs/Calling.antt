-- A call of a shard's bench: what is proposed and held after it meets the invariant. What it sends comes after.
use Rattle.std.proofs.Common.{◌≡◌, ℕ, zero, suc, ◌+◌, ◌-◌, ◌≤◌, ◌<◌, ◌^◌, Bool, true, false, ◌&&◌, Option, Some, None, List, [], ◌∷◌, ◌++◌, length, drop, refl, sym, ◌∙◌, ap, subst, arith, inl, inr}
use Rattle.std.specs.Prelude.{◌⊎◌, slice_get, slice_set, not}
use Rattle.std.proofs.lemmas.Bool.{cases_lt, and_parts}
use Rattle.std.proofs.lemmas.List.{take-append-drop}
use Rattle.std.proofs.lemmas.Option.{same_Some}
use Rattle.flow_id.specs.declared.key.Flow.{Flow}
use Rattle.flow_id.specs.declared.key.Key.{Key}
use Rattle.flow_id.specs.declared.key.Key.TheVariants as key
use Rattle.flow_record.specs.Records.{syn_number, choice_server, open_server, open_port, open_number}
use Rattle.flow_record.specs.declared.record.Record.{Record}
use Rattle.job_core.specs.Aims.{is_syn, is_syn_ack, is_reset, is_other}
use Rattle.job_core.specs.Held.{offset_of}
use Rattle.job_core.specs.declared.aim.Aim.{Aim}
use Rattle.job_core.specs.declared.aim.Aim.TheVariants as aim
use Rattle.replica_cell.proofs.Lists.{all_push}
use Rattle.rule_table.specs.Matching.{admits}
use Rattle.rule_table.specs.Setups.{SetupView}
use Rattle.seq_space.specs.Positions.{number_of, difference}
use Rattle.seq_space.specs.declared.Num.{Num}
use Rattle.tcp_end.specs.Streams.{IsPrefix, IsSliceAt}
use Rattle.tcp_segment.specs.Flags.{has_fin, has_syn, has_rst, has_ack}
use Rattle.tcp_segment.specs.declared.segment.Segment.{Segment}
use Rattle.bench.specs.declared.call.Call.{Call}
use Rattle.bench.specs.declared.call.Call.TheVariants.{Take, Step, Crash, Fail}
use Rattle.bench.proofs.Begun.{jobs_known}
use Rattle.bench.specs.Bench.{JobState, BenchState, desk_at, job_at, held_of, served}
use Rattle.bench.specs.Calls.{IsCall, IsAimedHere, AreCalls}
use Rattle.bench.specs.Histories.{Mark, bench_after, log_after, Decides, Proposes}
use Rattle.bench.proofs.Histories.{after_all-append}
use Rattle.bench.proofs.Origins.{origin_in_log}
use Rattle.world_model.specs.declared.at.At.TheVariants.{Client, Server}
use Rattle.world_model.specs.declared.client.ClientSpec.{ClientSpec}
use Rattle.world_model.specs.Clients.{flow_of, IsClient}
use Rattle.world_model.proofs.Relations.{IsIn}
use Rattle.bench.specs.MoveLaws.{MoveLaws, Handles, IsJobOf, Proposal, Becomes}
use Rattle.bench.specs.MoveLaws.{IsProposed as ByCall}
use Rattle.bench.specs.MoveLaws.Proposal.{of_syn, of_choice, of_port, of_open, of_fin, of_gone}
use Rattle.bench.specs.MoveLaws.Becomes.{stays, drops, grows}
use Rattle.world_model.specs.Posted.{Posted, end}
use Rattle.world_model.specs.Streams.{written_by}
use Rattle.job_core.specs.TableLaws.{TableLaws, FromClient, FromServer}
use Rattle.world_model.specs.World.{World, end_of_server, end_of_client, bench_at}
use Rattle.world_model.proofs.Conclude.{sent_as}
use Rattle.world_model.proofs.Extending.{extended_prefix}
use Rattle.world_model.proofs.Frame.{admits_more}
use Rattle.world_model.proofs.Growth.{either}
use Rattle.world_model.proofs.Invariant.{Calls, log_at, IsOpened, Carries, client_leg, IsFlow, OpensEnd, IsProposed, TookSent, Inv}
use Rattle.world_model.proofs.Invariant.Carries.{resets, opens, shows}
use Rattle.world_model.proofs.Numbers.{offset_exact}
use Rattle.world_model.proofs.Senders.{of_client, of_server, is_flow}

-- ---- lists
pub own_place : {X : Type 0} (xs : List X) (k : ℕ) (x : X) → k < length xs → slice_get (slice_set xs k x) k ≡ Some x
own_place [] k x below = absurd (omega arith)
own_place (y ∷ xs) zero x below = refl
own_place (y ∷ xs) (suc k) x below = own_place xs k x (omega arith)

pub other_place : {X : Type 0} (xs : List X) (k j : ℕ) (x : X) → (j ≡ k → ⊥) → slice_get (slice_set xs k x) j ≡ slice_get xs j
other_place [] k j x apart = refl
other_place (y ∷ xs) zero zero x apart = absurd (apart refl)
other_place (y ∷ xs) zero (suc j) x apart = refl
other_place (y ∷ xs) (suc k) zero x apart = refl
other_place (y ∷ xs) (suc k) (suc j) x apart = other_place xs k j x (λ same. apart (ap suc same))

pub same_or : (h g : ℕ) → (h ≡ g) ⊎ (h ≡ g → ⊥)
same_or h g = elim (cases_lt h g) [
  | inl lt ↦ inr (λ same. omega arith)
  | inr ge ↦ elim (cases_lt g h) [
    | inl gt ↦ inr (λ same. omega arith)
    | inr le ↦ inl (omega arith)
  ]
]

-- ---- flags
pub syn_has : (flags : ℕ) → is_syn flags ≡ true → has_syn flags ≡ true
syn_has flags is = (and_parts (has_syn flags) (not (has_ack flags)) (and_parts (has_syn flags && not (has_ack flags)) (not (has_rst flags)) (and_parts (has_syn flags && not (has_ack flags) && not (has_rst flags)) (not (has_fin flags)) is).0).0).0

pub syn_ack_has : (flags : ℕ) → is_syn_ack flags ≡ true → has_syn flags ≡ true
syn_ack_has flags is = (and_parts (has_syn flags) (has_ack flags) (and_parts (has_syn flags && has_ack flags) (not (has_rst flags)) (and_parts (has_syn flags && has_ack flags && not (has_rst flags)) (not (has_fin flags)) is).0).0).0

pub not_true : (b : Bool) → not b ≡ true → b ≡ false
not_true false e = refl
not_true true e = absurd (cc)

pub other_no_syn : (flags : ℕ) → is_other flags ≡ true → has_syn flags ≡ false
other_no_syn flags is = not_true (has_syn flags) (and_parts (has_ack flags) (not (has_syn flags)) (and_parts (has_ack flags && not (has_syn flags)) (not (has_rst flags)) is).0).1

pub other_no_rst : (flags : ℕ) → is_other flags ≡ true → has_rst flags ≡ false
other_no_rst flags is = not_true (has_rst flags) (and_parts (has_ack flags && not (has_syn flags)) (not (has_rst flags)) is).1

-- what is neither a SYN nor a reset is another
pub is_third : (x y z : Bool) → ((x ≡ true) ⊎ (y ≡ true) ⊎ (z ≡ true)) → x ≡ false → y ≡ false → z ≡ true
is_third x y z (inl a) nx ny = absurd (cc)
is_third x y z (inr (inl a)) nx ny = absurd (cc)
is_third x y z (inr (inr a)) nx ny = a

-- a SYN that is a client's opens its stream
pub opens_syn : (flags : ℕ) → has_syn flags ≡ true → has_ack flags ≡ false → has_rst flags ≡ false → has_fin flags ≡ false → is_syn flags ≡ true
opens_syn flags syn ack rst fin = by (has_syn flags) (has_ack flags) (has_rst flags) (has_fin flags) syn ack rst fin
  where
    by : (a b c d : Bool) → a ≡ true → b ≡ false → c ≡ false → d ≡ false → (a && not b && not c && not d) ≡ true
    by true false false false p q r s = refl
    by true true c d p q r s = absurd (cc)
    by true false true d p q r s = absurd (cc)
    by true false false true p q r s = absurd (cc)
    by false b c d p q r s = absurd (cc)

pub opens_syn_ack : (flags : ℕ) → has_syn flags ≡ true → has_ack flags ≡ true → has_rst flags ≡ false → has_fin flags ≡ false → is_syn_ack flags ≡ true
opens_syn_ack flags syn ack rst fin = by (has_syn flags) (has_ack flags) (has_rst flags) (has_fin flags) syn ack rst fin
  where
    by : (a b c d : Bool) → a ≡ true → b ≡ true → c ≡ false → d ≡ false → (a && b && not c && not d) ≡ true
    by true true false false p q r s = refl
    by true false c d p q r s = absurd (cc)
    by true true true d p q r s = absurd (cc)
    by true true false true p q r s = absurd (cc)
    by false b c d p q r s = absurd (cc)

-- what a prefix of a stream admits, the stream admits
admits_prefix : (setup : SetupView) (stream bytes : List ℕ) (server : ℕ) → IsPrefix bytes stream → admits setup bytes server ≡ true → admits setup stream server ≡ true
admits_prefix setup stream bytes server prefix admitted =
    let whole : stream ≡ bytes ++ drop (length bytes) stream = sym (take-append-drop (length bytes) stream) ∙ ap (λ (x : List ℕ). x ++ drop (length bytes) stream) (sym prefix) in
    subst (λ x. admits setup x server ≡ true) (sym whole) (admits_more setup bytes (drop (length bytes) stream) server admitted)

module _ (w : World) (calls : Calls) (inv : Inv w calls) (laws : (g : ℕ) → MoveLaws w.setup g) (table : TableLaws)
    (g : ℕ) (below : g < w.setup.shards) (c : Call) (may : IsCall w.setup g c) (taken : List (Option ℕ)) where
  abbrev pub b : BenchState
  b = bench_at w g

  abbrev pub b' : BenchState
  b' = (served b c).0

  abbrev pub history : List Call
  history = calls g ++ c ∷ []

  abbrev pub log' : List Mark
  log' = log_after w.setup g history

  pub bench_is : b ≡ bench_after w.setup g (calls g)
  bench_is = (inv.shard g below).bench

  pub after_is : b' ≡ bench_after w.setup g history
  after_is = ap (λ x. (served x c).0) bench_is ∙ sym (after_all-append (calls g) (c ∷ []) _)

  pub are' : AreCalls w.setup g history
  are' = all_push (IsCall w.setup g) (calls g) c (inv.shard g below).are may

  -- what a call handles is aimed at the shard
  job_aimed : (o : Option JobState) (n : ℕ) (a : Aim) (seg : Segment) → job_at b.desks n ≡ o → IsJobOf a seg o → IsAimedHere w.setup g a seg
  job_aimed None n a seg here is = absurd is
  job_aimed (Some job) n a seg here is =
      let known = jobs_known w.setup g (calls g) (inv.shard g below).are n job (subst (λ (x : BenchState). job_at x.desks n ≡ Some job) bench_is here) in
      subst (λ s. IsAimedHere w.setup g a s) is.1 (subst (λ x. IsAimedHere w.setup g x job.segment) is.0 known.aimed)

  aimed_by : (d : Call) → IsCall w.setup g d → (i : ℕ) (a : Aim) (seg : Segment) → Handles b d i a seg → IsAimedHere w.setup g a seg
  aimed_by (Take n item x s) ok i a seg h = subst (λ t. IsAimedHere w.setup g a t) h.2 (subst (λ y. IsAimedHere w.setup g y s) h.1 ok.1)
  aimed_by (Step n) ok i a seg h = job_aimed (job_at b.desks n) n a seg refl h.1
  aimed_by (Crash n) ok i a seg h = absurd h
  aimed_by (Fail place) ok i a seg h = absurd h

  pub aimed_of : (i : ℕ) (a : Aim) (seg : Segment) → Handles b c i a seg → IsAimedHere w.setup g a seg
  aimed_of = aimed_by c may

  -- what a call handles was sent
  abbrev pub HandlesSent : Type 0
  HandlesSent = (i : ℕ) (a : Aim) (s : Segment) → Handles b c i a s → TookSent w.setup w.clients w taken i s

  module _ (took : HandlesSent) where
    -- the sender of a handled client's segment
    record ByClient (flow : Flow) (seg : Segment) : Type 0 where
      index : ℕ
      entry : Posted
      sent : slice_get w.sent index ≡ Some entry
      is : entry.segment ≡ seg
      in_ : IsIn entry.by
      from : FromClient w.setup entry.segment.source entry.segment.target entry.segment.head flow

    by_client : (i : ℕ) (flow : Flow) (seg : Segment) → Handles b c i (aim.Client flow) seg → IsAimedHere w.setup g (aim.Client flow) seg → ByClient flow seg
    by_client i flow seg handles ours =
        let t = took i (aim.Client flow) seg handles in
        record {
          index = t.index;
          entry = t.entry;
          sent = t.sent;
          is = t.is;
          in_ = t.by;
          from = subst (λ (s : Segment). FromClient w.setup s.source s.target s.head flow) (sym t.is) (table.clients w.setup seg.source seg.target seg.head flow (sym ours.0));
        }

    client_sent : (flow : Flow) (seg : Segment) → ByClient flow seg → (k : ℕ) (client : ClientSpec) → IsClient w.clients k client → flow ≡ flow_of w.setup client
        → (x : Posted) × (x.segment ≡ seg) × Carries (client_leg w.setup w.clients w k client) x
        × (IsOpened w.setup calls flow ⊎ ((p : ℕ) → x.position ≡ Some p → p + length x.segment.body ≤ 2 ^ 31))
    client_sent flow seg by k client is its =
        let sender = of_client w calls inv by.index by.entry by.sent by.in_ flow by.from k client is its in
        let s = sent_as w calls inv by.index by.entry (end (Client k)) by.sent sender in
        let same : s.client ≡ client = same_Some s.client client (sym s.is ∙ is) in
        let flows : flow_of w.setup s.client ≡ flow = ap (λ (d : ClientSpec). flow_of w.setup d) same ∙ sym its in (
          by.entry,
          by.is,
          subst (λ (d : ClientSpec). Carries (client_leg w.setup w.clients w k d) by.entry) same s.carries,
          subst (λ f. IsOpened w.setup calls f ⊎ ((p : ℕ) → by.entry.position ≡ Some p → p + length by.entry.segment.body ≤ 2 ^ 31)) flows s.near,
        )

    -- ---- Syns
    abbrev SynSays : Key → Record → Type 0
    SynSays (key.Syn flow) r = (k : ℕ) (client : ClientSpec) → IsClient w.clients k client → flow ≡ flow_of w.setup client → syn_number r ≡ client.isn.0
    SynSays (key.Choice flow) r = Unit {0}
    SynSays (key.Port service server port) r = Unit {0}
    SynSays (key.Open flow) r = Unit {0}
    SynSays (key.Fin flow side) r = Unit {0}
    SynSays (key.Gone flow) r = Unit {0}

    seq_of : (k : ℕ) (client : ClientSpec) (x : Posted) → has_syn x.segment.head.flags ≡ true → Carries (client_leg w.setup w.clients w k client) x → x.segment.head.seq ≡ client.isn
    seq_of k client x syn (resets r) = absurd (let clear = r.no_syn in cc)
    seq_of k client x syn (opens s a) = s.seq
    seq_of k client x syn (shows p a) = absurd (let clear = p.no_syn in cc)

    syn_new : (i : ℕ) (seg : Segment) (held : Flow → List ℕ) (a : Aim) (k : Key) (r : Record) → Handles b c i a seg → IsAimedHere w.setup g a seg → Proposal log' w.setup i seg held a k r → SynSays k r
    syn_new i seg held a k r handles ours (of_syn flow q syn number) = λ j client is its.
        let x = client_sent flow seg (by_client i flow seg handles ours) j client is its in
        let set : has_syn x.0.segment.head.flags ≡ true = ap (λ (s : Segment). has_syn s.head.flags) x.1 ∙ syn_has seg.head.flags syn in
        number ∙ ap (λ (s : Segment). s.head.seq.0) (sym x.1) ∙ ap (λ (n : Num). n.0) (seq_of j client x.0 set x.2)
    syn_new i seg held a k r handles ours (of_choice flow syn q clear still decided absent reads chosen admitted) = tt
    syn_new i seg held a k r handles ours (of_port flow syn choice q candidate clear still decided chosen few owned others) = tt
    syn_new i seg held a k r handles ours (of_open server port owner syn q set acks owned decided at port_at number) = tt
    syn_new i seg held a k r handles ours (of_fin aimed_ flow from q) = tt
    syn_new i seg held a k r handles ours (of_gone aimed_ flow q) = tt

    syn_old : (k : Key) (r : Record) → IsProposed w.setup w.clients w k r → SynSays k r
    syn_old (key.Syn flow) r p = p
    syn_old (key.Choice flow) r p = tt
    syn_old (key.Port service server port) r p = tt
    syn_old (key.Open flow) r p = tt
    syn_old (key.Fin flow side) r p = tt
    syn_old (key.Gone flow) r p = tt

    -- what a call begins, by its proposal
    by_call : (k : Key) (r : Record) → Proposes log' k r → Proposes (log_at w.setup calls g) k r ⊎ ((i : ℕ) × ByCall w.setup g (calls g) c i k r)
    by_call k r proposes = either (λ old. old) (λ new. (new.0.instance, (laws g).proposed (calls g) c are' new.0 k r new.1 new.2)) ((laws g).grows.proposed (calls g) c k r proposes)

    handles_is : (i : ℕ) (a : Aim) (s : Segment) → Handles (bench_after w.setup g (calls g)) c i a s → Handles b c i a s
    handles_is i a s h = subst (λ x. Handles x c i a s) (sym bench_is) h

    syn_says : (k : Key) (r : Record) → Proposes log' k r → SynSays k r
    syn_says k r proposes = elim (by_call k r proposes) [
      | inl old ↦ syn_old k r ((inv.shard g below).proposals k r old)
      | inr new ↦ let p = new.1 in syn_new new.0 p.segment _ p.aim k r (handles_is new.0 p.aim p.segment p.handles) p.aimed p.proposal
    ]

    syn_decided : (flow : Flow) (r : Record) → Decides log' (key.Syn flow) r → (k : ℕ) (client : ClientSpec) → IsClient w.clients k client → flow ≡ flow_of w.setup client → syn_number r ≡ client.isn.0
    syn_decided flow r decides = syn_says (key.Syn flow) r (origin_in_log w.setup g history (key.Syn flow) r decides)

    -- ---- held bytes
    slice_of : (k : ℕ) (client : ClientSpec) (flow : Flow) (x : Posted) (syn : Record) (seg : Segment) → x.segment ≡ seg → syn_number syn ≡ client.isn.0 → is_syn seg.head.flags ≡ false → is_reset seg.head.flags ≡ false
        → ((p : ℕ) → x.position ≡ Some p → p + length x.segment.body ≤ 2 ^ 31) → Carries (client_leg w.setup w.clients w k client) x
        → ((has_rst seg.head.flags ≡ true → ⊥)) → ((has_syn seg.head.flags ≡ true) → ⊥)
        → IsSliceAt (written_by (end_of_client w k)) (offset_of syn seg) seg.body
    slice_of k client flow x syn seg same number clear still near (resets r) rst set = absurd (rst (sym (ap (λ (s : Segment). has_rst s.head.flags) same) ∙ r.rst))
    slice_of k client flow x syn seg same number clear still near (opens s a) rst set = absurd (set (sym (ap (λ (s : Segment). has_syn s.head.flags) same) ∙ s.syn))
    slice_of k client flow x syn seg same number clear still near (shows p a) rst set =
        let seq : seg.head.seq.0 ≡ number_of client.isn.0 p.at = ap (λ (s : Segment). s.head.seq.0) (sym same) ∙ ap (λ (n : Num). n.0) p.shows.numbered in
        let one : 1 ≤ p.at = p.shows.behind_syn in
        let few = near p.at p.position in
        let offset : offset_of syn seg ≡ p.at - 1 =
        ap (λ s. difference s (number_of (syn_number syn) 1)) seq ∙ ap (λ n. difference (number_of client.isn.0 p.at) (number_of n 1)) number ∙ offset_exact client.isn.0 p.at one (omega arith) in
        subst (λ o. IsSliceAt (written_by (end_of_client w k)) o seg.body) (sym offset)
        (subst (λ (s : Segment). IsSliceAt (written_by (end_of_client w k)) (p.at - 1) s.body) same p.shows.bytes)

    held_grows : (i k : ℕ) (client : ClientSpec) (flow : Flow) → IsClient w.clients k client → flow ≡ flow_of w.setup client → (bytes more : List ℕ)
        → IsPrefix bytes (written_by (end_of_client w k)) → Becomes log' b c i flow bytes more → IsPrefix more (written_by (end_of_client w k))
    held_grows i k client flow is its bytes more prefix stays = prefix
    held_grows i k client flow is its bytes more prefix drops = refl
    held_grows i k client flow is its bytes more prefix (grows was seg syn before handles clear still decided unopened reached) =
        let ours = aimed_of i (aim.Client flow) seg handles in
        let by = by_client i flow seg handles ours in
        let x = client_sent flow seg by k client is its in
        let number = syn_decided flow syn decided k client is its in
        let kind = is_third (is_syn seg.head.flags) (is_reset seg.head.flags) (is_other seg.head.flags) (table.clients w.setup seg.source seg.target seg.head flow (sym ours.0)).kind clear still in
        let near : (p : ℕ) → x.0.position ≡ Some p → p + length x.0.segment.body ≤ 2 ^ 31 = elim x.3 [
          | inl opened ↦ absurd (unopened opened.0
              ((laws g).grows.decides (calls g) (c ∷ []) (key.Open flow) opened.0
              (subst (λ n. Decides (log_at w.setup calls n) (key.Open flow) opened.0) ours.1 opened.1)))
          | inr h ↦ h
        ] in
        extended_prefix (written_by (end_of_client w k)) was seg.body (offset_of syn seg)
        (held_grows i k client flow is its bytes was prefix before)
        (slice_of k client flow x.0 syn seg x.1 number clear still near x.2
        (λ rst. let none = other_no_rst seg.head.flags kind in absurd (cc))
        (λ set. let none = other_no_syn seg.head.flags kind in absurd (cc)))
        reached

    pub held_after : (i k : ℕ) (client : ClientSpec) → IsClient w.clients k client → IsPrefix (held_of (desk_at b'.desks i).held (flow_of w.setup client)) (written_by (end_of_client w k))
    held_after i k client is =
        let flow = flow_of w.setup client in
        let becomes = (laws g).becomes (calls g) c are' i flow in
        subst (λ (x : BenchState). IsPrefix (held_of (desk_at x.desks i).held flow) (written_by (end_of_client w k))) (sym after_is)
        (held_grows i k client flow is refl _ _ ((inv.shard g below).held i k client is)
        (subst (λ (x : BenchState). Becomes log' b c i flow (held_of (desk_at x.desks i).held flow) (held_of (desk_at (bench_after w.setup g history).desks i).held flow)) (sym bench_is)
        (subst (λ (x : BenchState). Becomes log' x c i flow (held_of (desk_at (bench_after w.setup g (calls g)).desks i).held flow) (held_of (desk_at (bench_after w.setup g history).desks i).held flow)) (sym bench_is) becomes)))

    -- ---- all that is proposed
    open_new : (i server port : ℕ) (seg : Segment) (r : Record) → Handles b c i (aim.Server server port) seg → IsAimedHere w.setup g (aim.Server server port) seg
        → is_syn_ack seg.head.flags ≡ true → open_server r ≡ server → open_port r ≡ port → open_number r ≡ seg.head.seq.0 → OpensEnd w.setup w.clients w r
    open_new i server port seg r handles ours set at port_at number =
        let t = took i (aim.Server server port) seg handles in
        let from : FromServer w.setup t.entry.segment.source t.entry.segment.target t.entry.segment.head server port =
        subst (λ (s : Segment). FromServer w.setup s.source s.target s.head server port) (sym t.is) (table.servers w.setup seg.source seg.target seg.head server port (sym ours.0)) in
        let sender = of_server w calls inv t.index t.entry t.sent t.by server port from in
        let s = sent_as w calls inv t.index t.entry (end (Server server port)) t.sent sender in
        let syn : has_syn t.entry.segment.head.flags ≡ true = ap (λ (x : Segment). has_syn x.head.flags) t.is ∙ syn_ack_has seg.head.flags set in
        elim s.what [
          | inl reset ↦ absurd (let clear = reset.no_syn in cc)
          | inr e ↦ record {
            end = e.end;
            here = ap (λ v. end_of_server w v (open_port r)) at ∙ ap (λ q. end_of_server w server q) port_at ∙ e.here;
            number = number ∙ ap (λ (x : Segment). x.head.seq.0) (sym t.is) ∙ ap (λ (n : Num). n.0) (e.syn syn);
          }
        ]

    new_says : (i : ℕ) (seg : Segment) (a : Aim) (k : Key) (r : Record) → Handles b c i a seg → IsAimedHere w.setup g a seg
        → Proposal log' w.setup i seg (held_of (desk_at b'.desks i).held) a k r → IsProposed w.setup w.clients w k r
    new_says i seg a k r handles ours (of_syn flow q syn number) = syn_new i seg (held_of (desk_at b'.desks i).held) a (key.Syn flow) r handles ours (of_syn flow q syn number)
    new_says i seg a k r handles ours (of_choice flow syn q clear still decided absent reads chosen admitted) = λ j client is its.
        let held = held_of (desk_at b'.desks i).held flow in
        let prefix : IsPrefix held (written_by (end_of_client w j)) = subst (λ f. IsPrefix (held_of (desk_at b'.desks i).held f) (written_by (end_of_client w j))) (sym its) (held_after i j client is) in
        admits_prefix w.setup (written_by (end_of_client w j)) held (choice_server r) prefix admitted.admitted
    new_says i seg a k r handles ours (of_port flow syn choice q candidate clear still decided chosen few owned others) =
        let by = by_client i flow seg handles ours in
        subst (IsFlow w.setup w.clients) (sym owned) (is_flow w calls inv by.index by.entry by.sent by.in_ flow by.from)
    new_says i seg a k r handles ours (of_open server port owner syn q set acks owned decided at port_at number) = open_new i server port seg r handles ours set at port_at number
    new_says i seg a k r handles ours (of_fin aimed_ flow from q) = tt
    new_says i seg a k r handles ours (of_gone aimed_ flow q) = tt

    pub proposals_after : (k : Key) (r : Record) → Proposes log' k r → IsProposed w.setup w.clients w k r
    proposals_after k r proposes = elim (by_call k r proposes) [
      | inl old ↦ (inv.shard g below).proposals k r old
      | inr new ↦ let p = new.1 in
          new_says new.0 p.segment p.aim k r (handles_is new.0 p.aim p.segment p.handles) p.aimed
          (subst (λ (x : BenchState). Proposal log' w.setup new.0 p.segment (held_of (desk_at x.desks new.0).held) p.aim k r) (sym after_is) p.proposal)
    ]
