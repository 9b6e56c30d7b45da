-- A call of a shard's bench, with what it sends, keeps the invariant.
use Rattle.std.proofs.Common.{◌≡◌, ℕ, ◌+◌, ◌≤◌, ◌<◌, Option, Some, None, List, [], ◌∷◌, ◌++◌, length, append_assoc, refl, sym, ◌∙◌, ap, subst, arith, inl, inr}
use Rattle.std.specs.Prelude.{slice_get, option_and_then}
use Rattle.std.specs.List.{AllByRecursion, last_or}
use Rattle.std.proofs.lemmas.List.{append-nil, length-append}
use Rattle.flow_id.specs.declared.key.Flow.{Flow}
use Rattle.job_core.specs.Jobs.{flow_by}
use Rattle.job_core.specs.declared.aim.Aim.{Aim}
use Rattle.job_core.specs.declared.verdict.Verdict.{Verdict}
use Rattle.tcp_end.specs.Streams.{IsPrefix}
use Rattle.tcp_segment.specs.Sending.{OutsView}
use Rattle.tcp_segment.specs.declared.segment.Segment.{Segment}
use Rattle.bench.specs.declared.call.Call.{Call}
use Rattle.bench.specs.declared.call.Call.TheVariants.{Take, Step, Crash, Fail}
use Rattle.bench.specs.declared.call.Reply.{Reply}
use Rattle.bench.specs.declared.call.Reply.TheVariants as reply
use Rattle.bench.specs.Bench.{JobState, BenchState, desk_at, job_at, held_of, served}
use Rattle.bench.specs.Calls.{IsCall}
use Rattle.bench.specs.JobLaws.{Leaves}
use Rattle.bench.specs.Histories.{JobMove, bench_after, log_after, flow_of_last, flow_at}
use Rattle.world_model.specs.declared.client.ClientSpec.{ClientSpec}
use Rattle.world_model.specs.After.{called, with_sent}
use Rattle.world_model.specs.Clients.{flow_of, IsClient}
use Rattle.bench.specs.MoveLaws.{MoveLaws, Handles, IsJobOf, IsTakeOf, IsDone}
use Rattle.bench.specs.MoveLaws.{Sent as Says}
use Rattle.world_model.specs.Outs.{index_taken, entry_taken, handled_sends, reply_sends, call_sends}
use Rattle.world_model.specs.Runs.{AllLive}
use Rattle.world_model.specs.Posted.{Posted, balancer}
use Rattle.world_model.specs.Streams.{written_by}
use Rattle.job_core.specs.TableLaws.{TableLaws}
use Rattle.world_model.specs.World.{World, end_of_client, shard_at, bench_at}
use Rattle.world_model.proofs.Benched.{benched, benched_holds}
use Rattle.world_model.proofs.Calling.{HandlesSent, bench_is, after_is, are'}
use Rattle.world_model.proofs.Ending.{all_good}
use Rattle.world_model.proofs.Ends.{later_sent, one_sent}
use Rattle.world_model.proofs.Invariant.{Calls, log_at, IsSentBy, TookSent, Inv}
use Rattle.world_model.proofs.Later.{sent_later}
use Rattle.world_model.proofs.Writing.{get_within}

-- ---- several segments are sent
abbrev pub AllSent : World → Calls → List Posted → Type 0
AllSent w calls zs = AllByRecursion (λ z. (n : ℕ) → length w.sent ≤ n → IsSentBy w.setup w.clients w calls n z z.by) zs

abbrev pub with_all : World → List Posted → World
with_all w zs = record { setup = w.setup; clients = w.clients; ends = w.ends; servers = w.servers; shards = w.shards; sent = w.sent ++ zs }

abbrev sent_is : World → List Posted → World
sent_is w list = record { setup = w.setup; clients = w.clients; ends = w.ends; servers = w.servers; shards = w.shards; sent = list }

still_all : (w : World) (calls : Calls) (inv : Inv w calls) (z : Posted) (zs : List Posted) → AllSent w calls zs → AllSent (with_sent w z) calls zs
still_all w calls inv z [] all = tt
still_all w calls inv z (y ∷ zs) all = (
  (λ n long. sent_later w.setup w.clients w calls (with_sent w z) calls (later_sent w calls inv z) n y y.by
      (all.0 n (let more : length (w.sent ++ z ∷ []) ≡ length w.sent + 1 = length-append w.sent (z ∷ []) in omega arith))),
  still_all w calls inv z zs all.1,
)

pub many_sent : (zs : List Posted) (w : World) (calls : Calls) → Inv w calls → AllSent w calls zs → Inv (with_all w zs) calls
many_sent [] w calls inv all = subst (λ l. Inv (sent_is w l) calls) (sym (append-nil w.sent)) inv
many_sent (z ∷ zs) w calls inv all =
    let first = one_sent w calls inv z (sent_later w.setup w.clients w calls (with_sent w z) calls (later_sent w calls inv z) (length w.sent) z z.by (all.0 (length w.sent) (omega arith))) in
    subst (λ l. Inv (sent_is w l) calls) (append_assoc w.sent (z ∷ []) zs)
    (many_sent zs (with_sent w z) calls first (still_all w calls inv z zs all.1))

module _ (w : World) (calls : Calls) (inv : Inv w calls) (laws : (g : ℕ) → MoveLaws w.setup g) (table : TableLaws)
    (g : ℕ) (below : g < w.setup.shards) (c : Call) (may : IsCall w.setup g c) (taken : List (Option ℕ))
    (took_ : HandlesSent w calls inv laws table g below c may taken)
    (stays : (i : ℕ) → Leaves i c → index_taken taken i ≡ index_taken (shard_at w g).taken i)
    (places : length taken ≡ w.setup.instances) (calls' : Calls) (own : calls' g ≡ calls g ++ c ∷ []) (others : (h : ℕ) → (h ≡ g → ⊥) → calls' h ≡ calls h)
    (live : AllLive (called w g taken c)) where
  -- a job after the call is of the segment that its instance took last
  took_of : (i : ℕ) (a : Aim) (segment : Segment) (d : Call) → IsTakeOf i a segment d → Handles (bench_at w g) d i a segment
  took_of i a segment (Take n item aimed s) is = is
  took_of i a segment (Step n) is = absurd is
  took_of i a segment (Crash n) is = absurd is
  took_of i a segment (Fail place) is = absurd is

  old_job : (i : ℕ) (a : Aim) (segment : Segment) (o : Option JobState) → job_at (bench_at w g).desks i ≡ o → IsJobOf a segment o → Leaves i c → TookSent w.setup w.clients w taken i segment
  old_job i a segment None here is left = absurd is
  old_job i a segment (Some job) here is left =
      let t = (inv.shard g below).jobs i job here in
      record { index = t.index; last = stays i left ∙ t.last; entry = t.entry; sent = t.sent; is = t.is ∙ is.1; by = t.by }

  jobs : (i : ℕ) (job : JobState) → job_at (served (bench_at w g) c).0.desks i ≡ Some job → TookSent w.setup w.clients w taken i job.segment
  jobs i job here =
      elim ((laws g).next_job (calls g) c i job (subst (λ (b : BenchState). job_at b.desks i ≡ Some job) (after_is w calls inv laws table g below c may taken) here)) [
        | inl new ↦ took_ i job.aim job.segment (took_of i job.aim job.segment c new)
        | inr old ↦ old_job i job.aim job.segment (job_at (bench_at w g).desks i) refl
            (subst (λ (b : BenchState). IsJobOf job.aim job.segment (job_at b.desks i)) (sym (bench_is w calls inv laws table g below c may taken)) old.1) old.0
      ]

  abbrev now : World
  now = benched w calls inv laws table g below c may taken took_ jobs places calls' own others

  inv_now : Inv now calls'
  inv_now = benched_holds w calls inv laws table g below c may taken took_ jobs places calls' own others

  -- ---- the flow of what is sent
  last_is : (earlier : List JobMove) (o : Option JobMove) (m : JobMove) → last_or o (earlier ++ m ∷ []) ≡ Some m
  last_is [] o m = refl
  last_is (x ∷ earlier) o m = last_is earlier (Some x) m

  -- what is sent at the end of a handling
  done_sends : (v : Verdict) (outs : OutsView) → IsDone w.setup g (calls g) c v outs → (i : ℕ) → ((a : Aim) (s : Segment) (j : ℕ) → Handles (bench_at w g) c j a s → i ≡ j)
      → AllSent now calls' (handled_sends w (flow_at (bench_at w g) c) (entry_taken w taken i) v outs.list)
  done_sends v outs done i caller =
      let last = done.last in
      let handles : Handles (bench_at w g) c last.instance last.job.aim last.job.segment =
      subst (λ (b : BenchState). Handles b c last.instance last.job.aim last.job.segment) (sym (bench_is w calls inv laws table g below c may taken)) done.handles in
      let t = took_ last.instance last.job.aim last.job.segment handles in
      let entry : entry_taken w taken i ≡ Some t.entry =
      ap (λ n. entry_taken w taken n) (caller last.job.aim last.job.segment last.instance handles) ∙ ap (option_and_then (slice_get w.sent)) t.last ∙ t.sent in
      let held : Flow → List ℕ = held_of (desk_at (bench_after w.setup g (calls g)).desks last.instance).held in
      let says : Says (log_at w.setup calls' g) w.setup last.job.segment held last.job.aim (flow_by last.job.aim last.job.answers) v outs.list =
      subst (λ (h : List Call). Says (log_after w.setup g h) w.setup last.job.segment held last.job.aim (flow_by last.job.aim last.job.answers) v outs.list) (sym own) done.sent in
      let prefix : (flow : Flow) (k : ℕ) (client : ClientSpec) → IsClient w.clients k client → flow ≡ flow_of w.setup client → IsPrefix (held flow) (written_by (end_of_client w k)) =
      λ flow k client is_client its.
      subst (λ f. IsPrefix (held f) (written_by (end_of_client w k))) (sym its)
      (subst (λ (b : BenchState). IsPrefix (held_of (desk_at b.desks last.instance).held (flow_of w.setup client)) (written_by (end_of_client w k))) (bench_is w calls inv laws table g below c may taken)
      ((inv.shard g below).held last.instance k client is_client)) in
      let good = all_good now calls' inv_now live laws table g below last.job.segment t.index t.entry t.sent t.is t.by (get_within w.sent t.index t.entry t.sent) held prefix
      last.job.aim (flow_by last.job.aim last.job.answers) v outs.list says done.aimed in
      let flow : flow_at (bench_at w g) c ≡ flow_by last.job.aim last.job.answers =
      ap (λ (b : BenchState). flow_at b c) (bench_is w calls inv laws table g below c may taken)
      ∙ ap (λ (ms : List JobMove). flow_of_last (last_or None ms)) done.moves
      ∙ ap flow_of_last (last_is done.earlier None last) in
      subst (λ o. AllSent now calls' (handled_sends w (flow_at (bench_at w g) c) o v outs.list)) (sym entry)
      (subst (λ f. AllSent now calls' (handled_sends w f (Some t.entry) v outs.list)) (sym flow)
      (all_sent (flow_by last.job.aim last.job.answers) _ good))
    where
      all_sent : (flow : Option Flow) (zs : List Posted) → AllByRecursion (λ z. (z.by ≡ balancer flow) × ((n : ℕ) → length w.sent ≤ n → IsSentBy w.setup w.clients now calls' n z (balancer flow))) zs → AllSent now calls' zs
      all_sent flow [] all = tt
      all_sent flow (z ∷ zs) all = ((λ n long. subst (λ s. IsSentBy w.setup w.clients now calls' n z s) (sym all.0.0) (all.0.1 n long)), all_sent flow zs all.1)

  sends_by : (i : ℕ) (r : Reply) → ((a : Aim) (s : Segment) (j : ℕ) → Handles (bench_at w g) c j a s → i ≡ j) → (served (bench_at w g) c).1 ≡ r
      → AllSent now calls' (reply_sends w taken (flow_at (bench_at w g) c) i r)
  sends_by i (reply.Done v outs) caller replied =
      done_sends v outs
      ((laws g).done (calls g) c (are' w calls inv laws table g below c may taken) v outs (ap (λ (b : BenchState). (served b c).1) (sym (bench_is w calls inv laws table g below c may taken)) ∙ replied)) i caller
  sends_by i reply.Going caller replied = tt
  sends_by i reply.Idle caller replied = tt
  sends_by i reply.Noted caller replied = tt

  call_by : (d : Call) → c ≡ d → AllSent now calls' (call_sends w taken (flow_at (bench_at w g) c) d (served (bench_at w g) c).1)
  call_by (Take i item a s) is = sends_by i (served (bench_at w g) c).1 (λ a s j h. (subst (λ d. Handles (bench_at w g) d j a s) is h).0) refl
  call_by (Step i) is = sends_by i (served (bench_at w g) c).1 (λ a s j h. (subst (λ d. Handles (bench_at w g) d j a s) is h).0) refl
  call_by (Crash i) is = tt
  call_by (Fail place) is = tt

  pub called_keeps : Inv (called w g taken c) calls'
  called_keeps = many_sent (call_sends w taken (flow_at (bench_at w g) c) c (served (bench_at w g) c).1) now calls' inv_now (call_by c refl)
