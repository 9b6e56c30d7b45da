-- The world after a call of a shard's bench, before anything is sent.
use Rattle.std.proofs.Common.{◌≡◌, ℕ, ◌<◌, Option, Some, List, [], ◌∷◌, ◌++◌, length, refl, sym, ◌∙◌, ap, subst, inl, inr}
use Rattle.std.specs.Prelude.{◌⊎◌, slice_set, unwrap_or}
use Rattle.flow_id.specs.declared.key.Key.{Key}
use Rattle.flow_record.specs.declared.record.Record.{Record}
use Rattle.bench.specs.declared.call.Call.{Call}
use Rattle.bench.specs.Bench.{JobState, job_at, served}
use Rattle.bench.specs.Calls.{IsCall}
use Rattle.bench.specs.Histories.{log_after, Decides}
use Rattle.bench.specs.MoveLaws.{MoveLaws}
use Rattle.world_model.specs.Streams.{written_by, closed_by}
use Rattle.job_core.specs.TableLaws.{TableLaws}
use Rattle.world_model.specs.World.{World, Shard, no_shard, end_of_client, shard_at, bench_at}
use Rattle.world_model.proofs.Calling.{own_place, other_place, same_or, HandlesSent, after_is, are', held_after, proposals_after}
use Rattle.world_model.proofs.Ends.{set_long}
use Rattle.world_model.proofs.Frame.{client_later, server_later, proposed_later}
use Rattle.world_model.proofs.Growth.{same_stream}
use Rattle.world_model.proofs.Invariant.{Calls, log_at, TookSent, ShardFits, ShardIs, Inv}
use Rattle.world_model.proofs.Later.{Later, sent_later}

module _ (w : World) (calls : Calls) (inv : Inv w calls) (laws : (g : ℕ) → MoveLaws w.setup g) (table : TableLaws)
    (g : ℕ) (below : g < w.setup.shards) (c : Call) (may : IsCall w.setup g c) (taken : List (Option ℕ))
    (took : HandlesSent w calls inv laws table g below c may taken)
    (jobs : (i : ℕ) (job : JobState) → job_at (served (bench_at w g) c).0.desks i ≡ Some job → TookSent w.setup w.clients w taken i job.segment)
    (places : length taken ≡ w.setup.instances) (calls' : Calls) (own : calls' g ≡ calls g ++ c ∷ []) (others : (h : ℕ) → (h ≡ g → ⊥) → calls' h ≡ calls h) where
  abbrev pub new_shard : Shard
  new_shard = record { bench = (served (bench_at w g) c).0; taken = taken }

  abbrev pub benched : World
  benched = record { setup = w.setup; clients = w.clients; ends = w.ends; servers = w.servers; shards = slice_set w.shards g new_shard; sent = w.sent }

  own_shard : shard_at benched g ≡ new_shard
  own_shard = ap (λ (o : Option Shard). unwrap_or o (no_shard w.setup)) (own_place w.shards g new_shard (subst (λ n. g < n) (sym inv.shard_count) below))

  other_shard : (h : ℕ) → (h ≡ g → ⊥) → shard_at benched h ≡ shard_at w h
  other_shard h apart = ap (λ (o : Option Shard). unwrap_or o (no_shard w.setup)) (other_place w.shards g h new_shard apart)

  decided_by : (h : ℕ) (k : Key) (r : Record) → ((h ≡ g) ⊎ (h ≡ g → ⊥)) → Decides (log_at w.setup calls h) k r → Decides (log_at w.setup calls' h) k r
  decided_by h k r (inl same) d =
      subst (λ n. Decides (log_at w.setup calls' n) k r) (sym same)
      (subst (λ (x : List Call). Decides (log_after w.setup g x) k r) (sym own)
      ((laws g).grows.decides (calls g) (c ∷ []) k r (subst (λ n. Decides (log_at w.setup calls n) k r) same d)))
  decided_by h k r (inr apart) d = subst (λ (x : List Call). Decides (log_after w.setup h x) k r) (sym (others h apart)) d

  pub later_benched : Later w.setup w calls benched calls'
  later_benched = record {
    decided = λ h k r d. decided_by h k r (same_or h g) d;
    sent = λ n x is. is;
    client = λ k. same_stream (written_by (end_of_client w k)) (closed_by (end_of_client w k));
    server = λ v p s here. record { end = s; here = here; maker = refl; first = refl; stream = same_stream s.state.written s.state.closed };
  }

  -- a segment that was taken is the same in the world that goes on
  took_now : (t : List (Option ℕ)) (i : ℕ) (segment : _) → TookSent w.setup w.clients w t i segment → TookSent w.setup w.clients benched t i segment
  took_now t i segment x = record { index = x.index; last = x.last; entry = x.entry; sent = x.sent; is = x.is; by = x.by }

  own_fits : ShardFits w.setup w.clients benched g new_shard (calls g ++ c ∷ [])
  own_fits = record {
    are = are' w calls inv laws table g below c may taken;
    bench = after_is w calls inv laws table g below c may taken;
    proposals = λ k r p. proposed_later w.setup w.clients w calls benched calls' later_benched k r (proposals_after w calls inv laws table g below c may taken took k r p);
    places = places;
    jobs = λ i job here. took_now taken i job.segment (jobs i job here);
    held = λ i k client is. held_after w calls inv laws table g below c may taken took i k client is;
  }

  other_fits : (h : ℕ) → ShardIs w.setup w.clients w calls h → ShardFits w.setup w.clients benched h (shard_at w h) (calls h)
  other_fits h s = record {
    are = s.are;
    bench = s.bench;
    proposals = λ k r p. proposed_later w.setup w.clients w calls benched calls' later_benched k r (s.proposals k r p);
    places = s.places;
    jobs = λ i job here. took_now (shard_at w h).taken i job.segment (s.jobs i job here);
    held = λ i k client is. s.held i k client is;
  }

  fits_by : (h : ℕ) → h < w.setup.shards → ((h ≡ g) ⊎ (h ≡ g → ⊥)) → ShardIs w.setup w.clients benched calls' h
  fits_by h within (inl same) =
      subst (λ n. ShardIs w.setup w.clients benched calls' n) (sym same)
      (subst (λ (s : Shard). ShardFits w.setup w.clients benched g s (calls' g)) (sym own_shard)
      (subst (λ (x : List Call). ShardFits w.setup w.clients benched g new_shard x) (sym own) own_fits))
  fits_by h within (inr apart) =
      subst (λ (s : Shard). ShardFits w.setup w.clients benched h s (calls' h)) (sym (other_shard h apart))
      (subst (λ (x : List Call). ShardFits w.setup w.clients benched h (shard_at w h) x) (sym (others h apart)) (other_fits h (inv.shard h within)))

  pub benched_holds : Inv benched calls'
  benched_holds = record {
    good = inv.good;
    apart = inv.apart;
    end_count = inv.end_count;
    shard_count = set_long w.shards g new_shard ∙ inv.shard_count;
    sent = λ n x is. sent_later w.setup w.clients w calls benched calls' later_benched n x x.by (inv.sent n x is);
    client = λ k e is. client_later w.setup w.clients w calls benched calls' later_benched k e (inv.client k e is);
    server = λ v p s is. server_later w.setup w.clients w calls benched calls' later_benched v p s (inv.server v p s is);
    shard = λ h within. fits_by h within (same_or h g);
  }
