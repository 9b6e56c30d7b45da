-- The events of the balancer keep the invariant: an instance takes a segment, and every other call of a bench.
use Rattle.std.proofs.Common.{◌≡◌, ℕ, ◌<◌, false, Option, Some, None, List, [], ◌∷◌, ◌++◌, length, refl, sym, ◌∙◌, ap, subst, arith}
use Rattle.std.specs.Prelude.{IsTrue, slice_get, slice_set, option_and_then}
use Rattle.job_core.specs.Jobs.{is_taken}
use Rattle.job_core.specs.declared.aim.Aim.{Aim}
use Rattle.job_core.specs.declared.aim.Aim.TheVariants as aim
use Rattle.rule_table.specs.Setups.{SetupView}
use Rattle.tcp_segment.specs.declared.segment.Segment.{Segment}
use Rattle.bench.specs.declared.call.Call.{Call}
use Rattle.bench.specs.declared.call.Call.TheVariants.{Take, Step, Crash, Fail}
use Rattle.bench.specs.Bench.{JobState, job_at}
use Rattle.bench.specs.Calls.{IsCall, IsOnShard}
use Rattle.world_model.specs.After.{called, take_call}
use Rattle.world_model.specs.Enabled.{is_take, home}
use Rattle.world_model.proofs.Relations.{IsIn}
use Rattle.world_model.specs.Flows.{aim_of}
use Rattle.bench.specs.MoveLaws.{MoveLaws, Handles, IsJobOf}
use Rattle.world_model.specs.Runs.{AllLive}
use Rattle.world_model.specs.Posted.{Posted}
use Rattle.job_core.specs.TableLaws.{TableLaws}
use Rattle.world_model.specs.World.{World, shard_at, bench_at}
use Rattle.world_model.proofs.Calling.{own_place, other_place, HandlesSent}
use Rattle.world_model.proofs.Ends.{set_long}
use Rattle.world_model.proofs.Invariant.{Calls, TookSent, Inv}
use Rattle.world_model.proofs.Served.{called_keeps}
use Rattle.world_model.proofs.Unique.{some_shard}

-- ---- the shard that handles a segment
home_on : (setup : SetupView) (a : Aim) → IsTrue (is_taken a) → IsOnShard setup (home setup a) a
home_on setup (aim.Client flow) ok = refl
home_on setup (aim.Server server port) ok = refl
home_on setup (aim.Odd flags) ok = absurd (cc)
home_on setup aim.NotOurs ok = absurd (cc)

home_within : (setup : SetupView) (a : Aim) → IsTrue (is_taken a) → 0 < setup.shards → home setup a < setup.shards
home_within setup (aim.Client flow) ok some = omega arith
home_within setup (aim.Server server port) ok some = omega arith
home_within setup (aim.Odd flags) ok some = absurd (cc)
home_within setup aim.NotOurs ok some = absurd (cc)

module _ (w : World) (calls : Calls) (inv : Inv w calls) (laws : (g : ℕ) → MoveLaws w.setup g) (table : TableLaws) where
  -- ---- any call but a Take
  module _ (g : ℕ) (c : Call) (below : g < w.setup.shards) (may : IsCall w.setup g c) (other : is_take c ≡ false)
      (calls' : Calls) (own : calls' g ≡ calls g ++ c ∷ []) (others : (h : ℕ) → (h ≡ g → ⊥) → calls' h ≡ calls h) where
    abbrev taken : List (Option ℕ)
    taken = (shard_at w g).taken

    job_sent : (n i : ℕ) (a : Aim) (s : Segment) (o : Option JobState) → job_at (bench_at w g).desks n ≡ o → n ≡ i → IsJobOf a s o → TookSent w.setup w.clients w taken i s
    job_sent n i a s None here same is = absurd is
    job_sent n i a s (Some job) here same is =
        subst (λ j. TookSent w.setup w.clients w taken j s) same (subst (λ x. TookSent w.setup w.clients w taken n x) is.1 ((inv.shard g below).jobs n job here))

    handles_by : (d : Call) → is_take d ≡ false → (i : ℕ) (a : Aim) (s : Segment) → Handles (bench_at w g) d i a s → TookSent w.setup w.clients w taken i s
    handles_by (Take n item x t) none i a s h = absurd (cc)
    handles_by (Step n) none i a s h = job_sent n i a s (job_at (bench_at w g).desks n) refl h.0 h.1
    handles_by (Crash n) none i a s h = absurd h
    handles_by (Fail place) none i a s h = absurd h

    pub calls_keeps : AllLive (called w g taken c) → Inv (called w g taken c) calls'
    calls_keeps live =
        called_keeps w calls inv laws table g below c may taken (handles_by c other) (λ i left. refl) (inv.shard g below).places calls' own others live

  -- ---- a Take
  module _ (i item n : ℕ) (x : Posted) (sent : slice_get w.sent n ≡ Some x) (in_ : IsIn x.by) (within : i < w.setup.instances) (ok : IsTrue (is_taken (aim_of w.setup x.segment))) where
    abbrev a : Aim
    a = aim_of w.setup x.segment

    abbrev g : ℕ
    g = home w.setup a

    abbrev c : Call
    c = take_call w i item x.segment

    abbrev taken' : List (Option ℕ)
    taken' = slice_set (shard_at w g).taken i (Some n)

    below : g < w.setup.shards
    below = home_within w.setup a ok (some_shard w calls inv)

    abbrev places : length (shard_at w g).taken ≡ w.setup.instances
    places = (inv.shard g below).places

    may : IsCall w.setup g c
    may = (within, (refl, home_on w.setup a ok))

    took_own : (s : Segment) → x.segment ≡ s → TookSent w.setup w.clients w taken' i s
    took_own s is = record {
      index = n;
      last = ap (option_and_then (λ (o : Option ℕ). o)) (own_place (shard_at w g).taken i (Some n) (subst (λ m. i < m) (sym places) within));
      entry = x;
      sent = sent;
      is = is;
      by = in_;
    }

    handles : HandlesSent w calls inv laws table g below c may taken'
    handles j b s h = subst (λ k. TookSent w.setup w.clients w taken' k s) h.0 (took_own s h.2)

    pub takes_keeps : (calls' : Calls) → calls' g ≡ calls g ++ c ∷ [] → ((h : ℕ) → (h ≡ g → ⊥) → calls' h ≡ calls h) → AllLive (called w g taken' c) → Inv (called w g taken' c) calls'
    takes_keeps calls' own others live =
        called_keeps w calls inv laws table g below c may taken' handles
        (λ j left. ap (option_and_then (λ (o : Option ℕ). o)) (other_place (shard_at w g).taken i j (Some n) (λ same. left (sym same))))
        (set_long (shard_at w g).taken i (Some n) ∙ places) calls' own others live
