-- The calls that are made of the benches of several shards, one after the other.
use Rattle.std.proofs.Common.{◌≡◌, ℕ, zero, suc, ◌+◌, ◌<◌, Bool, true, Option, Some, List, [], ◌∷◌, ◌++◌, map, length, refl, sym, ◌∙◌, ap, subst, arith}
use Rattle.std.specs.Prelude.{slice_get, slice_set, unwrap_or, if◌then◌else◌}
use Rattle.std.specs.List.{flat_map, range_with_len}
use Rattle.std.proofs.lemmas.Bool.{lt-ltb, ltb-true}
use Rattle.std.proofs.lemmas.List.{append-nil, flat_map_more, map-append}
use Rattle.bench.specs.Bench.{served}
use Rattle.bench.specs.Calls.{IsCall}
use Rattle.bench.specs.declared.call.Call.{Call}
use Rattle.bench.specs.declared.call.Call.TheVariants.{Take, Step, Crash, Fail}
use Rattle.rule_table.specs.Setups.{SetupView}
use Rattle.world_model.specs.After.{after}
use Rattle.world_model.specs.Events.{WorldEvent, calls}
use Rattle.world_model.specs.declared.event.Event.TheVariants as event
use Rattle.world_model.specs.Runs.{after_all}
use Rattle.world_model.specs.Posted.{Posted}
use Rattle.world_model.specs.Shape.{IsShard}
use Rattle.world_model.specs.Steps.{fails_at, is_enabled, place_at}
use Rattle.world_model.specs.World.{World, Shard, no_shard}
use Rattle.world_model.proofs.Reaching.{after_both}
use Rattle.world_model.proofs.Shapes.{is_called, set_shards}

-- ---- a call that sends nothing
abbrev IsQuiet : Call → Type 0
IsQuiet (Take i item a segment) = ⊥
IsQuiet (Step i) = ⊥
IsQuiet (Crash i) = Unit {0}
IsQuiet (Fail place) = Unit {0}

abbrev pub served_shard : Shard → Call → Shard
served_shard s c = record { bench = (served s.bench c).0; taken = s.taken }

-- the world whose shard is called, as the lent shards show it
quiet_at : (w : World) (g : ℕ) (s : Shard) (c : Call) → IsQuiet c → slice_get w.shards g ≡ Some s
    → record w { shards = slice_set w.shards g (served_shard s c) } ≡ after w (calls g c)
quiet_at w g s (Take i item a segment) quiet here = absurd quiet
quiet_at w g s (Step i) quiet here = absurd quiet
quiet_at w g s (Crash i) quiet here =
    ap (λ (t : Shard). record w { shards = slice_set w.shards g (served_shard t (Crash i)) }) (sym (ap (λ (o : Option Shard). unwrap_or o (no_shard w.setup)) here))
    ∙ ap (λ (xs : List Posted). record w { shards = slice_set w.shards g (served_shard (unwrap_or (slice_get w.shards g) (no_shard w.setup)) (Crash i)); sent = xs }) (sym (append-nil w.sent))
quiet_at w g s (Fail place) quiet here =
    ap (λ (t : Shard). record w { shards = slice_set w.shards g (served_shard t (Fail place)) }) (sym (ap (λ (o : Option Shard). unwrap_or o (no_shard w.setup)) here))
    ∙ ap (λ (xs : List Posted). record w { shards = slice_set w.shards g (served_shard (unwrap_or (slice_get w.shards g) (no_shard w.setup)) (Fail place)); sent = xs }) (sym (append-nil w.sent))

abbrev pub AreOwn : SetupView → List Shard → Type 0
AreOwn setup shards = (g : ℕ) (s : Shard) → slice_get shards g ≡ Some s → IsShard setup g s

-- the shard there is called
module _ (setup : SetupView) (shards : List Shard) (g : ℕ) (s : Shard) (c : Call) (own : AreOwn setup shards) (within : g < length shards)
    (here : slice_get shards g ≡ Some s) where
  pub call_own : AreOwn setup (slice_set shards g (served_shard s c))
  call_own = set_shards setup shards g (served_shard s c) own (λ _. is_called setup g s s.taken c refl (own g s here))

  pub call_is : IsQuiet c → (w : World) → w.shards ≡ shards → record w { shards = slice_set shards g (served_shard s c) } ≡ after w (calls g c)
  call_is quiet w same =
      ap (λ (x : List Shard). record w { shards = slice_set x g (served_shard s c) }) (sym same)
      ∙ quiet_at w g s c quiet (ap (λ (x : List Shard). slice_get x g) same ∙ here)

pub crash_fits : (setup : SetupView) (g : ℕ) (s : Shard) (i : ℕ) → IsShard setup g s → i < setup.instances → IsCall s.bench.setup s.bench.shard (Crash i)
crash_fits setup g s i is within = subst (λ (x : SetupView). i < x.instances) (sym is.setup_is) within

pub fail_fits : (setup : SetupView) (g : ℕ) (s : Shard) (place : ℕ) → IsShard setup g s → place < setup.copies → IsCall s.bench.setup s.bench.shard (Fail place)
fail_fits setup g s place is within = subst (λ (x : SetupView). place < x.copies) (sym is.setup_is) within

-- the replica's place is in the shard's list
pub fails_is : (setup : SetupView) (w v : World) (g place replica : ℕ) → place ≡ place_at setup g replica → place < setup.copies → v ≡ after w (calls g (Fail place))
    → v ≡ after_all w (fails_at setup replica g)
fails_is setup w v g place replica is within made =
    made ∙ ap (λ (n : ℕ). after w (calls g (Fail n))) is
    ∙ sym (ap (λ (b : Bool). after_all w (if b then calls g (Fail (place_at setup g replica)) ∷ [] else [])) (lt-ltb (place_at setup g replica) setup.copies (subst (λ (n : ℕ). n < setup.copies) is within)))

-- ---- one shard after the other
range_suc : (a n : ℕ) → range_with_len a (suc n) ≡ range_with_len a n ++ (a + n) ∷ []
range_suc a zero = ap (λ (k : ℕ). k ∷ []) (let e : a ≡ a + 0 = omega arith in e)
range_suc a (suc n) = ap (λ (ks : List ℕ). a ∷ ks) (range_suc (a + 1) n ∙ ap (λ (k : ℕ). range_with_len (a + 1) n ++ k ∷ []) (let e : a + 1 + n ≡ a + suc n = omega arith in e))

range_more : (n : ℕ) → range_with_len 0 (n + 1) ≡ range_with_len 0 n ++ n ∷ []
range_more n = ap (range_with_len 0) (let e : n + 1 ≡ suc n = omega arith in e) ∙ range_suc 0 n ∙ ap (λ (k : ℕ). range_with_len 0 n ++ k ∷ []) (let e : 0 + n ≡ n = omega arith in e)

-- the events of one shard more
pub flat_range : (f : ℕ → List WorldEvent) (n : ℕ) → flat_map f (range_with_len 0 (n + 1)) ≡ flat_map f (range_with_len 0 n) ++ f n
flat_range f n = ap (flat_map f) (range_more n) ∙ sym (flat_map_more f [] (range_with_len 0 n) n)

pub map_range : (f : ℕ → WorldEvent) (n : ℕ) → map f (range_with_len 0 (n + 1)) ≡ map f (range_with_len 0 n) ++ f n ∷ []
map_range f n = ap (map f) (range_more n) ∙ map-append f (range_with_len 0 n) (n ∷ [])

-- these shards in place of the world's: after some events, and after more
pub goes_further : (w : World) (now next : List Shard) (first more all : List WorldEvent)
    → record w { shards = now } ≡ after_all w first → record w { shards = next } ≡ after_all (record w { shards = now }) more → all ≡ first ++ more
    → record w { shards = next } ≡ after_all w all
goes_further w now next first more all is later both =
    later ∙ ap (λ (x : World). after_all x more) is ∙ sym (after_both first more w) ∙ ap (after_all w) (sym both)

-- ---- the same by the names of the code: `v` is the world, `w` what it is made of
pub crash_instance : (w v : World) (i : ℕ) → w ≡ v → is_enabled v (event.Crash i) ≡ true → i < w.setup.instances
unfolding is_enabled
crash_instance w v i is can = subst (λ (x : World). i < x.setup.instances) (sym is) (ltb-true i v.setup.instances can)

pub fail_replica : (w v : World) (replica : ℕ) → w ≡ v → is_enabled v (event.Fail replica) ≡ true → replica < w.setup.replicas
unfolding is_enabled
fail_replica w v replica is can = subst (λ (x : World). replica < x.setup.replicas) (sym is) (ltb-true replica v.setup.replicas can)
