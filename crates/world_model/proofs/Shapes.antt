-- Each world that a run leads to has its shape.
use Rattle.tcp_end.specs.Taking.{taken}
use Rattle.std.proofs.Common.{◌≡◌, ◌==◌, ℕ, zero, suc, ◌<◌, ◌≤◌, Bool, true, false, Option, Some, None, List, [], ◌∷◌, ◌++◌, length, map, refl, sym, ◌∙◌, ap, subst, arith, inl, inr}
use Rattle.std.specs.Prelude.{slice_get, slice_set, find, cond, unwrap_or, option_map, if◌then◌else◌}
use Rattle.std.specs.List.{range_with_len}
use Rattle.std.proofs.lemmas.List.{length-replicate}
use Rattle.std.proofs.lemmas.Option.{none-some, same_Some}
use Rattle.rule_table.specs.Setups.{SetupView, IsSetup}
use Rattle.tcp_end.specs.EndState.{EndState, written_more, closed_end}
use Rattle.tcp_end.specs.EndState.{server_end as made_end}
use Rattle.bench.specs.Bench.{BenchState, JobState, step_at, job_at, served}
use Rattle.bench.specs.declared.call.Call.{Call}
use Rattle.bench.specs.declared.call.Call.TheVariants.{Take, Step, Crash, Fail}
use Rattle.bench.proofs.Causes.{setup_served}
use Rattle.world_model.specs.declared.at.At.{At}
use Rattle.world_model.specs.declared.at.At.TheVariants.{Client, Server}
use Rattle.world_model.specs.declared.client.ClientSpec.{ClientSpec}
use Rattle.world_model.specs.After.{after, changed_by, sent_by, aborted_by, received_at, received, refused, took, called, take_call}
use Rattle.world_model.specs.Enabled.{home}
use Rattle.world_model.specs.Events.{WorldEvent, opens, writes, closes, sends, aborts, receives, refuses, strays, takes, calls}
use Rattle.world_model.specs.Flows.{aim_of}
use Rattle.world_model.specs.Reached.{IsReached}
use Rattle.world_model.specs.Routes.{Rest}
use Rattle.world_model.specs.Runs.{after_all}
use Rattle.world_model.specs.Posted.{Posted}
use Rattle.world_model.specs.Shape.{IsShard, HasShape}
use Rattle.world_model.specs.World.{World, Shard, ServerEnd, AreApart, is_end, start, first_shard, end_at, end_of_server, with_end, with_server_end, shard_at, bench_at, no_shard}
use Rattle.world_model.proofs.Begins.{range_at, map_at, map_long, range_long}
use Rattle.world_model.proofs.Ends.{set_cases, set_long, end_names}
use Rattle.world_model.proofs.Writing.{get_within, got_within}

-- ---- a call of a bench
shard_step : (b : BenchState) (i : ℕ) (o : Option JobState) → (step_at b i o).0.shard ≡ b.shard
shard_step b i None = refl
shard_step b i (Some job) = refl

pub shard_served : (b : BenchState) (c : Call) → (served b c).0.shard ≡ b.shard
shard_served b (Take i item aim segment) = refl
shard_served b (Step i) = shard_step b i (job_at b.desks i)
shard_served b (Crash i) = refl
shard_served b (Fail place) = refl

pub is_called : (setup : SetupView) (g : ℕ) (s : Shard) (taken : List (Option ℕ)) (c : Call) → length taken ≡ length s.taken → IsShard setup g s
    → IsShard setup g (record { bench = (served s.bench c).0; taken = taken })
is_called setup g s taken c long is = record {
  setup_is = setup_served s.bench c ∙ is.setup_is;
  shard_is = shard_served s.bench c ∙ is.shard_is;
  places = long ∙ is.places;
}

-- a shard takes another state
pub set_shards : (setup : SetupView) (shards : List Shard) (g : ℕ) (s : Shard) → ((h : ℕ) (t : Shard) → slice_get shards h ≡ Some t → IsShard setup h t)
    → (g < length shards → IsShard setup g s) → (h : ℕ) (t : Shard) → slice_get (slice_set shards g s) h ≡ Some t → IsShard setup h t
set_shards setup shards g s all new h t is = elim (Rattle.std.proofs.lemmas.Bool.cases_lt g (length shards)) [
  | inl within ↦ elim (set_cases shards g h s within) [
    | inl mine ↦ subst (λ n. IsShard setup n t) (sym mine.0) (subst (λ (x : Shard). IsShard setup g x) (same_Some s t (sym mine.1 ∙ is)) (new within))
    | inr other ↦ all h t (sym other ∙ is)
  ]
  | inr past ↦ all h t (sym (ap (λ xs. slice_get xs h) (set_past shards g s past)) ∙ is)
]
  where
    set_past : (xs : List Shard) (k : ℕ) (x : Shard) → length xs ≤ k → slice_set xs k x ≡ xs
    set_past [] k x past = refl
    set_past (y ∷ xs) zero x past = absurd (omega arith)
    set_past (y ∷ xs) (suc k) x past = ap (λ zs. y ∷ zs) (set_past xs k x (omega arith))

-- ---- servers' ends
name_kept : (b : Bool) (v p : ℕ) (e : EndState) (s : ServerEnd) → is_end v p (if b then record s { state = e } else s) ≡ is_end v p s
name_kept true v p e s = refl
name_kept false v p e s = refl

none_kept : (v p v2 p2 : ℕ) (e : EndState) (servers : List ServerEnd) → find (is_end v2 p2) servers ≡ None → find (is_end v2 p2) (with_server_end servers v p e) ≡ None
none_kept v p v2 p2 e [] is = refl
none_kept v p v2 p2 e (t ∷ servers) is =
    ap (λ b. cond b (Some (if is_end v p t then record t { state = e } else t)) (find (is_end v2 p2) (with_server_end servers v p e))) (name_kept (is_end v p t) v2 p2 e t)
    ∙ by (is_end v2 p2 t) is (none_kept v p v2 p2 e servers)
  where
    by : (b : Bool) → cond b (Some t) (find (is_end v2 p2) servers) ≡ None
        → (find (is_end v2 p2) servers ≡ None → find (is_end v2 p2) (with_server_end servers v p e) ≡ None)
        → cond b (Some (if is_end v p t then record t { state = e } else t)) (find (is_end v2 p2) (with_server_end servers v p e)) ≡ None
    by true is rest = absurd (none-some t (sym is))
    by false is rest = rest is

pub apart_kept : (v p : ℕ) (e : EndState) (servers : List ServerEnd) → AreApart servers → AreApart (with_server_end servers v p e)
apart_kept v p e [] apart = tt
apart_kept v p e (s ∷ servers) apart = by (is_end v p s) (apart_kept v p e servers apart.1)
  where
    by : (b : Bool) → AreApart (with_server_end servers v p e) → AreApart ((if b then record s { state = e } else s) ∷ with_server_end servers v p e)
    by true rest = (none_kept v p s.server s.port e servers apart.0, rest)
    by false rest = (none_kept v p s.server s.port e servers apart.0, rest)

find_more : (v p : ℕ) (servers : List ServerEnd) (s : ServerEnd) → find (is_end v p) servers ≡ None → is_end v p s ≡ false → find (is_end v p) (servers ++ s ∷ []) ≡ None
find_more v p [] s none other = ap (λ b. cond b (Some s) None) other
find_more v p (t ∷ servers) s none other = by (is_end v p t) none (λ rest. find_more v p servers s rest other)
  where
    by : (b : Bool) → cond b (Some t) (find (is_end v p) servers) ≡ None
        → (find (is_end v p) servers ≡ None → find (is_end v p) (servers ++ s ∷ []) ≡ None)
        → cond b (Some t) (find (is_end v p) (servers ++ s ∷ [])) ≡ None
    by true is rest = absurd (none-some t (sym is))
    by false is rest = rest is

own_name : (s : ServerEnd) → is_end s.server s.port s ≡ true
own_name s = Rattle.std.proofs.lemmas.Bool.and_from (s.server == s.server) (s.port == s.port) (Rattle.std.proofs.lemmas.Bool.eq-eqb s.server s.server refl) (Rattle.std.proofs.lemmas.Bool.eq-eqb s.port s.port refl)

-- a name that no end has is not that of any of them
not_named : (v p : ℕ) (t : ServerEnd) (servers : List ServerEnd) (s : ServerEnd) → s.server ≡ v → s.port ≡ p → find (is_end v p) (t ∷ servers) ≡ None
    → (is_end t.server t.port s ≡ false) × (find (is_end v p) servers ≡ None)
not_named v p t servers s server port none = by (is_end v p t) refl none
  where
    other : (b : Bool) → is_end t.server t.port s ≡ b → is_end v p t ≡ false → is_end t.server t.port s ≡ false
    other false is named = is
    other true is named =
        let names = end_names t.server t.port s is in
        let mine : is_end v p t ≡ true = subst (λ x. is_end x p t ≡ true) (sym names.0 ∙ server) (subst (λ y. is_end t.server y t ≡ true) (sym names.1 ∙ port) (own_name t)) in
        absurd (cc)

    by : (b : Bool) → is_end v p t ≡ b → cond b (Some t) (find (is_end v p) servers) ≡ None → (is_end t.server t.port s ≡ false) × (find (is_end v p) servers ≡ None)
    by true is none = absurd (none-some t (sym none))
    by false is none = (other (is_end t.server t.port s) refl is, none)

pub apart_more : (v p : ℕ) (servers : List ServerEnd) (s : ServerEnd) → s.server ≡ v → s.port ≡ p → find (is_end v p) servers ≡ None → AreApart servers → AreApart (servers ++ s ∷ [])
apart_more v p [] s server port none apart = (refl, tt)
apart_more v p (t ∷ servers) s server port none apart =
    let both = not_named v p t servers s server port none in
    (find_more t.server t.port servers s apart.0 both.0, apart_more v p servers s server port both.1 apart.1)

-- ---- the events
pub with_end_shape : (w : World) (at : At) (e : EndState) → HasShape w → HasShape (with_end w at e)
with_end_shape w (Client k) e is = record { good = is.good; end_count = set_long w.ends k (Some e) ∙ is.end_count; shard_count = is.shard_count; own = is.own; apart = is.apart }
with_end_shape w (Server v p) e is = record { good = is.good; end_count = is.end_count; shard_count = is.shard_count; own = is.own; apart = apart_kept v p e w.servers is.apart }

changed_shape : (w : World) (at : At) (f : EndState → EndState) (o : Option EndState) → HasShape w → HasShape (changed_by w at f o)
changed_shape w at f None is = is
changed_shape w at f (Some e) is = with_end_shape w at (f e) is

sent_shape : (w : World) (at : At) (s : _) (rest : Rest) (o : Option EndState) → HasShape w → HasShape (sent_by w at s rest o)
sent_shape w at s rest None is = is
sent_shape w at s rest (Some e) is = is

aborted_shape : (w : World) (at : At) (rest : Rest) (o : Option EndState) → HasShape w → HasShape (aborted_by w at rest o)
aborted_shape w at rest None is = is
aborted_shape w at rest (Some e) is = with_end_shape w at (Rattle.tcp_end.specs.EndState.dead_end e) is

state_none : (o : Option ServerEnd) → option_map (λ s. s.state) o ≡ None → o ≡ None
state_none None is = refl
state_none (Some s) is = absurd (none-some s.state (sym is))

received_shape : (w : World) (at : At) (n : ℕ) (isn : _) (x : Posted) (o : Option EndState) → end_at w at ≡ o → HasShape w → HasShape (received_at w at n isn x.segment o)
received_shape w (Client k) n isn x None none is = is
received_shape w (Server v p) n isn x None none is = record {
  good = is.good;
  end_count = is.end_count;
  shard_count = is.shard_count;
  own = is.own;
  apart = apart_more v p w.servers (record { server = v; port = p; maker = n; state = made_end isn x.segment.head.seq }) refl refl (state_none (end_of_server w v p) none) is.apart;
}
received_shape w at n isn x (Some e) none is = with_end_shape w at (taken e x.segment.head x.segment.body) is

receives_shape : (w : World) (at : At) (n : ℕ) (isn : _) (o : Option Posted) → HasShape w → HasShape (received w at n isn o)
receives_shape w at n isn None is = is
receives_shape w at n isn (Some x) is = received_shape w at n isn x (end_at w at) refl is

refuses_shape : (w : World) (v p : ℕ) (rest : Rest) (o : Option Posted) → HasShape w → HasShape (refused w v p rest o)
refuses_shape w v p rest None is = is
refuses_shape w v p rest (Some x) is = is

-- the shard there
pub the_shard : (w : World) (g : ℕ) → HasShape w → g < w.setup.shards → (s : Shard) × (slice_get w.shards g ≡ Some s) × (shard_at w g ≡ s) × IsShard w.setup g s
the_shard w g is below =
    let got = got_within w.shards g (subst (λ (n : ℕ). g < n) (sym is.shard_count) below) in
    (got.0, got.1, ap (λ (o : Option Shard). unwrap_or o (no_shard w.setup)) got.1, is.own g got.0 got.1)

pub called_shape : (w : World) (g : ℕ) (taken : List (Option ℕ)) (c : Call) → length taken ≡ length (shard_at w g).taken → HasShape w → HasShape (called w g taken c)
called_shape w g taken c long is = record {
  good = is.good;
  end_count = is.end_count;
  shard_count = set_long w.shards g (record { bench = (served (bench_at w g) c).0; taken = taken }) ∙ is.shard_count;
  own = set_shards w.setup w.shards g (record { bench = (served (bench_at w g) c).0; taken = taken }) is.own
      (λ within. let it = the_shard w g is (subst (λ (n : ℕ). g < n) is.shard_count within) in
      is_called w.setup g (shard_at w g) taken c long (subst (λ (s : Shard). IsShard w.setup g s) (sym it.2) it.3));
  apart = is.apart;
}

took_shape : (w : World) (i item n : ℕ) (o : Option Posted) → HasShape w → HasShape (took w i item n o)
took_shape w i item n None is = is
took_shape w i item n (Some x) is =
    let g = home w.setup (aim_of w.setup x.segment) in
    called_shape w g (slice_set (shard_at w g).taken i (Some n)) (take_call w i item x.segment) (set_long (shard_at w g).taken i (Some n)) is

pub after_shape : (w : World) (e : WorldEvent) → HasShape w → HasShape (after w e)
after_shape w (opens k) is = with_end_shape w (Client k) _ is
after_shape w (writes at bytes) is = changed_shape w at (λ d. written_more d bytes) (end_at w at) is
after_shape w (closes at) is = changed_shape w at closed_end (end_at w at) is
after_shape w (sends at s rest) is = sent_shape w at s rest (end_at w at) is
after_shape w (aborts at rest) is = aborted_shape w at rest (end_at w at) is
after_shape w (receives at n isn) is = receives_shape w at n isn (slice_get w.sent n) is
after_shape w (refuses v p n rest) is = refuses_shape w v p rest (slice_get w.sent n) is
after_shape w (strays s) is = is
after_shape w (takes i item n) is = took_shape w i item n (slice_get w.sent n) is
after_shape w (calls g c) is = called_shape w g (shard_at w g).taken c refl is

pub all_shape : (events : List WorldEvent) (w : World) → HasShape w → HasShape (after_all w events)
all_shape [] w is = is
all_shape (e ∷ events) w is = all_shape events (after w e) (after_shape w e is)

pub start_shape : (setup : SetupView) (clients : List ClientSpec) → IsSetup setup → HasShape (start setup clients)
start_shape setup clients good = record {
  good = good;
  end_count = length-replicate (length clients) None;
  shard_count = map_long (first_shard setup) (range_with_len 0 setup.shards) ∙ range_long 0 setup.shards;
  own = λ g s is.
      let below : g < setup.shards = subst (λ (n : ℕ). g < n) (map_long (first_shard setup) (range_with_len 0 setup.shards) ∙ range_long 0 setup.shards) (get_within _ g s is) in
      let at : slice_get (map (first_shard setup) (range_with_len 0 setup.shards)) g ≡ Some (first_shard setup g) = map_at (first_shard setup) (range_with_len 0 setup.shards) g g (range_at 0 setup.shards g below ∙ ap (λ (x : ℕ). Some x) (omega arith)) in
      subst (λ (x : Shard). IsShard setup g x) (same_Some (first_shard setup g) s (sym at ∙ is))
      (record { setup_is = refl; shard_is = refl; places = length-replicate setup.instances None });
  apart = tt;
}

pub reached_shape : (w : World) → IsReached w → HasShape w
reached_shape w r = subst HasShape (sym r.is) (all_shape r.events (start w.setup w.clients) (start_shape w.setup w.clients r.good))
