-- The invariant at the beginning.
use Rattle.std.proofs.Common.{◌≡◌, ℕ, zero, suc, ◌+◌, ◌<◌, Option, Some, None, List, [], ◌∷◌, ◌++◌, length, map, replicate, refl, sym, ◌∙◌, ap, subst, arith}
use Rattle.std.specs.Prelude.{slice_get, option_and_then, unwrap_or}
use Rattle.std.specs.List.{range_with_len}
use Rattle.std.proofs.lemmas.List.{length-replicate}
use Rattle.std.proofs.lemmas.Option.{none-some, same_Some}
use Rattle.flow_id.specs.declared.key.Flow.{Flow}
use Rattle.rule_table.specs.Setups.{SetupView, IsSetup}
use Rattle.tcp_end.specs.EndState.{EndState}
use Rattle.tcp_end.specs.Streams.{IsPrefix}
use Rattle.bench.specs.Bench.{empty_desk, desk_at, job_at, held_of}
use Rattle.bench.proofs.Histories.{no_jobs}
use Rattle.world_model.specs.declared.client.ClientSpec.{ClientSpec}
use Rattle.world_model.specs.Clients.{AreClients}
use Rattle.world_model.specs.World.{Shard, start, first_shard, no_shard, shard_at, end_of_client}
use Rattle.world_model.proofs.Invariant.{Inv}

-- ---- lists
pub range_at : (from n g : ℕ) → g < n → slice_get (range_with_len from n) g ≡ Some (from + g)
range_at from zero g below = absurd (omega arith)
range_at from (suc n) zero below = ap (λ (x : ℕ). Some x) (omega arith)
range_at from (suc n) (suc g) below = range_at (from + 1) n g (omega arith) ∙ ap (λ (x : ℕ). Some x) (omega arith)

pub map_at : {X Y : Type 0} (f : X → Y) (xs : List X) (n : ℕ) (x : X) → slice_get xs n ≡ Some x → slice_get (map f xs) n ≡ Some (f x)
map_at f [] n x is = absurd (none-some x is)
map_at f (y ∷ xs) zero x is = ap (λ z. Some (f z)) (same_Some y x is)
map_at f (y ∷ xs) (suc n) x is = map_at f xs n x is

pub map_long : {X Y : Type 0} (f : X → Y) (xs : List X) → length (map f xs) ≡ length xs
map_long f [] = refl
map_long f (x ∷ xs) = ap suc (map_long f xs)

pub range_long : (from n : ℕ) → length (range_with_len from n) ≡ n
range_long from zero = refl
range_long from (suc n) = ap suc (range_long (from + 1) n)

range_more : (f : ℕ → Shard) (from n : ℕ) → map f (range_with_len from (suc n)) ≡ map f (range_with_len from n) ++ f (from + n) ∷ []
range_more f from zero = ap (λ (x : ℕ). f x ∷ []) (omega arith)
range_more f from (suc n) = ap (λ (xs : List Shard). f from ∷ xs) (range_more f (from + 1) n ∙ ap (λ (x : ℕ). map f (range_with_len (from + 1) n) ++ f x ∷ []) (omega arith))

-- one shard more
pub shard_more : (f : ℕ → Shard) (n : ℕ) → map f (range_with_len 0 (n + 1)) ≡ map f (range_with_len 0 n) ++ f n ∷ []
shard_more f n =
    let next : n + 1 ≡ suc n = omega arith in
    ap (λ (x : ℕ). map f (range_with_len 0 x)) next ∙ range_more f 0 n ∙ ap (λ (x : ℕ). map f (range_with_len 0 n) ++ f x ∷ []) (omega arith)

none_open : (n k : ℕ) (e : EndState) → option_and_then (λ o. o) (slice_get (replicate n None) k) ≡ Some e → ⊥
none_open zero k e is = none-some e is
none_open (suc n) zero e is = none-some e is
none_open (suc n) (suc k) e is = none_open n k e is

nothing_held : (n i : ℕ) (flow : Flow) → held_of (desk_at (replicate n empty_desk) i).held flow ≡ []
nothing_held n i flow = by n i
  where
    by : (n i : ℕ) → held_of (desk_at (replicate n empty_desk) i).held flow ≡ []
    by zero i = refl
    by (suc n) zero = refl
    by (suc n) (suc i) = by n i

module _ (setup : SetupView) (clients : List ClientSpec) (good : IsSetup setup) (apart : AreClients setup clients) where
  shard_is : (g : ℕ) → g < setup.shards → slice_get (start setup clients).shards g ≡ Some (first_shard setup g)
  shard_is g below = map_at (first_shard setup) (range_with_len 0 setup.shards) g g (range_at 0 setup.shards g below ∙ ap (λ (x : ℕ). Some x) (omega arith))

  at_first : (g : ℕ) → g < setup.shards → shard_at (start setup clients) g ≡ first_shard setup g
  at_first g below = ap (λ (o : Option Shard). unwrap_or o (no_shard setup)) (shard_is g below)

  pub begins : Inv (start setup clients) (λ g. [])
  begins = record {
    good = good;
    apart = apart;
    end_count = length-replicate (length clients) None;
    shard_count = map_long (first_shard setup) (range_with_len 0 setup.shards) ∙ range_long 0 setup.shards;
    sent = λ n x is. absurd (none-some x is);
    client = λ k e is. absurd (none_open (length clients) k e is);
    server = λ v p s is. absurd (none-some s is);
    shard = λ g below. record {
      are = tt;
      bench = ap (λ (s : Shard). s.bench) (at_first g below);
      proposals = λ k r p. absurd p;
      places = ap (λ (s : Shard). length s.taken) (at_first g below) ∙ length-replicate setup.instances None;
      jobs = λ i job here. absurd (no_jobs (λ j x. ⊥) setup.instances i job (subst (λ (s : Shard). job_at s.bench.desks i ≡ Some job) (at_first g below) here));
      held = λ i k client is.
          let none = ap (λ (s : Shard). held_of (desk_at s.bench.desks i).held (Rattle.world_model.specs.Clients.flow_of setup client)) (at_first g below) ∙ nothing_held setup.instances i (Rattle.world_model.specs.Clients.flow_of setup client) in
          subst (λ (b : List ℕ). IsPrefix b (Rattle.world_model.specs.Streams.written_by (end_of_client (start setup clients) k))) (sym none) refl;
    };
  }
