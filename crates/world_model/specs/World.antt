-- The world: the ends of the connections, the shards of the balancer between them, and all segments that were ever sent.
use Rattle.std.specs.Prelude.{◌≡◌, ℕ, ◌&&◌, ◌==◌, Bool, Option, Some, None, List, [], ◌∷◌, map, find, replicate, slice_get, slice_set, length, option_map, option_and_then, unwrap_or, if◌then◌else◌}
use Rattle.std.specs.List.{range_with_len}
use Rattle.bench.specs.Bench.{BenchState}
use Rattle.bench.specs.Histories.{opening}
use Rattle.rule_table.specs.Setups.{SetupView}
use Rattle.tcp_end.specs.EndState.{EndState}
use Rattle.world_model.specs.declared.at.At.{At}
use Rattle.world_model.specs.declared.at.At.TheVariants.{Client, Server}
use Rattle.world_model.specs.declared.client.ClientSpec.{ClientSpec}
use Rattle.world_model.specs.Posted.{Posted}
pub use Rattle.world_model.specs.declared.server_end.ServerEnd.{ServerEnd}

-- a shard's bench, and for each instance the index of the segment that it took last
pub record Shard : Type 0 where
  pub bench : BenchState
  pub taken : List (Option ℕ)

-- `ends` has for each client its end, once it has opened; `servers` and `sent` are in the order in which they were made
pub record World : Type 0 where
  pub setup : SetupView
  pub clients : List ClientSpec
  pub ends : List (Option EndState)
  pub servers : List ServerEnd
  pub shards : List Shard
  pub sent : List Posted

-- ---- the beginning
abbrev pub first_shard : SetupView → ℕ → Shard
first_shard setup g = record { bench = opening setup g; taken = replicate setup.instances None }

abbrev pub start : SetupView → List ClientSpec → World
start setup clients = record {
  setup = setup;
  clients = clients;
  ends = replicate (length clients) None;
  servers = [];
  shards = map (first_shard setup) (range_with_len 0 setup.shards);
  sent = [];
}

-- ---- ends
abbrev pub is_end : ℕ → ℕ → ServerEnd → Bool
is_end server port s = s.server == server && s.port == port

abbrev pub end_of_server : World → ℕ → ℕ → Option ServerEnd
end_of_server w server port = find (is_end server port) w.servers

abbrev pub end_of_client : World → ℕ → Option EndState
end_of_client w k = option_and_then (λ e. e) (slice_get w.ends k)

-- the end there, once it has opened or was made
abbrev pub end_at : World → At → Option EndState
end_at w (Client k) = end_of_client w k
end_at w (Server server port) = option_map (λ s. s.state) (end_of_server w server port)

-- no two ends are of the same server and port
abbrev pub AreApart : List ServerEnd → Type 0
AreApart [] = Unit {0}
AreApart (s ∷ servers) = (find (is_end s.server s.port) servers ≡ None) × AreApart servers

-- with this state in place of that of the end there
abbrev pub with_end : World → At → EndState → World
with_end w (Client k) e = record w { ends = slice_set w.ends k (Some e) }
with_end w (Server server port) e = record w { servers = map (λ s. if is_end server port s then record s { state = e } else s) w.servers }

-- ---- shards
abbrev pub shard_at : World → ℕ → Shard
shard_at w g = unwrap_or (slice_get w.shards g) (first_shard w.setup 0)

abbrev pub bench_at : World → ℕ → BenchState
bench_at w g = (shard_at w g).bench

-- ---- words for parts of these, for the code and the proofs
abbrev pub with_server_end : List ServerEnd → ℕ → ℕ → EndState → List ServerEnd
with_server_end servers server port e = map (λ s. if is_end server port s then record s { state = e } else s) servers

abbrev pub no_shard : SetupView → Shard
no_shard setup = first_shard setup 0
