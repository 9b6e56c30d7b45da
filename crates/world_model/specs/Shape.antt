-- How many ends and shards a world has, and whose its shards are.
use Rattle.std.specs.Prelude.{◌≡◌, ℕ, Option, Some, List, length, slice_get}
use Rattle.rule_table.specs.Setups.{SetupView, IsSetup}
use Rattle.tcp_end.specs.EndState.{EndState}
use Rattle.world_model.specs.declared.client.ClientSpec.{ClientSpec}
use Rattle.world_model.specs.World.{World, Shard, ServerEnd, AreApart}

pub record IsShard (setup : SetupView) (g : ℕ) (s : Shard) : Type 0 where
  pub setup_is : s.bench.setup ≡ setup
  pub shard_is : s.bench.shard ≡ g
  pub places : length s.taken ≡ setup.instances

pub record Shape (setup : SetupView) (clients : List ClientSpec) (ends : List (Option EndState)) (servers : List ServerEnd) (shards : List Shard) : Type 0 where
  pub good : IsSetup setup
  pub end_count : length ends ≡ length clients
  pub shard_count : length shards ≡ setup.shards
  pub own : (g : ℕ) (s : Shard) → slice_get shards g ≡ Some s → IsShard setup g s
  pub apart : AreApart servers

abbrev pub HasShape : World → Type 0
HasShape w = Shape w.setup w.clients w.ends w.servers w.shards
