-- Laws of candidate ports, and of the comparison of flows and keys.
use Rattle.std.specs.Prelude.{◌≡◌, ◌≢◌, ◌↔◌, ℕ, ◌<◌, ◌≤◌, true}
use Rattle.flow_id.specs.Keys.{same_flow, same_key}
use Rattle.flow_id.specs.Ports.{IsShardCount, shard_of_port, candidate_port}
use Rattle.flow_id.specs.declared.key.Flow.{Flow}
use Rattle.flow_id.specs.declared.key.Key.{Key}

-- a candidate is a port between 1024 and 65535
abbrev pub InRange : Type 0
InRange =
    (first shard shards i : ℕ) → IsShardCount shards → shard < shards
    → (1024 ≤ candidate_port first shard shards i) × (candidate_port first shard shards i ≤ 65535)

-- it is a port of its shard
abbrev pub OfItsShard : Type 0
OfItsShard =
    (first shard shards i : ℕ) → IsShardCount shards → shard < shards
    → shard_of_port (candidate_port first shard shards i) shards ≡ shard

-- the eight candidates of a flow differ
abbrev pub Differ : Type 0
Differ =
    (first shard shards i j : ℕ) → IsShardCount shards → i < j → j < 8
    → candidate_port first shard shards i ≢ candidate_port first shard shards j

-- flows that agree in each field are one flow
abbrev pub OneFlow : Type 0
OneFlow = (a b : Flow) → (same_flow a b ≡ true) ↔ (a ≡ b)

-- keys of one kind that agree in each field are one key
abbrev pub OneKey : Type 0
OneKey = (a b : Key) → (same_key a b ≡ true) ↔ (a ≡ b)
