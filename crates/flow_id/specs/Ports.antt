-- Shards, and the ports from which the balancer opens connections to servers.
use Rattle.std.specs.Prelude.{ℕ, ◌+◌, ◌*◌, ◌/◌, ◌%◌, ◌==◌, ◌||◌, IsTrue}
use Rattle.flow_id.specs.declared.key.Flow.{Flow}

-- a number of shards: a power of two up to 64
abbrev pub IsShardCount : ℕ → Type 0
IsShardCount n = IsTrue (n == 1 || n == 2 || n == 4 || n == 8 || n == 16 || n == 32 || n == 64)

-- the shard that holds the records of a flow
abbrev pub shard_of : Flow → ℕ → ℕ
shard_of flow shards = (flow.address + flow.port) % shards

-- the shard that holds the records of a source port
abbrev pub shard_of_port : ℕ → ℕ → ℕ
shard_of_port port shards = port % shards

-- candidate i of a shard: of the shard's ports from 1024 on, the one i places behind that at which the flow's marks begin
abbrev pub candidate_port : ℕ → ℕ → ℕ → ℕ → ℕ
candidate_port first shard shards i = 1024 + shard + shards * ((first + i) % (64512 / shards))
