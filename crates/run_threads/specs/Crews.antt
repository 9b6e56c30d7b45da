-- A worker's crew: a seat at the lock of each shard's bench.
use Rattle.std.specs.Prelude.{◌≡◌, ℕ, ◌<◌, List, length, slice_index_or}
use Rattle.bench.specs.Histories.{opening}
use Rattle.rule_table.specs.Setups.{SetupView}
use Rattle.run_threads.specs.Answered.{Answer}
use Rattle.bench.specs.Blocks.{CallAt, history}
use Rattle.run_threads.specs.Answered.{calls_in}
use Rattle.run_threads.specs.Seats.{BenchLock, BenchSeat, IsAt, Adds}

-- a seat of the lock of this shard's new bench
pub record IsMember (setup : SetupView) (shard : ℕ) (lock : BenchLock) (s : BenchSeat) : Type 0 where
  pub first : lock.first ≡ opening setup shard
  pub at : IsAt lock s

-- a lock for each shard, and a seat of each of them
pub record IsCrew (setup : SetupView) (locks : List BenchLock) (seats : List BenchSeat) : Type 0 where
  pub lock_count : length locks ≡ setup.shards
  pub seat_count : length seats ≡ setup.shards
  pub each : (shard : ℕ) (l : BenchLock) (s : BenchSeat) → shard < setup.shards → IsMember setup shard (slice_index_or locks shard l) (slice_index_or seats shard s)

-- the seat has made calls of which this holds
pub record Does (lock : BenchLock) (old new : BenchSeat) (what : List Answer → Type 0) : Type 0 where
  pub answers : List Answer
  pub adds : Adds lock old new answers
  pub are : what answers

-- so has each seat of the crew, on its shard
pub record CrewDoes (locks : List BenchLock) (old new : List BenchSeat) (what : ℕ → List Answer → Type 0) : Type 0 where
  pub count : length new ≡ length old
  pub each : (shard : ℕ) (l : BenchLock) (s : BenchSeat) → shard < length locks
      → Does (slice_index_or locks shard l) (slice_index_or old shard s) (slice_index_or new shard s) (what shard)

-- the crew has made these calls
abbrev pub CrewMakes : List BenchLock → List BenchSeat → List BenchSeat → List CallAt → Type 0
CrewMakes locks old new calls = CrewDoes locks old new (λ shard answers. calls_in answers ≡ history shard calls)
