-- Blocks of a stream by the numbers at their edges: at most four.
use Rattle.std.specs.Prelude.{ℕ, ◌-◌, ◌<◌, ◌≤◌, ◌^◌, List, length, replicate}
use Rattle.std.specs.List.{AllByRecursion}
use Rattle.seq_space.specs.declared.Num.{Num}

-- what stands in the places of an array of four that has n blocks
abbrev pub unused : ℕ → List (Num × Num)
unused n = replicate (4 - n) (record { 0 = 0 }, record { 0 = 0 })

-- a block's edges are numbers of 32 bits
abbrev pub FitsBlock : Num × Num → Type 0
FitsBlock block = (block.0.0 < 2 ^ 32) × (block.1.0 < 2 ^ 32)

-- at most four blocks, each of which fits
pub record FitsBlocks (blocks : List (Num × Num)) : Type 0 where
  pub few : length blocks ≤ 4
  pub each : AllByRecursion FitsBlock blocks
