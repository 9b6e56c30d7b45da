-- Blocks of selective acknowledgments (RFC 2018, 3) between the two connections of a flow, whose streams have the same
-- positions and other numbers.
use Rattle.std.specs.Prelude.{ℕ, ◌%◌, ◌^◌, List, [], ◌∷◌, map}
use Rattle.seq_space.specs.declared.Num.{Num}
use Rattle.seq_space.specs.Blocks.{FitsBlocks}
use Rattle.seq_space.specs.Positions.{number_of, difference, IsNear}

-- the number that is as far ahead of `to` as n is of `from`: n - from + to, modulo 2 ^ 32
abbrev pub moved : ℕ → ℕ → ℕ → ℕ
moved from to n = number_of to (difference n (from % 2 ^ 32))

abbrev pub moved_block : ℕ → ℕ → Num × Num → Num × Num
moved_block from to block = (record { 0 = moved from to block.0.0 }, record { 0 = moved from to block.1.0 })

-- the blocks in a stream whose first number is `to`, in place of `from`
abbrev pub moved_blocks : ℕ → ℕ → List (Num × Num) → List (Num × Num)
moved_blocks from to blocks = map (moved_block from to) blocks

-- ---- what an edge names

-- Near every position an edge of a stream with the first number `from` names the same position as another edge does of a
-- stream with the first number `to`, or neither names any.
abbrev pub IsSameEdge : ℕ → ℕ → Num → Num → Type 0
IsSameEdge from to e f = (around p : ℕ) → (IsNear e.0 from around p → IsNear f.0 to around p) × (IsNear f.0 to around p → IsNear e.0 from around p)

abbrev pub IsSameBlock : ℕ → ℕ → Num × Num → Num × Num → Type 0
IsSameBlock from to b c = IsSameEdge from to b.0 c.0 × IsSameEdge from to b.1 c.1

-- as many blocks in the same order, each with the same positions
abbrev pub AreSameBlocks : ℕ → ℕ → List (Num × Num) → List (Num × Num) → Type 0
AreSameBlocks from to [] [] = Unit {0}
AreSameBlocks from to [] (c ∷ cs) = ⊥
AreSameBlocks from to (b ∷ bs) [] = ⊥
AreSameBlocks from to (b ∷ bs) (c ∷ cs) = IsSameBlock from to b c × AreSameBlocks from to bs cs

-- a law: blocks that are moved keep their order and name the same positions
abbrev pub MovesKeepPositions : Type 0
MovesKeepPositions = (from to : ℕ) (blocks : List (Num × Num)) → FitsBlocks blocks → AreSameBlocks from to blocks (moved_blocks from to blocks)
