-- A moved edge names the same position.
use Rattle.std.proofs.Common.{◌≡◌, ◌<◌, ℕ, ◌^◌, List, [], ◌∷◌, arith}
use Rattle.seq_space.specs.Positions.{number_of, IsNear}
use Rattle.std.specs.List.{AllByRecursion}
use Rattle.seq_space.specs.declared.Num.{Num}
use Rattle.seq_space.specs.Blocks.{FitsBlock}
use Rattle.sack_opt.specs.Moves.{moved, moved_blocks, AreSameBlocks, IsSameEdge, MovesKeepPositions}

forth : (from to e p : ℕ) → number_of from p ≡ e → number_of to p ≡ moved from to e
forth from to e p is = omega (arith, is)

back : (from to e p : ℕ) → e < 2 ^ 32 → number_of to p ≡ moved from to e → number_of from p ≡ e
back from to e p small is = omega (arith, is, small)

same-edge : (from to e : ℕ) → e < 2 ^ 32 → IsSameEdge from to (record { 0 = e }) (record { 0 = moved from to e })
same-edge from to e small around p = (
  (λ (near : IsNear e from around p). record { numbered = forth from to e p near.numbered; below = near.below; above = near.above }),
  (λ (near : IsNear (moved from to e) to around p). record { numbered = back from to e p small near.numbered; below = near.below; above = near.above }),
)

same-blocks : (from to : ℕ) (blocks : List (Num × Num)) → AllByRecursion FitsBlock blocks → AreSameBlocks from to blocks (moved_blocks from to blocks)
same-blocks from to [] fits = tt
same-blocks from to ((l, r) ∷ blocks) fits = ((same-edge from to l.0 fits.0.0, same-edge from to r.0 fits.0.1), same-blocks from to blocks fits.1)

pub keep-positions : MovesKeepPositions
keep-positions from to blocks fits = same-blocks from to blocks fits.each
