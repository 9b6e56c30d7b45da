use Rattle.std.proofs.Common.{◌≡◌, ◌≤◌, ℕ, ◌+◌, ◌*◌, ◌^◌, sum, length}
use Rattle.ipv4.specs.Checksum.{words, ones}
use Rattle.ipv4.proofs.checksum.part_words.Given as goal

abbrev pub invariant-loop-rest : goal.invariant-loop-rest
invariant-loop-rest l =
    (l.total + 2 ^ 30 * length l.rest ≤ 2 ^ 46) × ((more : ℕ) → ones (l.total + sum (words l.rest) + more) ≡ ones (sum (words l.bytes) + more))

abbrev pub decreases-loop-rest : goal.decreases-loop-rest
decreases-loop-rest l = length l.rest
