use Rattle.std.proofs.Common.{◌≡◌, ◌≤◌, ◌<◌, ◌+◌, ◌*◌, sum, length}
use Rattle.ipv4.specs.Checksum.{words}
use Rattle.ipv4.proofs.checksum.few_words.Given as goal

abbrev pub invariant-loop-rest : goal.invariant-loop-rest
invariant-loop-rest l =
    (l.total + 65535 * length l.rest ≤ 65535 * 4) × (length l.rest < 4) × (l.total + sum (words l.rest) ≡ sum (words l.bytes))

abbrev pub decreases-loop-rest : goal.decreases-loop-rest
decreases-loop-rest l = length l.rest
