use Rattle.std.proofs.Common.{◌≡◌, ◌+◌, sum, length}
use Rattle.ipv4.specs.Checksum.{words, ones}
use Rattle.ipv4.proofs.checksum.add_words.Given as goal

abbrev pub invariant-loop-rest : goal.invariant-loop-rest
invariant-loop-rest l = ones (l.wide + sum (words l.rest)) ≡ ones (l.fn.total + sum (words l.bytes))

abbrev pub decreases-loop-rest : goal.decreases-loop-rest
decreases-loop-rest l = length l.rest
