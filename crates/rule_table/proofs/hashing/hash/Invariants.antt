use Rattle.std.proofs.Common.{◌≡◌, drop}
use Rattle.rule_table.specs.Hash.{hash_of, hash_from}
use Rattle.rule_table.proofs.hashing.hash.Given as goal

abbrev pub invariant-loop-byte : goal.invariant-loop-byte
invariant-loop-byte l = hash_of l.fn.bytes ≡ hash_from l.hash (drop l.byte-index l.fn.bytes)
