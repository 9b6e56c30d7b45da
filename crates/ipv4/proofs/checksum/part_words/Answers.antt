use Rattle.std.proofs.Common.{arith}
use Rattle.std.proofs.lemmas.Grind.{common_steps}
use Rattle.ipv4.proofs.Ones.{ones-four}
use Rattle.ipv4.proofs.checksum.part_words.Goals as goal

pub loop-rest-preserved : goal.loop-rest-preserved
loop-rest-preserved c = (
  grind (arith, common_steps, c.loop-rest.invariant.0, c.from_be_bytes.type_inv, c.in-len4-up.len_at_least),
  λ more.
      let read = ones-four c.loop-rest.total c.from_be_bytes.result more c.loop-rest.rest.now c.in-len4-up.len_at_least c.from_be_bytes.ensures in
      grind (arith, common_steps, read, c.loop-rest.invariant.1 more),
)
