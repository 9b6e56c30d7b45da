use Rattle.std.proofs.Common.{◌+◌, ◌^◌, drop, sum, arith}
use Rattle.std.proofs.lemmas.Grind.{common_steps}
use Rattle.ipv4.specs.Checksum.{words}
use Rattle.ipv4.proofs.Ones.{sum-split}
use Rattle.ipv4.proofs.checksum.add_words.Goals as goal

pub loop-rest-preserved : goal.loop-rest-preserved
loop-rest-preserved c =
    let behind = sum (words (drop (2 ^ 16) c.loop-rest.rest.now)) in
    let added = c.add_around-wide.ensures behind in
    let part = c.part_words.ensures (c.loop-rest.wide + behind) in
    let split = sum-split (2 ^ 15) c.loop-rest.rest.now in
    grind (arith, common_steps, added, part, split)

pub returns : goal.returns
returns c =
    let added = c.add_around.ensures 0 in
    let part = c.part_words-2.ensures c.loop-rest.wide in
    grind (arith, common_steps, added, part)
