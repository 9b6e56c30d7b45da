use Rattle.std.proofs.Common.{arith, length}
use Rattle.std.proofs.lemmas.Grind.{common_steps}
use Rattle.server_hand.specs.Opening.{opening_ack}
use Rattle.server_hand.proofs.Pieces.{piece_begins_within, sent_before_next}
use Rattle.server_hand.proofs.handshake.opening.Goals as goal

pub piece_of-requires-clause-within : goal.piece_of-requires-clause-within
piece_of-requires-clause-within c =
    piece_begins_within c.size_of_pieces-size.result (length c.args.held.now) c.loop-i.i c.size_of_pieces-size.ensures.some (grind arith)

pub loop-i-preserved : goal.loop-i-preserved
loop-i-preserved c =
    let next = sent_before_next (opening_ack c.args.setup.now c.args.syn.now c.args.opened.now) c.size_of_pieces-size.result c.args.held.now c.min-count.result c.loop-i.i in
    (grind (arith, common_steps, next), grind (arith, common_steps))
