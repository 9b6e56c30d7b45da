use Rattle.std.proofs.Common.{◌≡◌, ◌+◌, ◌∷◌, vec_len}
use Rattle.server_hand.specs.Opening.{opening_ack}
use Rattle.server_hand.proofs.Pieces.{sent_before}
use Rattle.server_hand.proofs.handshake.opening.Given as goal

abbrev pub invariant-loop-i : goal.invariant-loop-i
invariant-loop-i l =
    let ack = opening_ack l.setup l.syn l.opened in
    (l.items.items ≡ ack ∷ sent_before ack l.size l.held l.count l.i) × (vec_len l.items ≡ l.i + 1)
