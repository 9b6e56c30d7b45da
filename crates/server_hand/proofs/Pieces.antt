-- The pieces that are sent of what is held.
use Rattle.std.proofs.Common.{◌≡◌, ℕ, ◌<◌, ◌≤◌, ◌+◌, ◌*◌, List, ◌∷◌, ◌++◌, [], map, arith}
use Rattle.std.specs.List.{range_with_len}
use Rattle.std.specs.Int.{div_ceil}
use Rattle.std.proofs.Math.Nat.{mul-le-mul_right}
use Rattle.std.proofs.lemmas.Grind.{div_ceil_times}
use Rattle.std.proofs.lemmas.List.FromFn.{map-range_with_len_more}
use Rattle.tcp_segment.specs.declared.segment.Segment.{Segment}
use Rattle.server_hand.specs.Opening.{piece_count, piece_segment}

-- each piece begins before the end
pub piece_begins_within : (size n i : ℕ) → 0 < size → i < piece_count size n → i * size < n
piece_begins_within size n i some inside =
    let bounds = div_ceil_times n size some in
    let whole : (i + 1) * size ≤ div_ceil n size * size = mul-le-mul_right size (let h : i + 1 ≤ div_ceil n size = omega arith in h) in
    grind arith

abbrev pub sent_before : Segment → ℕ → List ℕ → ℕ → ℕ → List Segment
sent_before ack size held count i = map (piece_segment ack size held count) (range_with_len 0 i)

-- one piece more
pub sent_before_next : (ack : Segment) (size : ℕ) (held : List ℕ) (count i : ℕ)
    → sent_before ack size held count (i + 1) ≡ sent_before ack size held count i ++ piece_segment ack size held count i ∷ []
sent_before_next ack size held count i = map-range_with_len_more (piece_segment ack size held count) 0 i i (omega arith)
