-- What stands in the segments by which a connection to a server is opened.
use Rattle.std.proofs.Common.{◌≡◌, ◌∙◌, ℕ, zero, suc, ◌<◌, ◌≤◌, ◌+◌, ◌-◌, ◌*◌, min, List, [], ◌∷◌, ◌++◌, length, take, drop, slice_get, Option, Some, None, refl, sym, ap, subst, arith, inl, inr}
use Rattle.std.specs.List.{flat_map}
use Rattle.std.specs.Int.{div_ceil}
use Rattle.std.proofs.Math.Numerals.{add-one, suc-eq-add-one}
use Rattle.std.proofs.Math.Nat.{mul-le-mul_right}
use Rattle.std.proofs.Math.Seq.{take-add}
use Rattle.std.proofs.lemmas.Bool.{cases_lt}
use Rattle.std.proofs.lemmas.Grind.{div_ceil_times, flat_map-append}
use Rattle.std.proofs.lemmas.List.{append-nil, length-take, length-drop, take_min, take_all}
use Rattle.std.proofs.lemmas.List.FromFn.{length-map-range_with_len, get_or-map-range_with_len}
use Rattle.std.proofs.lemmas.Option.{slice_get_within, get_or_from_slice_get}
use Rattle.seq_space.specs.Positions.{number_of}
use Rattle.flow_record.specs.declared.record.Record.{Record}
use Rattle.flow_record.specs.Records.{syn_number, syn_window}
use Rattle.window_scale.specs.Windows.{IsGreatest, counted, restated}
use Rattle.window_scale.proofs.Greatest.{told-greatest}
use Rattle.tcp_segment.specs.declared.segment.Segment.{Segment}
use Rattle.rule_table.specs.Setups.{SetupView}
use Rattle.server_hand.specs.Opening.{server_shift, opening_ack, piece_size, piece_count, piece_segment, opening_pieces, opening_segments, IsOpeningAck, IsPiece, AnswersServer, OpeningNumbers}
use Rattle.server_hand.proofs.Pieces.{piece_begins_within, sent_before, sent_before_next}

-- a piece has at least one byte
piece_size_some : (mss : Option ℕ) → 0 < piece_size mss
piece_size_some None = omega arith
piece_size_some (Some mss) = omega arith

-- a place behind position 1
behind_first : (c n : ℕ) → number_of (number_of c 1) n ≡ number_of c (1 + n)
behind_first c n = omega arith

-- the server is told of the window of the client's SYN, which is not shifted, as much as it counts
window_is_told : (syn opened : Record) → IsGreatest (restated (syn_window syn) 0 (server_shift syn opened)) (server_shift syn opened) (syn_window syn)
window_is_told syn opened =
    let reads = server_shift syn opened in
    let whole : counted (syn_window syn) 0 ≡ syn_window syn = omega arith in
    subst (IsGreatest (restated (syn_window syn) 0 reads) reads) whole (told-greatest (counted (syn_window syn) 0) reads)

opening_ack_is : (setup : SetupView) (syn opened : Record) → IsOpeningAck setup syn opened (opening_ack setup syn opened)
unfolding opening_ack
opening_ack_is setup syn opened = record {
  stands = record {
    source = refl;
    source_port = refl;
    target = refl;
    target_port = refl;
    seq = refl;
    ack = refl;
    window = window_is_told syn opened;
  };
  flags = refl;
  body = refl;
}

piece_is : (setup : SetupView) (syn opened : Record) (size : ℕ) (held : List ℕ) (count i : ℕ) → 0 < size → i * size < length held
    → IsPiece setup syn opened size held count i (piece_segment (opening_ack setup syn opened) size held count i)
unfolding opening_ack piece_segment
piece_is setup syn opened size held count i some begins =
    let rest = drop (i * size) held in
    let left : length rest ≡ length held - i * size = length-drop (i * size) held in
    let long : length (take size rest) ≡ min size (length rest) = length-take size rest in
    record {
      stands = record {
        source = refl;
        source_port = refl;
        target = refl;
        target_port = refl;
        seq = behind_first (syn_number syn) (i * size);
        ack = refl;
        window = window_is_told syn opened;
      };
      flags = refl;
      part = sym (ap (λ n. take n rest) long ∙ take_min size rest);
      some = omega (arith, left, long);
      few = omega (arith, long);
      within = omega (arith, left, long);
    }

-- the data of the first k pieces
body_of_pieces : (ack : Segment) (size : ℕ) (held : List ℕ) (count k : ℕ)
    → flat_map (λ s. s.body) (sent_before ack size held count k) ≡ take (k * size) held
unfolding piece_segment
body_of_pieces ack size held count zero =
    let nothing : 0 ≡ 0 * size = omega arith in ap (λ n. take n held) nothing
body_of_pieces ack size held count (suc k) =
    let before = sent_before ack size held count k in
    let bodies : List Segment → List ℕ = flat_map (λ s. s.body) in
    let piece = piece_segment ack size held count k in
    let next : sent_before ack size held count (suc k) ≡ before ++ piece ∷ [] = ap (sent_before ack size held count) (suc-eq-add-one k) ∙ sent_before_next ack size held count k in
    let longer : suc k * size ≡ k * size + size = grind arith in
    ap bodies next ∙ flat_map-append (λ s. s.body) before (piece ∷ [])
    ∙ ap (λ xs. xs ++ bodies (piece ∷ [])) (body_of_pieces ack size held count k)
    ∙ ap (λ xs. take (k * size) held ++ xs) (append-nil (take size (drop (k * size) held)))
    ∙ sym (take-add (k * size) size held)
    ∙ ap (λ n. take n held) (sym longer)

-- all that is held, or ten pieces of it
all_are_sent : (size : ℕ) (held : List ℕ) → 0 < size → take (piece_count size (length held) * size) held ≡ take (10 * size) held
all_are_sent size held some = elim (cases_lt 10 (div_ceil (length held) size)) [
  | inl more ↦ ap (λ n. take (n * size) held) (omega arith)
  | inr all ↦
      let bounds = div_ceil_times (length held) size some in
      let count : piece_count size (length held) ≡ div_ceil (length held) size = omega arith in
      let reaches : length held ≤ piece_count size (length held) * size = subst (λ n. length held ≤ n * size) (sym count) bounds.0 in
      let fits : piece_count size (length held) * size ≤ 10 * size = mul-le-mul_right size (omega arith) in
      let enough : length held ≤ 10 * size = omega (arith, reaches, fits) in
      take_all _ held reaches ∙ sym (take_all _ held enough)
]

opening_of_size : (setup : SetupView) (syn opened : Record) (size : ℕ) (held : List ℕ) → 0 < size
    → let ack = opening_ack setup syn opened in AnswersServer setup syn opened size held (ack ∷ opening_pieces ack size held)
opening_of_size setup syn opened size held some = record {
  first = opening_ack_is setup syn opened;
  pieces = λ i s at. piece_at i s (sym (ap (slice_get outs) (add-one i)) ∙ at);
  few = (omega (arith, counted), omega (arith, counted));
  whole = ap (λ xs. xs ++ flat_map (λ s. s.body) pieces) (opening_ack_is setup syn opened).body
      ∙ body_of_pieces ack size held count count ∙ all_are_sent size held some;
}
  where
    ack : Segment
    ack = opening_ack setup syn opened

    count : ℕ
    count = piece_count size (length held)

    piece : ℕ → Segment
    piece i = piece_segment ack size held count i

    pieces : List Segment
    pieces = opening_pieces ack size held

    outs : List Segment
    outs = ack ∷ pieces

    counted : length pieces ≡ count
    counted = length-map-range_with_len piece 0 count

    piece_at : (i : ℕ) (s : Segment) → slice_get pieces i ≡ Some s → IsPiece setup syn opened size held (length outs - 1) i s
    piece_at i s at =
        let inside : i < count = omega (arith, slice_get_within pieces i s at, counted) in
        let is_here : piece i ≡ s = sym (get_or-map-range_with_len piece 0 count i i s inside (omega arith)) ∙ get_or_from_slice_get pieces i s s at in
        let here = piece_is setup syn opened size held count i some (piece_begins_within size (length held) i some inside) in
        let sent : count ≡ length outs - 1 = omega (arith, counted) in
        subst (λ n. IsPiece setup syn opened size held n i s) sent (subst (IsPiece setup syn opened size held count i) is_here here)

pub opening_numbers : OpeningNumbers
unfolding opening_segments
opening_numbers setup syn opened mss held = opening_of_size setup syn opened (piece_size mss) held (piece_size_some mss)
