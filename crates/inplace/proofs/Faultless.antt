-- Bytes without a fault are a packet that holds a segment.
use Rattle.std.proofs.Common.{◌≡◌, ℕ, ◌*◌, Bool, true, false, not, ◌==◌, ◌||◌, List, [], ◌∷◌, length, None, refl}
use Rattle.std.specs.Prelude.{nat_lt, slice_range, unwrap_or, Result, Ok, Err}
use Rattle.std.specs.List.{AllByRecursion}
use Rattle.std.specs.Result.{is_err, result_ok}
use Rattle.std.proofs.lemmas.Bool.{ltb-false, eqb-true, not-false}
use Rattle.common.specs.Faults.{first}
use Rattle.common.specs.Fields.{field}
use Rattle.ipv4.specs.declared.packet.Packet.{Packet}
use Rattle.ipv4.specs.Packet as ip
use Rattle.tcp_segment.specs.declared.options.Options.{Options}
use Rattle.tcp_segment.specs.declared.segment.View.{View}
use Rattle.tcp_segment.specs.OptionArea.{no_options}
use Rattle.tcp_segment.specs.Segments as tcp
use Rattle.inplace.specs.Packets.{HoldsSegment}

-- where there is no first fault, no line of the list holds
none_holds : {F : Type 0} → (lines : List (Bool × F)) → first lines ≡ None → AllByRecursion (λ line. line.0 ≡ false) lines
none_holds [] none = tt
none_holds ((true, fault) ∷ lines) none = absurd cc
none_holds ((false, fault) ∷ lines) none = (refl, none_holds lines none)

neither : (a b : Bool) → (a || b) ≡ false → (a ≡ false) × (b ≡ false)
neither true b is = absurd cc
neither false b is = (refl, is)

same : (a b : ℕ) → not (a == b) ≡ false → a ≡ b
same a b is = eqb-true a b (not-false (a == b) is)

module _ (bytes : List ℕ) (none : first (ip.faults bytes) ≡ None) where
  abbrev packet : Packet
  packet = record {
    source = field 12 4 bytes;
    target = field 16 4 bytes;
    start = 4 * ip.header_words bytes;
    end = ip.total_length bytes;
  }

  is_packet : ip.IsPacket bytes packet
  is_packet =
      let f = none_holds (ip.faults bytes) none in
      let words = neither (nat_lt (ip.header_words bytes) 5) (nat_lt (length bytes) (4 * ip.header_words bytes)) f.1.1.0 in
      let ends = neither (nat_lt (ip.total_length bytes) (4 * ip.header_words bytes)) (nat_lt (length bytes) (ip.total_length bytes)) f.1.1.1.0 in record {
        long = ltb-false (length bytes) 20 f.0;
        version = same (ip.version_of bytes) 4 f.1.0;
        words = ltb-false (ip.header_words bytes) 5 words.0;
        start = refl;
        stop = refl;
        ordered = ltb-false (ip.total_length bytes) (4 * ip.header_words bytes) ends.0;
        inside = ltb-false (length bytes) (ip.total_length bytes) ends.1;
        summed = same (ip.kept_sum bytes) (ip.header_sum bytes) f.1.1.1.1.0;
        whole = same (ip.fragment_bits bytes) 0 f.1.1.1.1.1.0;
        protocol = same (ip.protocol_of bytes) 6 f.1.1.1.1.1.1.0;
        source = refl;
        target = refl;
      }

no_error : {F : Type 0} → (o : Result Options F) → is_err o ≡ false → o ≡ Ok (unwrap_or (result_ok o) no_options)
no_error (Ok options) is = refl
no_error (Err fault) is = absurd cc

module _ (source target : ℕ) (bytes : List ℕ) (none : first (tcp.faults source target bytes) ≡ None) where
  abbrev view : View
  view = record {
    head = record {
      source_port = field 0 2 bytes;
      target_port = field 2 2 bytes;
      seq = record { 0 = field 4 4 bytes };
      ack = record { 0 = field 8 4 bytes };
      flags = tcp.flags_of bytes;
      window = field 14 2 bytes;
      urgent = field 18 2 bytes;
      options = unwrap_or (result_ok (tcp.options_of bytes)) no_options;
    };
    data_at = 4 * tcp.offset_words bytes;
  }

  is_view : tcp.IsView source target bytes view
  is_view =
      let f = none_holds (tcp.faults source target bytes) none in
      let words = neither (nat_lt (tcp.offset_words bytes) 5) (nat_lt (length bytes) (4 * tcp.offset_words bytes)) f.1.0 in record {
        long = ltb-false (length bytes) 20 f.0;
        words = ltb-false (tcp.offset_words bytes) 5 words.0;
        start = refl;
        inside = ltb-false (length bytes) (4 * tcp.offset_words bytes) words.1;
        summed = same (tcp.kept_sum bytes) (tcp.segment_sum source target bytes) f.1.1.0;
        source_port = refl;
        target_port = refl;
        seq = refl;
        ack = refl;
        flags = refl;
        window = refl;
        urgent = refl;
        options = no_error (tcp.options_of bytes) f.1.1.1.0;
      }

-- a packet without a fault whose payload is a segment without one
pub holds-segment : (bytes : List ℕ) → first (ip.faults bytes) ≡ None
    → first (tcp.faults (field 12 4 bytes) (field 16 4 bytes) (slice_range bytes (4 * ip.header_words bytes) (ip.total_length bytes))) ≡ None
    → HoldsSegment bytes
holds-segment bytes none clear =
    let payload = slice_range bytes (4 * ip.header_words bytes) (ip.total_length bytes) in record {
      packet = packet bytes none;
      view = view (field 12 4 bytes) (field 16 4 bytes) payload clear;
      is_packet = is_packet bytes none;
      is_view = is_view (field 12 4 bytes) (field 16 4 bytes) payload clear;
    }
