-- The byte form of a record: the version, the kind, and the fields in network byte order. Version 2 has behind these the
-- scale and whether selective acknowledgments are taken, and stands where there is one of the two. Each record has one form.
use Rattle.std.specs.Prelude.{ℕ, ◌-◌, Bool, true, false, ◌==◌, ◌&&◌, ◌||◌, nat_le, nat_lt, not, if◌then◌else◌, Option, Some, None, Result, Ok, Err, List, [], ◌∷◌, ◌++◌, length, drop, slice_index, replicate}
use Rattle.byteorder.specs.Endian.{big_bytes}
use Rattle.common.specs.Fields.{field}
use Rattle.common.specs.Faults.{first}
use Rattle.flow_id.specs.Flows.{flow_bytes, flow_of}
use Rattle.flow_id.specs.declared.key.Side.{Side}
use Rattle.flow_id.specs.declared.key.Side.TheVariants.{Client, Server}
use Rattle.flow_record.specs.declared.record.Record.{Record}
use Rattle.flow_record.specs.declared.record.Record.TheVariants.{Syn, Choice, Port, Open, Fin, Gone}
use Rattle.flow_record.specs.declared.form.RecordFault.{RecordFault}
use Rattle.flow_record.specs.declared.form.RecordFault.TheVariants.{Length, Version, Kind, Value}

abbrev pub side_byte : Side → ℕ
side_byte Client = 0
side_byte Server = 1

-- ---- writing
-- the version of a Syn or an Open with this scale and this mark of selective acknowledgments
abbrev pub version_of : Option ℕ → Bool → ℕ
version_of None false = 1
version_of None true = 2
version_of (Some shift) sack = 2

-- the byte of a scale: 255 where there is none
abbrev pub scale_byte : Option ℕ → ℕ
scale_byte None = 255
scale_byte (Some shift) = shift

abbrev pub sack_byte : Bool → ℕ
sack_byte false = 0
sack_byte true = 1

-- what stands behind the fields: nothing, or in version 2 the scale and the mark
abbrev pub extras : Option ℕ → Bool → List ℕ
extras None false = []
extras None true = scale_byte None ∷ sack_byte true ∷ []
extras (Some shift) sack = scale_byte (Some shift) ∷ sack_byte sack ∷ []

abbrev pub form : Record → List ℕ
form (Syn number mss window scale sack) =
    version_of scale sack ∷ 1 ∷ big_bytes 4 number.0 ++ big_bytes 2 mss ++ big_bytes 2 window ++ extras scale sack
form (Choice server rule) = 1 ∷ 2 ∷ big_bytes 2 server ++ big_bytes 2 rule
form (Port owner) = 1 ∷ 3 ∷ flow_bytes owner
form (Open server port number scale sack) =
    version_of scale sack ∷ 4 ∷ big_bytes 2 server ++ big_bytes 2 port ++ big_bytes 4 number.0 ++ extras scale sack
form (Fin side number) = 1 ∷ 5 ∷ side_byte side ∷ big_bytes 4 number.0
form (Gone by) = 1 ∷ 6 ∷ by ∷ []

-- bytes in a field of 24, zeros behind them
abbrev pub padded : List ℕ → List ℕ
padded bytes = bytes ++ replicate (24 - length bytes) 0

-- ---- reading
-- version 1 has all kinds, version 2 those of a Syn and of an Open
abbrev pub has_kind : ℕ → ℕ → Bool
has_kind version kind = if version == 1 then nat_le 1 kind && nat_le kind 6 else kind == 1 || kind == 4

-- the length of a form of this version and kind
abbrev pub length_of : ℕ → ℕ → ℕ
length_of version kind =
    if version == 2 then 12
    else if kind == 1 then 10
    else if kind == 2 then 6
    else if kind == 3 then 12
    else if kind == 4 then 10
    else if kind == 5 then 7
    else 3

-- what is wrong with bytes, whatever their fields hold, in this order
abbrev pub faults : List ℕ → List (Bool × RecordFault)
faults bytes =
    let version = slice_index bytes 0 in
    let kind = slice_index bytes 1 in
    (nat_lt (length bytes) 2, Length 2 (length bytes))
    ∷ (not (version == 1 || version == 2), Version version)
    ∷ (not (has_kind version kind), Kind kind)
    ∷ (not (length bytes == length_of version kind), Length (length_of version kind) (length bytes))
    ∷ []

abbrev pub side_of : ℕ → Result Side RecordFault
side_of byte = if byte == 0 then Ok Client else if byte == 1 then Ok Server else Err (Value byte)

abbrev pub fin_of : Result Side RecordFault → ℕ → Result Record RecordFault
fin_of (Ok side) number = Ok (Fin side (record { 0 = number }))
fin_of (Err fault) number = Err fault

-- the scale and the mark of selective acknowledgments that two bytes say; the faults in this order: a scale above 14, a mark
-- above 1, and neither of the two, which version 1 says
abbrev pub extras_of : ℕ → ℕ → Result (Option ℕ × Bool) RecordFault
extras_of scale sack =
    if nat_lt 14 scale && nat_lt scale 255 then Err (Value scale)
    else if nat_lt 1 sack then Err (Value sack)
    else if scale == 255 && sack == 0 then Err (Value sack)
    else Ok (if scale == 255 then None else Some scale, sack == 1)

-- those of a form: in version 1 there are none
abbrev pub extras_in : List ℕ → Result (Option ℕ × Bool) RecordFault
extras_in bytes =
    if slice_index bytes 0 == 1 then Ok (None, false) else extras_of (slice_index bytes 10) (slice_index bytes 11)

abbrev pub with_extras : (Option ℕ → Bool → Record) → Result (Option ℕ × Bool) RecordFault → Result Record RecordFault
with_extras item (Ok e) = Ok (item e.0 e.1)
with_extras item (Err fault) = Err fault

-- the fields of a record of this kind
abbrev pub fields : ℕ → List ℕ → Result Record RecordFault
fields kind bytes =
    if kind == 1 then with_extras (Syn (record { 0 = field 2 4 bytes }) (field 6 2 bytes) (field 8 2 bytes)) (extras_in bytes)
    else if kind == 2 then Ok (Choice (field 2 2 bytes) (field 4 2 bytes))
    else if kind == 3 then Ok (Port (flow_of (drop 2 bytes)))
    else if kind == 4 then with_extras (Open (field 2 2 bytes) (field 4 2 bytes) (record { 0 = field 6 4 bytes })) (extras_in bytes)
    else if kind == 5 then fin_of (side_of (slice_index bytes 2)) (field 3 4 bytes)
    else if nat_lt 2 (slice_index bytes 2) then Err (Value (slice_index bytes 2))
    else Ok (Gone (slice_index bytes 2))

abbrev pub reading_by : Option RecordFault → List ℕ → Result Record RecordFault
reading_by (Some fault) bytes = Err fault
reading_by None bytes = fields (slice_index bytes 1) bytes

-- the record whose form the bytes are, or the first fault
abbrev pub reading : List ℕ → Result Record RecordFault
reading bytes = reading_by (first (faults bytes)) bytes
