-- The one spelling of a written capture: the lowest byte first, microseconds, link type 101.
use Rattle.std.specs.Prelude.{◌≡◌, ◌≤◌, ◌<◌, ◌^◌, ℕ, ◌+◌, List, [], ◌∷◌, ◌++◌, length, None}
use Rattle.std.specs.List.{flat_map}
use Rattle.std.specs.Prelude.{slice_range}
use Rattle.byteorder.specs.Endian.{little_bytes}
use Rattle.pcap_file.specs.declared.capture.Frame.{Frame}
use Rattle.pcap_file.specs.declared.capture.TheConstants.{RECORD_LIMIT}
use Rattle.pcap_file.specs.declared.capture.Link.TheVariants.{Raw}
use Rattle.pcap_file.specs.Frames.{capture_of}

-- magic number, version 2.4, zone 0, accuracy 0, snap length 65535, link type 101
abbrev pub header_bytes : List ℕ
header_bytes = little_bytes 4 0xa1b2_c3d4 ++ little_bytes 2 2 ++ little_bytes 2 4 ++ little_bytes 4 0 ++ little_bytes 4 0 ++ little_bytes 4 65535 ++ little_bytes 4 101

-- the head of a record whose frame is kept whole
unfoldable pub head_bytes : ℕ → ℕ → ℕ → List ℕ
head_bytes seconds micros kept = little_bytes 4 seconds ++ little_bytes 4 micros ++ little_bytes 4 kept ++ little_bytes 4 kept

abbrev pub record_bytes : ℕ → ℕ → List ℕ → List ℕ
record_bytes seconds micros body = head_bytes seconds micros (length body) ++ body

-- a frame to be written
pub record Record : Type 0 where
  pub seconds : ℕ
  pub micros : ℕ
  pub body : List ℕ

pub record Fits (r : Record) : Type 0 where
  pub seconds : r.seconds < 2 ^ 32
  pub micros : r.micros < 2 ^ 32
  pub body : length r.body ≤ RECORD_LIMIT

abbrev pub bytes_of : Record → List ℕ
bytes_of r = record_bytes r.seconds r.micros r.body

-- how the records read that are written from this place on
abbrev pub frames_at : ℕ → List Record → List Frame
frames_at at [] = []
frames_at at (r ∷ records) =
    record { at = at + 16; seconds = r.seconds; micros = r.micros; kept = length r.body; original = length r.body; link = Raw }
    ∷ frames_at (at + 16 + length r.body) records

-- the bytes of each frame are those that were written
abbrev pub HaveBodies : List ℕ → List Frame → List Record → Type 0
HaveBodies bytes [] records = records ≡ []
HaveBodies bytes (f ∷ frames) [] = ⊥
HaveBodies bytes (f ∷ frames) (r ∷ records) = (slice_range bytes f.at (f.at + f.kept) ≡ r.body) × HaveBodies bytes frames records

-- a file that is written
abbrev pub file_bytes : List Record → List ℕ
file_bytes records = header_bytes ++ flat_map bytes_of records

-- its frames are read again, with their bytes, and no fault
pub record IsReadAgain (records : List Record) : Type 0 where
  pub capture : capture_of (file_bytes records) ≡ record { frames = frames_at 24 records; fault = None }
  pub bodies : HaveBodies (file_bytes records) (frames_at 24 records) records
