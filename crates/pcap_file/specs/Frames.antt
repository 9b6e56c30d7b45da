-- The frames of a whole capture, and the fault that ends them if there is one: as a function of the bytes, and as a
-- relation.
use Rattle.std.specs.Prelude.{◌≡◌, ◌<◌, ℕ, zero, suc, ◌+◌, nat_le, if◌then◌else◌, List, [], ◌∷◌, length, Option, Some, None}
use Rattle.std.specs.Option.{option_map_or}
use Rattle.common.specs.Faults.{first}
use Rattle.pcap_file.specs.declared.capture.Frame.{Frame}
use Rattle.pcap_file.specs.declared.capture.Settings.{Settings}
use Rattle.pcap_file.specs.declared.capture.PcapFault.{PcapFault}
use Rattle.pcap_file.specs.Capture.{number_at, settings_of, header_faults, kept_at, micros_at, record_faults, IsFrame}

-- the frames in their order, and what stands behind the last one: the end, or a fault
pub record Capture : Type 0 where
  pub frames : List Frame
  pub fault : Option PcapFault

abbrev pub ended : Capture
ended = record { frames = []; fault = None }

abbrev pub stopped : PcapFault → Capture
stopped fault = record { frames = []; fault = Some fault }

abbrev pub before : Frame → Capture → Capture
before f c = record { frames = f ∷ c.frames; fault = c.fault }

-- the frame of the record that begins at this place
abbrev pub frame_from : Settings → ℕ → List ℕ → Frame
frame_from s at bytes = record {
  at = at + 16;
  seconds = number_at s.little at 4 bytes;
  micros = micros_at s at bytes;
  kept = kept_at s at bytes;
  original = number_at s.little (at + 12) 4 bytes;
  link = s.link;
}

-- the frames from this place on; each record has at least one byte, so that as many turns are enough as bytes are left
unfoldable pub frames_from : ℕ → Settings → ℕ → List ℕ → Capture
frames_from zero s at bytes = ended
frames_from (suc turns) s at bytes =
    if nat_le (length bytes) at then ended
    else option_map_or stopped (first (record_faults s at bytes))
    (before (frame_from s at bytes) (frames_from turns s (at + 16 + kept_at s at bytes) bytes))

-- the frames of the whole file
abbrev pub capture_of : List ℕ → Capture
capture_of bytes = option_map_or stopped (first (header_faults bytes)) (frames_from (length bytes) (settings_of bytes) 24 bytes)

-- ---- the same as a relation

-- from this place on the bytes are these records, one behind the other, and then they end or have this fault
abbrev pub SpellsFrames : Settings → ℕ → List ℕ → List Frame → Option PcapFault → Type 0
SpellsFrames s at bytes [] None = at ≡ length bytes
SpellsFrames s at bytes [] (Some fault) = (at < length bytes) × (first (record_faults s at bytes) ≡ Some fault)
SpellsFrames s at bytes (f ∷ frames) fault = IsFrame s at bytes f × SpellsFrames s (f.at + f.kept) bytes frames fault

-- the same behind the file header, by the fault that the header has
abbrev pub SpellsCapture : Option PcapFault → List ℕ → Capture → Type 0
SpellsCapture None bytes c = SpellsFrames (settings_of bytes) 24 bytes c.frames c.fault
SpellsCapture (Some fault) bytes c = (c.frames ≡ []) × (c.fault ≡ Some fault)

-- the bytes are this capture
abbrev pub IsCapture : List ℕ → Capture → Type 0
IsCapture bytes c = SpellsCapture (first (header_faults bytes)) bytes c

-- ---- as a reader goes through it

-- what a reader knows: what the file header says, and the place where the next record begins
pub record Reading : Type 0 where
  pub settings : Settings
  pub place : ℕ

-- the frames that a reader has left
abbrev pub left_of : Reading → List ℕ → Capture
left_of r bytes = frames_from (length bytes) r.settings r.place bytes

-- ---- words of proofs

-- the frames of the whole file, by the fault of its header
abbrev pub opened_with : Option PcapFault → List ℕ → Capture
opened_with fault bytes = option_map_or stopped fault (left_of (record { settings = settings_of bytes; place = 24 }) bytes)
