-- A trace that is gone over by a window: 24 bytes as the trace begins, and then a part of what follows in it.
use Rattle.std.specs.Prelude.{◌≡◌, ◌≤◌, ◌<◌, ◌⊎◌, ℕ, ◌+◌, ◌-◌, Bool, true, false, min, List, ◌++◌, length, take, drop}
use Rattle.common.specs.Faults.{first}
use Rattle.pcap_file.specs.Capture.{settings_of, header_faults}
use Rattle.pcap_file.specs.Frames.{Capture, left_of}
use Rattle.pcap_file.specs.declared.capture.Frame.{Frame}
use Rattle.pcap_file.specs.declared.capture.PcapFault.{PcapFault}
use Rattle.pcap_file.specs.declared.capture.PcapFault.TheVariants.{RecordCut, TooLarge}

-- the frames of a trace from the record on that begins at this place
abbrev pub rest_of : List ℕ → ℕ → Capture
rest_of trace place = left_of (record { settings = settings_of trace; place = place }) trace

-- the window has the trace's file header, and behind it the trace's bytes that stand so many bytes later in the trace
pub record IsWindow (trace : List ℕ) (by : ℕ) (window : List ℕ) : Type 0 where
  pub header : first (header_faults window) ≡ first (header_faults trace)
  pub settings : settings_of window ≡ settings_of trace
  pub inside : by + length window ≤ length trace
  pub body : drop (24 + by) trace ≡ drop 24 window ++ drop (by + length window) trace

-- the frame of a window as one of the trace
abbrev pub moved : ℕ → Frame → Frame
moved by f = record { at = f.at + by; seconds = f.seconds; micros = f.micros; kept = f.kept; original = f.original; link = f.link }

-- the fault as one of the record that begins at this place
abbrev pub placed : ℕ → PcapFault → PcapFault
placed place (RecordCut at) = RecordCut place
placed place (TooLarge at kept) = TooLarge place kept
placed place fault = fault

-- whether the record goes past the end
abbrev pub is_cut : PcapFault → Bool
is_cut (RecordCut at) = true
is_cut fault = false

-- the room's first n bytes are those of the content from a place on, and there are fewer than there is room for only at the
-- content's end
pub record IsFilled (content : List ℕ) (at : ℕ) (room : List ℕ) (n : ℕ) : Type 0 where
  pub bytes : take n room ≡ take n (drop at content)
  pub all : n ≡ min (length room) (length content - at)

-- so many bytes of the room are a window of the trace, as many as there is room for or the trace has
pub record IsShown (trace : List ℕ) (by : ℕ) (room : List ℕ) (n : ℕ) : Type 0 where
  pub shows : IsWindow trace by (take n room)
  pub all : n ≡ min (length room) (length trace - by)

-- .. behind their file header
pub record IsRefilled (trace : List ℕ) (by : ℕ) (room : List ℕ) (n : ℕ) : Type 0 where
  pub body : drop 24 (take n room) ≡ take (n - 24) (drop (24 + by) trace)
  pub all : n ≡ min (length room) (length trace - by)

-- what tells whether a window with so many bytes is the last one: the name gave less than there was room for, or it ends here
pub record TellsLast (filled room by size : ℕ) (is_last : Bool) : Type 0 where
  pub last : is_last ≡ true → (filled < room) ⊎ (by + filled ≡ size)
  pub more : is_last ≡ false → (room ≤ filled) × (by + filled < size)
