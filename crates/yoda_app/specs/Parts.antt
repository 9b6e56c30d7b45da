-- A text in parts, in each of which slices of the trace may stand.
use Rattle.std.specs.Prelude.{◌≡◌, ℕ, ◌/◌, List, length, take, drop}
use Rattle.std.specs.List.{AllByRecursion, flat_map}
use Rattle.pcap_file.specs.declared.capture.Frame.{Frame}
use Rattle.tcp_segment.specs.declared.segment.Segment.{Segment}
use Rattle.yoda_app.specs.Outs.{sent_records}
use Rattle.yoda_app.specs.Spliced.{IsSpliced, text_of}
use Rattle.yoda_app.specs.declared.spliced.Spliced.{Spliced}

-- the texts of the parts, one behind the other
abbrev pub parts_text : List ℕ → List Spliced → List ℕ
parts_text trace parts = flat_map (text_of trace) parts

abbrev pub AreSpliced : List ℕ → List Spliced → Type 0
AreSpliced trace parts = AllByRecursion (IsSpliced trace) parts

-- the part has the records of these segments, which are sent for frames of the trace
abbrev pub IsPartOf : List ℕ → List Frame → List (ℕ × Segment) → Spliced → Type 0
IsPartOf trace frames sent part = IsSpliced trace part × (text_of trace part ≡ sent_records frames sent)

-- ---- both halves of both halves of some segments
abbrev pub front_half : List (ℕ × Segment) → List (ℕ × Segment)
front_half sent = take (length sent / 2) sent

abbrev pub back_half : List (ℕ × Segment) → List (ℕ × Segment)
back_half sent = drop (length sent / 2) sent

abbrev pub first_quarter : List (ℕ × Segment) → List (ℕ × Segment)
first_quarter sent = front_half (front_half sent)

abbrev pub second_quarter : List (ℕ × Segment) → List (ℕ × Segment)
second_quarter sent = back_half (front_half sent)

abbrev pub third_quarter : List (ℕ × Segment) → List (ℕ × Segment)
third_quarter sent = front_half (back_half sent)

abbrev pub fourth_quarter : List (ℕ × Segment) → List (ℕ × Segment)
fourth_quarter sent = back_half (back_half sent)
