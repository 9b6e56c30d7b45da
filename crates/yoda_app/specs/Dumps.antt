-- The dump of a trace: a line for each frame.
use Rattle.std.specs.Prelude.{ℕ, ◌+◌, ◌/◌, ◌%◌, Bool, ◌==◌, if◌then◌else◌, List, [], ◌∷◌, ◌++◌, length, Result, Ok, Err, codes}
use Rattle.std.specs.Fmt.{decimal}
use Rattle.common.specs.Text.{end_text}
use Rattle.bench.specs.Incoming.{incoming}
use Rattle.pcap_file.specs.declared.capture.Frame.{Frame}
use Rattle.pcap_file.specs.Frames.{capture_of}
use Rattle.job_core.specs.declared.verdict.Verdict.{Verdict}
use Rattle.report_text.specs.Verdicts.{verdict_text}
use Rattle.tcp_segment.specs.declared.segment.Segment.{Segment}

-- the letter of a flag, where it is set
abbrev pub letter : Bool → List ℕ → List ℕ
letter set text = if set then text else []

-- the letters of the flags that are set, in this order, or `-` where none is
abbrev pub flags_text : ℕ → List ℕ
flags_text flags =
    if flags == 0 then codes "-"
    else (letter (flags / 128 == 1) (codes "C") ++ letter (flags / 64 % 2 == 1) (codes "E") ++ letter (flags / 32 % 2 == 1) (codes "U")
    ++ letter (flags / 16 % 2 == 1) (codes "A") ++ letter (flags / 8 % 2 == 1) (codes "P") ++ letter (flags / 4 % 2 == 1) (codes "R")
    ++ letter (flags / 2 % 2 == 1) (codes "S") ++ letter (flags % 2 == 1) (codes "F"))

-- NUMBER SOURCE > TARGET
abbrev pub ends_text : ℕ → Segment → List ℕ
ends_text number s =
    decimal number ++ codes " " ++ end_text s.source s.head.source_port ++ codes " > " ++ end_text s.target s.head.target_port ++ codes " "

-- SEQ ACK WINDOW LENGTH
abbrev pub numbers_text : Segment → List ℕ
numbers_text s =
    codes " " ++ decimal s.head.seq.0 ++ codes " " ++ decimal s.head.ack.0 ++ codes " " ++ decimal s.head.window ++ codes " " ++ decimal (length s.body) ++ codes "\n"

-- NUMBER SOURCE > TARGET FLAGS SEQ ACK WINDOW LENGTH
abbrev pub segment_line : ℕ → Segment → List ℕ
segment_line number s = ends_text number s ++ flags_text s.head.flags ++ numbers_text s

-- the line of a segment, or NUMBER VERDICT of a frame that holds none
abbrev pub dump_line : ℕ → Result Segment Verdict → List ℕ
dump_line number (Ok s) = segment_line number s
dump_line number (Err verdict) = decimal number ++ codes " " ++ verdict_text verdict ++ codes "\n"

-- the lines of these frames, whose numbers begin with n
abbrev pub dump_lines : List ℕ → ℕ → List Frame → List ℕ
dump_lines trace n [] = []
dump_lines trace n (frame ∷ frames) = dump_line n (incoming trace frame) ++ dump_lines trace (n + 1) frames

-- the dump of the frames of a trace, in their order
abbrev pub dump_text : List ℕ → List ℕ
dump_text trace = dump_lines trace 0 (capture_of trace).frames
