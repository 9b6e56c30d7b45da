-- The dump of a trace, window by window.
use Rattle.std.specs.Prelude.{◌≡◌, ◌≤◌, ◌<◌, ℕ, ◌+◌, Bool, true, List, ◌++◌, length, Option, None, Some}
use Rattle.bench.specs.declared.input.inputs.TheConstants.{TRACE_BYTES, TRACE_RECORDS}
use Rattle.pcap_file.specs.Capture.{settings_of}
use Rattle.pcap_file.specs.Frames.{left_of, stopped}
use Rattle.plain_run.specs.Found.{IsFoundInTrace}
use Rattle.plain_run.specs.Judgement.{trace_refusal}
use Rattle.plain_run.specs.declared.fault.LoadFault.{LoadFault}
use Rattle.yoda_app.specs.Dumps.{dump_lines, dump_text}
use Rattle.yoda_app.specs.Windows.{rest_of, IsWindow}
use Rattle.yoda_app.specs.declared.windows.End.{End}
use Rattle.yoda_app.specs.declared.windows.End.TheVariants.{Full, Whole, Stopped}
use Rattle.yoda_app.specs.declared.windows.Turn.{Turn}
use Rattle.yoda_app.specs.declared.windows.Turn.TheVariants.{Next, Accepted, Refused}

-- the text has the lines of the trace's frames, so many, up to the record that begins at this place
pub record IsUpTo (trace text : List ℕ) (frames place : ℕ) : Type 0 where
  pub lines : text ++ dump_lines trace frames (rest_of trace place).frames ≡ dump_lines trace 0 (rest_of trace 24).frames
  pub count : frames + length (rest_of trace place).frames ≡ length (rest_of trace 24).frames
  pub fault : (rest_of trace place).fault ≡ (rest_of trace 24).fault

-- why a walk through a window ends behind so many frames of the trace, at this place of the window
abbrev pub EndsAt : List ℕ → ℕ → ℕ → End → Type 0
EndsAt window frames place Full = frames ≡ TRACE_RECORDS + 1
EndsAt window frames place Whole = (frames ≤ TRACE_RECORDS) × (place ≡ length window)
EndsAt window frames place (Stopped fault) =
    (frames ≤ TRACE_RECORDS) × (left_of (record { settings = settings_of window; place = place }) window ≡ stopped fault)

-- a window of the trace, up to which the text has its lines; the last one ends where the trace ends
pub record IsTurn (trace : List ℕ) (by : ℕ) (window : List ℕ) (is_last : Bool) (text : List ℕ) (frames : ℕ) : Type 0 where
  pub shows : IsWindow trace by window
  pub before : IsUpTo trace text frames (24 + by)
  pub last : is_last ≡ true → by + length window ≡ length trace
  pub fits : length trace ≤ TRACE_BYTES

-- what a window's turn leaves, over any trace of which this holds
abbrev pub Gives : (List ℕ → Type 0) → ℕ → List ℕ → List ℕ → Turn → Type 0
Gives Meant by window text (Next frames place) =
    (frames ≤ TRACE_RECORDS) × (24 < place) × (place ≤ length window) × ((trace : List ℕ) → Meant trace → IsUpTo trace text frames (place + by))
Gives Meant by window text Accepted = (trace : List ℕ) → Meant trace → (trace_refusal trace ≡ None) × (text ≡ dump_text trace)
Gives Meant by window text (Refused fault) = IsFoundInTrace (λ f. (trace : List ℕ) → Meant trace → trace_refusal trace ≡ Some f) fault

-- the trace is what the name holds, and so many bytes
pub record Holds (trace : List ℕ) (held : Option (List ℕ)) (size : ℕ) : Type 0 where
  pub told : held ≡ Some trace
  pub sized : size ≡ length trace

-- what the dump of a trace comes to: its text, or why it is refused
abbrev pub IsDumped : (List ℕ → Type 0) → List ℕ → Option LoadFault → Type 0
IsDumped Meant text None = (trace : List ℕ) → Meant trace → (trace_refusal trace ≡ None) × (text ≡ dump_text trace)
IsDumped Meant text (Some fault) = IsFoundInTrace (λ f. (trace : List ℕ) → Meant trace → trace_refusal trace ≡ Some f) fault
