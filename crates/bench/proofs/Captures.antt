-- The frames of a capture stand within its bytes.
use Rattle.std.proofs.Common.{ℕ, zero, suc, ◌+◌, ◌<◌, ◌≤◌, List, [], ◌∷◌, length, All, subst, sym, arith}
use Rattle.std.specs.Prelude.{Option, None, Some, slice_index_or}
use Rattle.common.specs.Faults.{first}
use Rattle.pcap_file.specs.Capture.{header_faults, settings_of}
use Rattle.pcap_file.specs.Frames.{Capture, SpellsFrames, SpellsCapture, IsCapture, capture_of}
use Rattle.pcap_file.specs.declared.capture.Frame.{Frame}
use Rattle.pcap_file.specs.declared.capture.PcapFault.{PcapFault}
use Rattle.pcap_file.specs.declared.capture.Settings.{Settings}
use Rattle.bench.specs.Inputs.{IsInputs}
use Rattle.bench.specs.declared.input.inputs.Inputs.{Inputs}

spelled_inside : (s : Settings) (at : ℕ) (bytes : List ℕ) (frames : List Frame) (fault : Option PcapFault) → SpellsFrames s at bytes frames fault
    → (k : ℕ) (d : Frame) → k < length frames → (slice_index_or frames k d).at + (slice_index_or frames k d).kept ≤ length bytes
spelled_inside s at bytes [] fault spelled k d within = absurd (omega (arith, within))
spelled_inside s at bytes (f ∷ frames) fault spelled zero d within =
    let inside = spelled.0.inside in
    let place = spelled.0.place in omega (arith, inside, place)
spelled_inside s at bytes (f ∷ frames) fault spelled (suc k) d within = spelled_inside s (f.at + f.kept) bytes frames fault spelled.1 k d (omega (arith, within))

capture_inside : (fault : Option PcapFault) (bytes : List ℕ) (c : Capture) → SpellsCapture fault bytes c
    → (k : ℕ) (d : Frame) → k < length c.frames → (slice_index_or c.frames k d).at + (slice_index_or c.frames k d).kept ≤ length bytes
capture_inside None bytes c spelled = spelled_inside (settings_of bytes) 24 bytes c.frames c.fault spelled
capture_inside (Some fault) bytes c spelled =
    subst (λ (frames : List Frame). (k : ℕ) (d : Frame) → k < length frames → (slice_index_or frames k d).at + (slice_index_or frames k d).kept ≤ length bytes) (sym spelled.0)
    (λ k d within. absurd (omega (arith, within)))

-- so stand those of accepted inputs
pub inside : (inputs : Inputs) → IsInputs inputs → IsCapture inputs.trace (capture_of inputs.trace) → All (λ (f : Frame). f.at + f.kept ≤ length inputs.trace) inputs.frames
inside inputs good spelled =
    subst (λ (frames : List Frame). (k : ℕ) (d : Frame) → k < length frames → (slice_index_or frames k d).at + (slice_index_or frames k d).kept ≤ length inputs.trace) (sym good.frames)
    (capture_inside (first (header_faults inputs.trace)) inputs.trace (capture_of inputs.trace) spelled)
