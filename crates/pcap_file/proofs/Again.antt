-- The records of a written file are read again.
use Rattle.std.proofs.Common.{◌≡◌, ◌<◌, ◌^◌, ℕ, ◌+◌, ◌-◌, true, false, List, [], ◌∷◌, ◌++◌, length, take, drop, Option, None, refl, sym, ap, subst, ◌∙◌, append_assoc, arith, slice_range}
use Rattle.std.specs.List.{flat_map, AllByRecursion}
use Rattle.std.proofs.Math.Seq.{drop-append-add}
use Rattle.std.proofs.lemmas.List.{length-append, take_at, drop_at}
use Rattle.std.proofs.lemmas.List.Concat.{flat_map-cons}
use Rattle.byteorder.specs.Endian.{little_number}
use Rattle.common.specs.Faults.{first}
use Rattle.pcap_file.specs.declared.capture.Frame.{Frame}
use Rattle.pcap_file.specs.declared.capture.Link.TheVariants.{Raw}
use Rattle.pcap_file.specs.declared.capture.Settings.{Settings}
use Rattle.pcap_file.specs.declared.capture.PcapFault.{PcapFault}
use Rattle.pcap_file.specs.Capture.{header_faults, IsFrame}
use Rattle.pcap_file.specs.Frames.{Capture, SpellsFrames, SpellsCapture}
use Rattle.pcap_file.specs.Written.{header_bytes, head_bytes, Record, Fits, bytes_of, frames_at, HaveBodies, file_bytes, IsReadAgain}
use Rattle.pcap_file.proofs.Walks.{lt-false, opened-only}

abbrev written_settings : Settings
written_settings = record { little = true; nano = false; link = Raw }

abbrev frame_of : ℕ → Record → Frame
frame_of at r = record { at = at + 16; seconds = r.seconds; micros = r.micros; kept = length r.body; original = length r.body; link = Raw }

length-head : (seconds micros kept : ℕ) → length (head_bytes seconds micros kept) ≡ 16
unfolding head_bytes
length-head seconds micros kept = refl

length-bytes : (r : Record) → length (bytes_of r) ≡ 16 + length r.body
length-bytes r = omega (arith, length-append (head_bytes r.seconds r.micros (length r.body)) r.body, length-head r.seconds r.micros (length r.body))

seconds-again : (seconds micros kept : ℕ) (rest : List ℕ) → seconds < 2 ^ 32 → seconds ≡ little_number 4 (drop 0 (head_bytes seconds micros kept ++ rest))
unfolding head_bytes
seconds-again seconds micros kept rest h = omega arith

micros-again : (seconds micros kept : ℕ) (rest : List ℕ) → micros < 2 ^ 32 → micros ≡ little_number 4 (drop 4 (head_bytes seconds micros kept ++ rest))
unfolding head_bytes
micros-again seconds micros kept rest h = omega arith

kept-again : (seconds micros kept : ℕ) (rest : List ℕ) → kept < 2 ^ 32 → kept ≡ little_number 4 (drop 8 (head_bytes seconds micros kept ++ rest))
unfolding head_bytes
kept-again seconds micros kept rest h = omega arith

original-again : (seconds micros kept : ℕ) (rest : List ℕ) → kept < 2 ^ 32 → kept ≡ little_number 4 (drop 12 (head_bytes seconds micros kept ++ rest))
unfolding head_bytes
original-again seconds micros kept rest h = omega arith

-- a number of the record behind the bytes `pre`
number-behind : (pre head body rest : List ℕ) (n value : ℕ) → value ≡ little_number 4 (drop n (head ++ (body ++ rest))) → value ≡ little_number 4 (drop (length pre + n) (pre ++ (head ++ body ++ rest)))
number-behind pre head body rest n value h =
    h
    ∙ ap (λ (x : List ℕ). little_number 4 (drop n x)) (sym (append_assoc head body rest))
    ∙ sym (ap (little_number 4) (drop-append-add pre (head ++ body ++ rest) n))

frame-again : (r : Record) (pre rest : List ℕ) → Fits r → IsFrame written_settings (length pre) (pre ++ (bytes_of r ++ rest)) (frame_of (length pre) r)
frame-again r pre rest fits =
    let n = length r.body in
    let head = head_bytes r.seconds r.micros n in
    let long : length (pre ++ (bytes_of r ++ rest)) ≡ length pre + (16 + n + length rest) = omega (arith, length-append pre (bytes_of r ++ rest), length-append (bytes_of r) rest, length-bytes r) in
    record {
      head = omega (arith, long);
      small = fits.body;
      inside = omega (arith, long);
      place = refl;
      seconds = number-behind pre head r.body rest 0 r.seconds (seconds-again r.seconds r.micros n (r.body ++ rest) fits.seconds) ∙ ap (λ (k : ℕ). little_number 4 (drop k (pre ++ (bytes_of r ++ rest)))) (omega arith);
      micros = number-behind pre head r.body rest 4 r.micros (micros-again r.seconds r.micros n (r.body ++ rest) fits.micros);
      kept = number-behind pre head r.body rest 8 n (kept-again r.seconds r.micros n (r.body ++ rest) (omega (arith, fits.body)));
      original = number-behind pre head r.body rest 12 n (original-again r.seconds r.micros n (r.body ++ rest) (omega (arith, fits.body)));
      link = refl;
    }

-- the file behind the bytes `pre`, one record further
further : (r : Record) (records : List Record) (pre : List ℕ) → pre ++ flat_map bytes_of (r ∷ records) ≡ pre ++ (bytes_of r ++ flat_map bytes_of records)
further r records pre = ap (λ (x : List ℕ). pre ++ x) (flat_map-cons bytes_of r records)

next-place : (r : Record) (pre : List ℕ) → length (pre ++ bytes_of r) ≡ length pre + 16 + length r.body
next-place r pre = omega (arith, length-append pre (bytes_of r), length-bytes r)

frames-again : (records : List Record) (pre : List ℕ) → AllByRecursion Fits records → SpellsFrames written_settings (length pre) (pre ++ flat_map bytes_of records) (frames_at (length pre) records) None
frames-again [] pre fits = omega (arith, length-append pre (flat_map bytes_of []))
frames-again (r ∷ records) pre fits =
    let rest = flat_map bytes_of records in
    let at : ℕ → List ℕ → Type 0 = λ n bytes. SpellsFrames written_settings n bytes (frames_at n records) None in
    let moved = subst (λ (n : ℕ). at n (pre ++ bytes_of r ++ rest)) (next-place r pre) (frames-again records (pre ++ bytes_of r) fits.1) in
    let joined = subst (at (length pre + 16 + length r.body)) (append_assoc pre (bytes_of r) rest ∙ sym (further r records pre)) moved in
    (subst (λ (bytes : List ℕ). IsFrame written_settings (length pre) bytes (frame_of (length pre) r)) (sym (further r records pre)) (frame-again r pre rest fits.0), joined)

body-again : (r : Record) (pre rest : List ℕ) → slice_range (pre ++ (bytes_of r ++ rest)) (length pre + 16) (length pre + 16 + length r.body) ≡ r.body
body-again r pre rest =
    let n = length r.body in
    let head = head_bytes r.seconds r.micros n in
    let behind : drop (length pre + 16) (pre ++ (bytes_of r ++ rest)) ≡ r.body ++ rest =
    drop-append-add pre (bytes_of r ++ rest) 16 ∙ ap (drop 16) (append_assoc head r.body rest) ∙ drop_at head (r.body ++ rest) 16 (length-head r.seconds r.micros n) in
    ap (take (length pre + 16 + n - (length pre + 16))) behind ∙ take_at r.body rest (length pre + 16 + n - (length pre + 16)) (omega arith)

bodies-again : (records : List Record) (pre : List ℕ) → HaveBodies (pre ++ flat_map bytes_of records) (frames_at (length pre) records) records
bodies-again [] pre = refl
bodies-again (r ∷ records) pre =
    let rest = flat_map bytes_of records in
    let at : ℕ → List ℕ → Type 0 = λ n bytes. HaveBodies bytes (frames_at n records) records in
    let moved = subst (λ (n : ℕ). at n (pre ++ bytes_of r ++ rest)) (next-place r pre) (bodies-again records (pre ++ bytes_of r)) in
    let joined = subst (at (length pre + 16 + length r.body)) (append_assoc pre (bytes_of r) rest ∙ sym (further r records pre)) moved in
    (ap (λ (bytes : List ℕ). slice_range bytes (length pre + 16) (length pre + 16 + length r.body)) (further r records pre) ∙ body-again r pre rest, joined)

header-again : (rest : List ℕ) → first (header_faults (header_bytes ++ rest)) ≡ None
header-again rest = rw (lt-false (length (header_bytes ++ rest)) 24 (omega arith)) refl

pub capture-again : (records : List Record) → AllByRecursion Fits records → IsReadAgain records
capture-again records fits =
    let file = file_bytes records in
    let c : Capture = record { frames = frames_at 24 records; fault = None } in
    record {
      capture = opened-only (first (header_faults file)) file c
          (subst (λ (o : Option PcapFault). SpellsCapture o file c) (sym (header-again (flat_map bytes_of records))) (frames-again records header_bytes fits));
      bodies = bodies-again records header_bytes;
    }
