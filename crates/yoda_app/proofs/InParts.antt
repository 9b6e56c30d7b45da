-- A text in parts.
use Rattle.std.proofs.Common.{◌≡◌, ◌≤◌, ℕ, ◌/◌, List, [], ◌∷◌, ◌++◌, length, take, drop, sym, ap, subst, ◌∙◌, append_assoc, arith}
use Rattle.std.specs.Prelude.{Option, slice_index_or}
use Rattle.std.proofs.lemmas.Grind.{flat_map-append}
use Rattle.std.proofs.lemmas.List.{append-nil, take-append-drop}
use Rattle.pcap_file.specs.Written.{header_bytes}
use Rattle.pcap_file.specs.declared.capture.Frame.{Frame}
use Rattle.tcp_segment.specs.declared.segment.Segment.{Segment}
use Rattle.yoda_app.specs.Outs.{outs_text, sent_record, sent_records}
use Rattle.yoda_app.specs.Parts.{parts_text}
use Rattle.yoda_app.specs.Spliced.{AreInOrder, IsSpliced, text_of, text_from}
use Rattle.yoda_app.specs.Written.{longer, AddsPart, Sends}
use Rattle.yoda_app.specs.declared.spliced.Splice.{Splice}
use Rattle.yoda_app.specs.declared.spliced.Spliced.{Spliced}
use Rattle.yoda_app.proofs.Sending.{longer-nil, added, part_added}

-- ---- parts that are sent one behind the other
module _ (first : Option (List ℕ)) where
  pub part_sent : (old new : Option (List ℕ)) (bytes left text : List ℕ) → new ≡ longer old bytes → Sends first old [] (bytes ++ left) text → Sends first new [] left text
  part_sent old new bytes left text is s = added first old new [] bytes left text (is ∙ ap (λ o. longer o bytes) (longer-nil old)) s

  pub part_broken : (old new : Option (List ℕ)) (bytes left text : List ℕ) → AddsPart old new bytes → Sends first old [] (bytes ++ left) text → AddsPart first new text
  part_broken old new bytes left text part s = part_added first old new [] bytes left text part s

  pub all_sent : (now : Option (List ℕ)) (text : List ℕ) → Sends first now [] [] text → now ≡ longer first text
  all_sent now text s = s.is ∙ ap (longer first) (sym (append-nil s.sent) ∙ s.whole)

-- what the texts of parts begin with where one is left
pub first_part : (trace : List ℕ) (parts : List Spliced) (part : Spliced) → 1 ≤ length parts → slice_index_or parts 0 part ≡ part
    → parts_text trace parts ≡ text_of trace part ++ parts_text trace (drop 1 parts)
first_part trace [] part some is = absurd (omega (arith, some))
first_part trace (p ∷ parts) part some is = ap (λ (q : Spliced). text_of trace q ++ parts_text trace parts) is

-- a part without slices
pub bare_spliced : (trace : List ℕ) (t : Spliced) → t.splices.items ≡ [] → IsSpliced trace t
bare_spliced trace t none =
    let none_left : AreInOrder trace t.own.items 0 [] = omega arith in
    subst (λ (splices : List Splice). AreInOrder trace t.own.items 0 splices) (sym none) none_left

-- ---- the records of segments in halves
-- the first of some segments, and the others
records_apart : (frames : List Frame) (n : ℕ) (sent : List (ℕ × Segment)) → sent_records frames (take n sent) ++ sent_records frames (drop n sent) ≡ sent_records frames sent
records_apart frames n sent = sym (flat_map-append (sent_record frames) (take n sent) (drop n sent)) ∙ ap (sent_records frames) (take-append-drop n sent)

abbrev half : {X : Type 0} → List X → ℕ
half xs = length xs / 2

-- a head without slices, and behind it the records of both halves of both halves
pub whole_capture : (trace : List ℕ) (frames : List Frame) (sent : List (ℕ × Segment)) (head a b c d : Spliced) (parts : List Spliced)
    → head.own.items ≡ header_bytes → head.splices.items ≡ [] → parts ≡ head ∷ a ∷ b ∷ c ∷ d ∷ []
    → (let front = take (half sent) sent in let back = drop (half sent) sent in
    text_of trace a ≡ sent_records frames (take (half front) front) → text_of trace b ≡ sent_records frames (drop (half front) front)
    → text_of trace c ≡ sent_records frames (take (half back) back) → text_of trace d ≡ sent_records frames (drop (half back) back)
    → parts_text trace parts ≡ outs_text frames sent)
whole_capture trace frames sent head a b c d parts own none are is_a is_b is_c is_d =
    let front = take (half sent) sent in
    let back = drop (half sent) sent in
    let first : text_of trace head ≡ header_bytes = ap (λ (splices : List Splice). text_from trace head.own.items 0 splices) none ∙ own in
    let one : text_of trace a ++ text_of trace b ≡ sent_records frames front = (λ i. is_a i ++ is_b i) ∙ records_apart frames (half front) front in
    let two : text_of trace c ++ text_of trace d ≡ sent_records frames back = (λ i. is_c i ++ is_d i) ∙ records_apart frames (half back) back in
    let behind : text_of trace a ++ (text_of trace b ++ (text_of trace c ++ (text_of trace d ++ []))) ≡ sent_records frames sent =
    ap (λ (x : List ℕ). text_of trace a ++ (text_of trace b ++ (text_of trace c ++ x))) (append-nil (text_of trace d))
    ∙ sym (append_assoc (text_of trace a) (text_of trace b) (text_of trace c ++ text_of trace d))
    ∙ (λ i. one i ++ two i) ∙ records_apart frames (half sent) sent in
    ap (parts_text trace) are ∙ (λ i. first i ++ behind i)
