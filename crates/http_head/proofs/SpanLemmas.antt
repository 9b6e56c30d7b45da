-- The parser's spans are those of the head that the bytes begin with.
use Rattle.std.proofs.Common.{◌≡◌, ℕ, ◌≤◌, List, length, take, drop, sym, ap, subst, Result, Ok, Err, ◌∙◌, arith, length-take}
use Rattle.std.proofs.lemmas.List.{length-map}
use Rattle.httparse.specs.Spans.{IsRequestWithin, IsRequestOf, IsRequestAt, FindsRequest, header_bytes, name_and_value}
use Rattle.httparse.specs.declared.spans.HeaderSpan.{HeaderSpan}
use Rattle.httparse.specs.declared.spans.RequestSpans.{RequestSpans}
use Rattle.http_head.specs.Reading.{reading, complete, without_head}
use Rattle.http_head.specs.Fields.{is_complete, length_of, target_of, fields_of}
use Rattle.http_head.specs.Parts.{IsShownBy}
use Rattle.httparse.specs.declared.Error.{Error}
use Rattle.httparse.specs.declared.Status.{Status}
use Rattle.httparse.specs.declared.Status.TheVariants.{Complete, Partial}
use Rattle.httparse.specs.Outcome.{IfComplete, IsCompleteAnd}
use Rattle.std.specs.Prelude.{⊤}
use Rattle.http_head.specs.Lines.{lines_of}
use Rattle.http_head.proofs.ReadingLemmas.{complete_from_begins, without_head_from_none}

pub shown_from_request : (bytes : List ℕ) (headers : List HeaderSpan) (spans : RequestSpans) → length headers ≡ 64
    → IsRequestWithin bytes headers spans → IsRequestOf bytes headers spans → IsShownBy bytes headers spans
shown_from_request bytes headers spans room within of =
    let h = of.0 in
    let at = of.1 in
    let same : length (take spans.headers headers) ≡ length h.fields =
    sym (length-map (take spans.headers headers) (header_bytes bytes)) ∙ ap length at.fields
    ∙ length-map h.fields name_and_value in
    let few : length h.fields ≤ 64 = omega (arith, same, length-take spans.headers headers) in
    let reads : reading bytes ≡ complete h = complete_from_begins bytes h ((drop spans.len bytes, at.reads), few) in
    record {
      reads = ap is_complete reads;
      whole = at.len ∙ sym (ap length_of reads);
      path = at.path ∙ sym (ap target_of reads);
      fields = at.fields ∙ sym (ap fields_of reads);
      within = within;
    }

-- the same of a parser's answer that is complete
pub shown_from_complete : (bytes : List ℕ) (headers : List HeaderSpan) (r : Result (Status RequestSpans) Error) (spans : RequestSpans)
    → r ≡ Ok (Complete spans) → length headers ≡ 64 → IfComplete r (IsRequestWithin bytes headers)
    → IfComplete r (IsRequestOf bytes headers) → IsShownBy bytes headers spans
shown_from_complete bytes headers r spans e room within of =
    shown_from_request bytes headers spans room (subst (λ x. IfComplete x (IsRequestWithin bytes headers)) e within)
    (subst (λ x. IfComplete x (IsRequestOf bytes headers)) e of)

-- an answer that is not complete
abbrev pub IsIncomplete : Result (Status RequestSpans) Error → Type 0
IsIncomplete (Ok (Complete spans)) = ⊥
IsIncomplete (Ok Partial) = ⊤
IsIncomplete (Err e) = ⊤

never_complete : (r : Result (Status RequestSpans) Error) (P : RequestSpans → Type 0) → IsIncomplete r → IsCompleteAnd r P → ⊥
never_complete (Ok (Complete spans)) P none all = none
never_complete (Ok Partial) P none all = all
never_complete (Err e) P none all = all

pub without_head_from_incomplete : (bytes : List ℕ) (headers : List HeaderSpan) (room : ℕ) (r : Result (Status RequestSpans) Error)
    → IsIncomplete r → room ≡ 64 → FindsRequest bytes room headers r → reading bytes ≡ without_head (lines_of bytes)
without_head_from_incomplete bytes headers room r none same finds =
    without_head_from_none bytes
    (λ h rest reads few. never_complete r (λ spans. IsRequestAt bytes headers spans h) none (finds h rest reads (omega (arith, same, few))))
