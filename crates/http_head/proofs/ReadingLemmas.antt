-- The reading of bytes against the grammar.
use Rattle.std.proofs.Common.{◌≡◌, ℕ, ◌≤◌, true, false, leb, List, [], ◌++◌, length, take, append-nil, refl, sym, ap, subst, ◌∙◌, Option, Some, None, inl, inr}
use Rattle.std.proofs.lemmas.Bool.{cond-true, cond-false, leb-true, le-leb, cond_both, both_ways, false_from_ne_true}
use Rattle.std.proofs.Math.Seq.{take-append_seam}
use Rattle.http_head.specs.Fields.{is_complete, length_of}
use Rattle.httparse.specs.Grammar.{RequestHead, ReadsRequest, print_request}
use Rattle.httparse.proofs.GrammarLemmas.{request_unique, ReadsRequest-append}
use Rattle.http_head.specs.Lines.{lines_of}
use Rattle.http_head.specs.Reading.{Reading, complete, bad, partial, head_of, are_over, without_head, reading_with, reading, field_line_limit}
use Rattle.http_head.specs.Laws.{BeginsWith, OthersByLines, BadStays, CompleteIsHead, HeadIsOne, CompleteStays, HeadAlone}
use Rattle.http_head.proofs.LineLemmas.{joined-lines_of, is_ended-lines_of}
use Rattle.http_head.proofs.FoundLemmas.{head_found}
use Rattle.http_head.proofs.TrueLemmas.{head_true}
use Rattle.http_head.proofs.CaseLemmas.{cond_is}
use Rattle.http_head.proofs.StaysLemmas.{glue_of, are_over_stays, head_stays}

-- without a head nothing is complete
pub without_head_is_incomplete : (lines : List (List ℕ)) → is_complete (without_head lines) ≡ false
without_head_is_incomplete lines = cond_both (are_over lines) bad partial (λ r. is_complete r ≡ false) (λ _. refl) (λ _. refl)

without_head_ends : (lines : List (List ℕ)) (h : RequestHead) → without_head lines ≡ complete h → ⊥
without_head_ends lines h e = both_ways _ (without_head_is_incomplete lines) (ap is_complete e)

complete_true : (o : Option RequestHead) (lines : List (List ℕ)) (h : RequestHead) → reading_with o lines ≡ complete h
    → (o ≡ Some h) × (length h.fields ≤ field_line_limit)
complete_true None lines h e = absurd (without_head_ends lines h e)
complete_true (Some k) lines h e =
    elim (cond_is (leb (length k.fields) field_line_limit) (complete k) (without_head lines) (complete h) e) [
      | inl few ↦
          let same : k ≡ h = cc in
          (ap Some same, subst (λ (g : RequestHead). length g.fields ≤ field_line_limit) same (leb-true _ _ few.0))
      | inr many ↦ absurd (without_head_ends lines h many.1)
    ]

pub begins_from_complete : (bytes : List ℕ) (h : RequestHead) → reading bytes ≡ complete h → BeginsWith bytes h
unfolding reading
begins_from_complete bytes h e =
    let found = complete_true (head_of (lines_of bytes)) (lines_of bytes) h e in
    let begins = head_true (lines_of bytes) h found.0 in
    ((begins.0, (begins.1.0, sym (joined-lines_of bytes) ∙ begins.1.1)), found.1)

pub complete_from_begins : (bytes : List ℕ) (h : RequestHead) → BeginsWith bytes h → reading bytes ≡ complete h
unfolding reading
complete_from_begins bytes h begins =
    let reads = begins.0.1 in
    let found : head_of (lines_of bytes) ≡ Some h =
    ap (λ xs. head_of (lines_of xs)) reads.1 ∙ head_found h begins.0.0 reads.0 in
    ap (λ o. reading_with o (lines_of bytes)) found ∙ cond-true _ _ _ (le-leb _ _ begins.1)

pub complete_is_head : CompleteIsHead
complete_is_head bytes head = (begins_from_complete bytes head, complete_from_begins bytes head)

pub head_is_one : HeadIsOne
head_is_one = request_unique

pub complete_stays : CompleteStays
complete_stays bytes more head e =
    let begins = begins_from_complete bytes head e in
    complete_from_begins (bytes ++ more) head
    ((begins.0.0 ++ more, ReadsRequest-append bytes head begins.0.0 more begins.0.1), begins.1)

pub head_alone : HeadAlone
head_alone bytes head e =
    let begins = begins_from_complete bytes head e in
    let whole = print_request head in
    let front : take (length whole) bytes ≡ whole ++ [] =
    ap (take (length whole)) begins.0.1.1 ∙ take-append_seam whole begins.0.0 ∙ sym (append-nil whole) in
    complete_from_begins (take (length whole) bytes) head (([], (begins.0.1.0, front)), begins.1)

-- the same of the first n bytes, by what the reading shows
pub reading-take : (bytes : List ℕ) (n : ℕ) → is_complete (reading bytes) ≡ true → n ≡ length_of (reading bytes)
    → reading (take n bytes) ≡ reading bytes
reading-take bytes n whole long = at (reading bytes) refl
  where
    at : (r : Reading) → reading bytes ≡ r → reading (take n bytes) ≡ reading bytes
    at (complete head) e =
        ap (λ k. reading (take k bytes)) (long ∙ ap length_of e) ∙ head_alone bytes head e ∙ sym e
    at bad e = absurd (both_ways (is_complete (reading bytes)) (ap is_complete e) whole)
    at partial e = absurd (both_ways (is_complete (reading bytes)) (ap is_complete e) whole)

-- where no prefix is a head that has few enough field lines, the lines alone tell
pub without_head_from_none : (bytes : List ℕ)
    → ((h : RequestHead) (rest : List ℕ) → ReadsRequest bytes h rest → length h.fields ≤ field_line_limit → ⊥)
    → reading bytes ≡ without_head (lines_of bytes)
unfolding reading
without_head_from_none bytes none = at (head_of (lines_of bytes)) refl
  where
    at : (o : Option RequestHead) → head_of (lines_of bytes) ≡ o
        → reading_with (head_of (lines_of bytes)) (lines_of bytes) ≡ without_head (lines_of bytes)
    at None e = ap (λ o. reading_with o (lines_of bytes)) e
    at (Some h) e =
        let begins = head_true (lines_of bytes) h e in
        let reads : ReadsRequest bytes h begins.0 = (begins.1.0, sym (joined-lines_of bytes) ∙ begins.1.1) in
        let many : leb (length h.fields) field_line_limit ≡ false =
        false_from_ne_true _ (λ few. none h begins.0 reads (leb-true _ _ few)) in
        ap (λ o. reading_with o (lines_of bytes)) e ∙ cond-false _ _ _ many

pub others_by_lines : OthersByLines
others_by_lines bytes none = without_head_from_none bytes (λ h rest reads few. none h ((rest, reads), few))

without_head_over : (lines : List (List ℕ)) → without_head lines ≡ bad → are_over lines ≡ true
without_head_over lines e =
    elim (cond_is (are_over lines) bad partial bad e) [
      | inl over ↦ over.0
      | inr left ↦ absurd cc
    ]

bad_is_over : (o : Option RequestHead) (lines : List (List ℕ)) → reading_with o lines ≡ bad → are_over lines ≡ true
bad_is_over None lines e = without_head_over lines e
bad_is_over (Some h) lines e =
    elim (cond_is (leb (length h.fields) field_line_limit) (complete h) (without_head lines) bad e) [
      | inl few ↦ absurd cc
      | inr many ↦ without_head_over lines many.1
    ]

pub bad_stays : BadStays
unfolding reading
bad_stays bytes more e =
    let over : are_over (lines_of bytes) ≡ true = bad_is_over (head_of (lines_of bytes)) (lines_of bytes) e in
    let glued = glue_of bytes more in
    let none : (head : RequestHead) → BeginsWith (bytes ++ more) head → ⊥ = λ head begins.
    let found = complete_true (head_of (lines_of (bytes ++ more))) (lines_of (bytes ++ more)) head (complete_from_begins (bytes ++ more) head begins) in
    let here = head_stays (lines_of bytes) (lines_of more) head over found.1 (is_ended-lines_of more) (sym (ap head_of glued) ∙ found.0) in
    let whole : reading_with (head_of (lines_of bytes)) (lines_of bytes) ≡ complete head =
    ap (λ o. reading_with o (lines_of bytes)) here ∙ cond-true _ _ _ (le-leb _ _ found.1) in
    both_ways false refl (ap is_complete (sym e ∙ whole)) in
    others_by_lines (bytes ++ more) none ∙ cond-true _ _ _ (ap are_over glued ∙ are_over_stays (lines_of bytes) (lines_of more) over)
