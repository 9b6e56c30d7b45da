-- Bytes whose lines are over, and that begin with no head, stay so whatever follows them.
use Rattle.std.proofs.Common.{◌≡◌, ℕ, suc, ◌+◌, ◌<◌, ◌≤◌, Bool, true, false, ◌&&◌, ◌||◌, eqb, cond, List, [], ◌∷◌, ◌++◌, length, refl, sym, ap, subst, ◌∙◌, inl, inr, ◌⊎◌, arith, Some, option_map}
use Rattle.std.specs.List.{onto_first, slice_split}
use Rattle.std.specs.Option.{option_and_then}
use Rattle.std.proofs.lemmas.Bool.{cond-true, cond-false, cond_both, both_ways, ltb-true, lt-ltb}
use Rattle.httparse.specs.Grammar.{LineEnd, Field, RequestHead}
use Rattle.http_head.specs.Lines.{lines_of, is_blank, is_ended, without_end, after_request_line, has_empty_line, field_lines}
use Rattle.http_head.specs.Reading.{section_of, field_of, head_of, head_with, after_blank, are_over, fields_over}
use Rattle.http_head.proofs.LineLemmas.{is_ended-lines_of}
use Rattle.http_head.proofs.TrueLemmas.{head_with_true}
use Rattle.http_head.proofs.CaseLemmas.{cond_is, some_is, and_then_is, map_is}

-- the lines of bytes and of what follows them: the last line goes on with the first
abbrev pub glue : List (List ℕ) → List (List ℕ) → List (List ℕ)
glue [] ms = ms
glue (l ∷ []) [] = l ∷ []
glue (l ∷ []) (m ∷ ms) = (l ++ m) ∷ ms
glue (l ∷ k ∷ ls) ms = l ∷ glue (k ∷ ls) ms

glue_ended : (k : List ℕ) (ls ms : List (List ℕ)) → is_ended (glue (k ∷ ls) ms) ≡ true
glue_ended k [] [] = refl
glue_ended k [] (m ∷ ms) = refl
glue_ended k (j ∷ ls) ms = refl

glue_start : (ms : List (List ℕ)) → is_ended ms ≡ true → ms ≡ glue ([] ∷ []) ms
glue_start [] e = absurd cc
glue_start (m ∷ ms) e = refl

glue_line : (ls ms : List (List ℕ)) → is_ended ls ≡ true → [] ∷ glue ls ms ≡ glue ([] ∷ ls) ms
glue_line [] ms e = absurd cc
glue_line (k ∷ ls) ms e = refl

glue_onto : (x : ℕ) (ls ms : List (List ℕ)) → is_ended ls ≡ true → is_ended ms ≡ true → onto_first x (glue ls ms) ≡ glue (onto_first x ls) ms
glue_onto x [] ms e f = absurd cc
glue_onto x (l ∷ []) [] e f = absurd cc
glue_onto x (l ∷ []) (m ∷ ms) e f = refl
glue_onto x (l ∷ k ∷ ls) ms e f = refl

pub glue_of : (xs ys : List ℕ) → lines_of (xs ++ ys) ≡ glue (lines_of xs) (lines_of ys)
glue_of [] ys = glue_start (lines_of ys) (is_ended-lines_of ys)
glue_of (x ∷ xs) ys = by (glue_of xs ys) (eqb x 10)
  where
    by : lines_of (xs ++ ys) ≡ glue (lines_of xs) (lines_of ys) → (b : Bool) → cond b ([] ∷ lines_of (xs ++ ys)) (onto_first x (lines_of (xs ++ ys))) ≡ glue (cond b ([] ∷ lines_of xs) (onto_first x (lines_of xs))) (lines_of ys)
    by rest true = ap (λ (ls : List (List ℕ)). [] ∷ ls) rest ∙ glue_line (lines_of xs) (lines_of ys) (is_ended-lines_of xs)
    by rest false = ap (onto_first x) rest ∙ glue_onto x (lines_of xs) (lines_of ys) (is_ended-lines_of xs) (is_ended-lines_of ys)

-- ---- blank or not
blank_or : (l : List ℕ) → (is_blank l ≡ true) ⊎ (is_blank l ≡ false)
blank_or l = by (is_blank l) refl
  where
    by : (b : Bool) → is_blank l ≡ b → (is_blank l ≡ true) ⊎ (is_blank l ≡ false)
    by true e = inl e
    by false e = inr e

blank_front : (l m : List ℕ) → is_blank l ≡ false → is_blank (l ++ m) ≡ false
blank_front [] m e = absurd cc
blank_front (b ∷ []) [] e = e
blank_front (b ∷ []) (c ∷ m) e = refl
blank_front (b ∷ c ∷ l) m e = refl

either : (a b : Bool) → (a || b) ≡ true → (a ≡ true) ⊎ (b ≡ true)
either true b e = inl refl
either false b e = inr e

single_open : (l : List ℕ) → has_empty_line (l ∷ []) ≡ false
single_open l = by (is_blank l)
  where
    by : (b : Bool) → ((b && false) || false) ≡ false
    by true = refl
    by false = refl

count_blank : (l : List ℕ) (ls : List (List ℕ)) → is_blank l ≡ true → field_lines (l ∷ ls) ≡ 0
count_blank l ls e = cond-true _ _ _ e

count_line : (l : List ℕ) (ls : List (List ℕ)) → is_blank l ≡ false → field_lines (l ∷ ls) ≡ 1 + field_lines ls
count_line l ls e = cond-false _ _ _ e

-- ---- lines that are over stay so
has_stays : (fs ms : List (List ℕ)) → has_empty_line fs ≡ true → has_empty_line (glue fs ms) ≡ true
has_stays [] ms e = absurd cc
has_stays (l ∷ []) ms e = absurd (both_ways _ (single_open l) e)
has_stays (l ∷ k ∷ ls) ms e = by (λ f. has_stays (k ∷ ls) ms f) (is_blank l) e
  where
    by : (has_empty_line (k ∷ ls) ≡ true → has_empty_line (glue (k ∷ ls) ms) ≡ true) → (b : Bool) → ((b && true) || has_empty_line (k ∷ ls)) ≡ true
        → ((b && is_ended (glue (k ∷ ls) ms)) || has_empty_line (glue (k ∷ ls) ms)) ≡ true
    by rest true e = ap (λ (b : Bool). b || has_empty_line (glue (k ∷ ls) ms)) (glue_ended k ls ms)
    by rest false e = rest e

lines_stay : (fs ms : List (List ℕ)) → field_lines fs ≤ field_lines (glue fs ms)
lines_stay [] ms = omega arith
lines_stay (l ∷ []) [] = omega arith
lines_stay (l ∷ []) (m ∷ ms) =
    elim (blank_or l) [
      | inl blank ↦ let none = count_blank l [] blank in omega arith
      | inr line ↦
          let one = count_line l [] line in
          let more = count_line (l ++ m) ms (blank_front l m line) in
          omega arith
    ]
lines_stay (l ∷ k ∷ ls) ms =
    elim (blank_or l) [
      | inl blank ↦ let none = count_blank l (k ∷ ls) blank in omega arith
      | inr line ↦
          let one = count_line l (k ∷ ls) line in
          let more = count_line l (glue (k ∷ ls) ms) line in
          let rest = lines_stay (k ∷ ls) ms in
          omega arith
    ]

or_left : (a b : Bool) → a ≡ true → (a || b) ≡ true
or_left true b e = refl
or_left false b e = absurd cc

or_right : (a b : Bool) → b ≡ true → (a || b) ≡ true
or_right true b e = refl
or_right false b e = e

over_stays : (fs ms : List (List ℕ)) → fields_over fs ≡ true → fields_over (glue fs ms) ≡ true
over_stays fs ms e =
    elim (either (has_empty_line fs) _ e) [
      | inl ended ↦ or_left _ _ (has_stays fs ms ended)
      | inr many ↦
          let above : 64 < field_lines fs = ltb-true 64 (field_lines fs) many in
          let rest = lines_stay fs ms in
          or_right (has_empty_line (glue fs ms)) _ (lt-ltb 64 (field_lines (glue fs ms)) (omega arith))
    ]

one_open : (l : List ℕ) → fields_over (after_request_line (l ∷ [])) ≡ false
one_open l = cond_both (is_blank l) [] [] (λ (x : List (List ℕ)). fields_over x ≡ false) (λ _. refl) (λ _. refl)

after_stays : (ls ms : List (List ℕ)) → fields_over (after_request_line ls) ≡ true → after_request_line (glue ls ms) ≡ glue (after_request_line ls) ms
after_stays [] ms over = absurd cc
after_stays (l ∷ []) ms over = absurd (both_ways _ (one_open l) over)
after_stays (l ∷ k ∷ ls) ms over =
    elim (blank_or l) [
      | inl blank ↦
          let here : after_request_line (l ∷ k ∷ ls) ≡ after_request_line (k ∷ ls) = cond-true _ _ _ blank in
          cond-true _ _ _ blank ∙ after_stays (k ∷ ls) ms (sym (ap fields_over here) ∙ over) ∙ ap (λ (x : List (List ℕ)). glue x ms) (sym here)
      | inr line ↦
          let here : after_request_line (l ∷ k ∷ ls) ≡ k ∷ ls = cond-false _ _ _ line in
          cond-false _ _ _ line ∙ ap (λ (x : List (List ℕ)). glue x ms) (sym here)
    ]

pub are_over_stays : (ls ms : List (List ℕ)) → are_over ls ≡ true → are_over (glue ls ms) ≡ true
are_over_stays ls ms over = ap fields_over (after_stays ls ms over) ∙ over_stays (after_request_line ls) ms over

-- ---- what a head that begins the bytes and more takes of them
-- after so many field lines: the empty line has come, or one field line too many has begun
Over : ℕ → List (List ℕ) → Type 0
Over n fs = (has_empty_line fs ≡ true) ⊎ (64 < n + field_lines fs)

rest_over : (n : ℕ) (l k : List ℕ) (ls : List (List ℕ)) → is_blank l ≡ false → Over n (l ∷ k ∷ ls) → Over (n + 1) (k ∷ ls)
unfolding Over
rest_over n l k ls line (inl e) = inl (subst (λ (b : Bool). ((b && true) || has_empty_line (k ∷ ls)) ≡ true) line e)
rest_over n l k ls line (inr many) = let one = count_line l (k ∷ ls) line in inr (omega arith)

section_stays : (n : ℕ) (fs ms : List (List ℕ)) (s : List Field × LineEnd) → Over n fs → n + length s.0 ≤ 64
    → is_ended ms ≡ true → section_of (glue fs ms) ≡ Some s → section_of fs ≡ Some s
unfolding Over
section_stays n [] ms s (inl e) few ended found = absurd cc
section_stays n [] ms s (inr many) few ended found = absurd (omega arith)
section_stays n (l ∷ []) [] s over few ended found = absurd cc
section_stays n (l ∷ []) (m ∷ ms) s (inl e) few ended found = absurd (both_ways _ (single_open l) e)
section_stays n (l ∷ []) (m ∷ ms) s (inr many) few ended found =
    elim (blank_or l) [
      | inl blank ↦ let none = count_blank l [] blank in absurd (omega arith)
      | inr line ↦
          let one = count_line l [] line in
          let field : option_and_then _ (field_of (l ++ m)) ≡ Some s = sym (cond-false _ _ _ (blank_front l m line)) ∙ found in
          let f = and_then_is _ (field_of (l ++ m)) s field in
          let more = map_is _ (section_of ms) s f.2 in
          let long : suc (length more.0.0) ≡ length s.0 = ap (λ (s : List Field × LineEnd). length s.0) more.2 in
          absurd (omega arith)
    ]
section_stays n (l ∷ k ∷ ls) ms s over few ended found =
    elim (cond_is (is_blank l) _ _ (Some s) found) [
      | inl blank ↦ cond-true _ _ _ blank.0 ∙ (some_is (is_ended (glue (k ∷ ls) ms)) _ s blank.1).1
      | inr field ↦
          let f = and_then_is _ (field_of l) s field.1 in
          let more = map_is _ (section_of (glue (k ∷ ls) ms)) s f.2 in
          let long : suc (length more.0.0) ≡ length s.0 = ap (λ (s : List Field × LineEnd). length s.0) more.2 in
          let rest = section_stays (n + 1) (k ∷ ls) ms more.0 (rest_over n l k ls field.0 over) (omega arith) ended more.1 in
          cond-false _ _ _ field.0
          ∙ ap (option_and_then (λ g. option_map (λ (t : List Field × LineEnd). (g ∷ t.0, t.1)) (section_of (k ∷ ls)))) f.1
          ∙ ap (option_map (λ (t : List Field × LineEnd). (f.0 ∷ t.0, t.1))) rest ∙ ap Some more.2
    ]

over_at : (fs : List (List ℕ)) → fields_over fs ≡ true → Over 0 fs
unfolding Over
over_at fs e =
    elim (either (has_empty_line fs) _ e) [
      | inl ended ↦ inl ended
      | inr many ↦ let above : 64 < field_lines fs = ltb-true 64 (field_lines fs) many in inr (omega arith)
    ]

pub head_stays : (ls ms : List (List ℕ)) (h : RequestHead) → fields_over (after_request_line ls) ≡ true → length h.fields ≤ 64
    → is_ended ms ≡ true → head_of (glue ls ms) ≡ Some h → head_of ls ≡ Some h
head_stays [] ms h over few ended found = absurd cc
head_stays (l ∷ []) ms h over few ended found = absurd (both_ways _ (one_open l) over)
head_stays (l ∷ k ∷ ls) ms h over few ended found =
    elim (cond_is (is_blank l) _ _ (Some h) found) [
      | inl blank ↦
          let here : after_request_line (l ∷ k ∷ ls) ≡ after_request_line (k ∷ ls) = cond-true _ _ _ blank.0 in
          let g = map_is (after_blank (without_end l).1) (head_of (glue (k ∷ ls) ms)) h blank.1 in
          let same : length g.0.fields ≡ length h.fields = ap (λ (h : RequestHead). length h.fields) g.2 in
          let rest = head_stays (k ∷ ls) ms g.0 (sym (ap fields_over here) ∙ over) (omega arith) ended g.1 in
          cond-true _ _ _ blank.0 ∙ ap (option_map (after_blank (without_end l).1)) rest ∙ ap Some g.2
      | inr request ↦
          let here : after_request_line (l ∷ k ∷ ls) ≡ k ∷ ls = cond-false _ _ _ request.0 in
          let words : List (List ℕ) = slice_split (λ b. eqb b 32) (without_end l).0 in
          let s = and_then_is (head_with words (without_end l).1) (section_of (glue (k ∷ ls) ms)) h request.1 in
          let made = head_with_true words (without_end l).1 s.0 h s.2 in
          let same : length h.fields ≡ length s.0.0 = ap (λ (fs : List Field). length fs) made.fields in
          let rest = section_stays 0 (k ∷ ls) ms s.0 (over_at (k ∷ ls) (sym (ap fields_over here) ∙ over)) (omega arith) ended s.1 in
          cond-false _ _ _ request.0 ∙ ap (option_and_then (head_with words (without_end l).1)) rest ∙ s.2
    ]
