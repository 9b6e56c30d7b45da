-- What is found at the front of the bytes is a head of the grammar.
use Rattle.std.proofs.Common.{◌≡◌, ℕ, suc, ◌+◌, ◌≤◌, Bool, true, false, not, ◌&&◌, ◌||◌, eqb, ltb, List, [], ◌∷◌, ◌++◌, length, take, drop, refl, sym, ap, subst, ◌∙◌, inl, inr, arith, append_assoc, All, Some, codes}
use Rattle.std.specs.List.{slice_split, join_with_byte, list_all, list_any, position_or_len, before_first, after_first}
use Rattle.std.specs.Str.{bytes_eq, is_utf8}
use Rattle.std.proofs.lemmas.Bool.{cond-true, cond-false, and_parts, ltb-true, eqb-true}
use Rattle.std.proofs.lemmas.List.Elements.{All-cons, All-nil}
use Rattle.std.proofs.lemmas.List.Splits.{join_with_byte-slice_split}
use Rattle.std.proofs.lemmas.List.Sums.{AllPass-from_list_all}
use Rattle.std.proofs.lemmas.Slice.Eq.{bytes_eq-Decides}
use Rattle.std.proofs.lemmas.Str.{IsUtf8-from_is_utf8}
use Rattle.httparse.specs.Grammar.{LineEnd, print_end, print_blank, print_version, Field, IsField, IsToken, print_section, ReadsSection, is_token, is_token_byte, is_uri_byte, is_value_byte, RequestHead, IsRequestHead, print_request, ReadsRequest}
use Rattle.httparse.proofs.GrammarLemmas.{print_request-append}
use Rattle.http_head.specs.Lines.{is_blank, is_ended, without_end}
use Rattle.http_head.specs.Reading.{field_with, field_of, section_of, head_with, head_of, after_blank, minor_version, is_target}
use Rattle.http_head.proofs.LineLemmas.{blank_end, joined, joined-line}
use Rattle.http_head.proofs.FoundLemmas.{line_of, request_line, print_request-line, print_section-cons}
use Rattle.http_head.proofs.CaseLemmas.{cond_is, some_is, and_then_is, map_is}

-- ---- the first byte of a kind

abbrev IsCut : ℕ → List ℕ → ℕ → Type 0
IsCut c xs n = xs ≡ take n xs ++ c ∷ drop (n + 1) xs

cut_here : (c x : ℕ) (xs : List ℕ) → eqb x c ≡ true → IsCut c (x ∷ xs) (position_or_len (λ b. eqb b c) (x ∷ xs))
cut_here c x xs same =
    let none : position_or_len (λ b. eqb b c) (x ∷ xs) ≡ 0 = cond-false _ _ _ (ap not same) in
    subst (λ n. IsCut c (x ∷ xs) n) (sym none) (ap (λ y. y ∷ xs) (eqb-true x c same))

cut_later : (c x : ℕ) (xs : List ℕ) → eqb x c ≡ false → IsCut c xs (position_or_len (λ b. eqb b c) xs)
    → IsCut c (x ∷ xs) (position_or_len (λ b. eqb b c) (x ∷ xs))
cut_later c x xs other cut =
    let n = position_or_len (λ b. eqb b c) xs in
    let one : 1 + n ≡ suc n = omega arith in
    let more : position_or_len (λ b. eqb b c) (x ∷ xs) ≡ suc n = cond-true _ _ _ (ap not other) ∙ one in
    let past : suc n + 1 ≡ suc (n + 1) = omega arith in
    subst (λ n. IsCut c (x ∷ xs) n) (sym more)
    (ap (λ ys. x ∷ ys) cut ∙ ap (λ m. x ∷ (take n xs ++ c ∷ drop m (x ∷ xs))) (sym past))

first_cut : (c : ℕ) (xs : List ℕ) → list_any (λ b. eqb b c) xs ≡ true → IsCut c xs (position_or_len (λ b. eqb b c) xs)
first_cut c [] any = absurd cc
first_cut c (x ∷ xs) any = at (eqb x c) refl (first_cut c xs)
  where
    at : (b : Bool) → eqb x c ≡ b → (list_any (λ b. eqb b c) xs ≡ true → IsCut c xs (position_or_len (λ b. eqb b c) xs))
        → IsCut c (x ∷ xs) (position_or_len (λ b. eqb b c) (x ∷ xs))
    at true same rest = cut_here c x xs same
    at false other rest = cut_later c x xs other (rest (sym (ap (λ b. b || list_any (λ b. eqb b c) xs) other) ∙ any))

-- ---- field lines

IsToken-from : (bytes : List ℕ) → is_token bytes ≡ true → IsToken bytes
IsToken-from bytes token =
    let parts = and_parts (ltb 0 (length bytes)) (list_all is_token_byte bytes) token in
    (ltb-true 0 (length bytes) parts.0, AllPass-from_list_all is_token_byte bytes parts.1)

-- the line is that of the field
record IsLineOf (line : List ℕ) (f : Field) : Type 0 where
  is : IsField f
  bytes : (without_end line).0 ≡ line_of f
  end : (without_end line).1 ≡ f.end

field_with_true : (name raw : List ℕ) (end : LineEnd) (f : Field) → field_with name raw end ≡ Some f
    → IsField f × (line_of f ≡ name ++ 58 ∷ raw) × (f.end ≡ end)
field_with_true name raw end f e =
    let some = some_is (is_token name && list_all is_value_byte raw) _ f e in
    let parts = and_parts (is_token name) (list_all is_value_byte raw) some.0 in
    let made : Field = record { name = name; raw = raw; end = end } in
    let same : made ≡ f = cc in
    subst (λ (g : Field). IsField g × (line_of g ≡ name ++ 58 ∷ raw) × (g.end ≡ end)) same
    (record { name = IsToken-from name parts.0; raw = AllPass-from_list_all is_value_byte raw parts.1 }, refl, refl)

field_of_true : (line : List ℕ) (f : Field) → field_of line ≡ Some f → IsLineOf line f
field_of_true line f e =
    let w = (without_end line).0 in
    let some = some_is (list_any (λ b. eqb b 58) w) _ f e in
    let made = field_with_true (before_first (λ b. eqb b 58) w) (after_first (λ b. eqb b 58) w) (without_end line).1 f some.1 in
    record { is = made.0; bytes = first_cut 58 w some.0 ∙ sym made.1; end = sym made.2 }

-- ---- the section

section_is_ended : (lines : List (List ℕ)) (s : List Field × LineEnd) → section_of lines ≡ Some s → is_ended lines ≡ true
section_is_ended [] s e = absurd cc
section_is_ended (line ∷ lines) s e = refl

abbrev BeginsWithSection : List (List ℕ) → List Field × LineEnd → Type 0
BeginsWithSection lines s = (rest : List ℕ) × ReadsSection (joined lines) s.0 s.1 rest

section_ends : (line : List ℕ) (lines : List (List ℕ)) → is_blank line ≡ true → is_ended lines ≡ true
    → BeginsWithSection (line ∷ lines) ([], (without_end line).1)
section_ends line lines blank ended = (
  joined lines,
  (
    All-nil IsField,
    joined-line line lines ended ∙ ap (λ xs. xs ++ (print_end (without_end line).1 ++ joined lines)) (blank_end line blank),
  ),
)

section_begins : (line : List ℕ) (lines : List (List ℕ)) (f : Field) (s : List Field × LineEnd) → IsLineOf line f
    → is_ended lines ≡ true → BeginsWithSection lines s → BeginsWithSection (line ∷ lines) (f ∷ s.0, s.1)
section_begins line lines f s is ended reads = (
  reads.0,
  (
    All-cons IsField f s.0 is.is reads.1.0,
    joined-line line lines ended
        ∙ ap (λ xs. xs ++ (print_end (without_end line).1 ++ joined lines)) is.bytes
        ∙ ap (λ e. line_of f ++ (print_end e ++ joined lines)) is.end
        ∙ ap (λ xs. line_of f ++ (print_end f.end ++ xs)) reads.1.1
        ∙ sym (print_section-cons f s.0 s.1 reads.0),
  ),
)

section_true : (lines : List (List ℕ)) (s : List Field × LineEnd) → section_of lines ≡ Some s → BeginsWithSection lines s
section_true [] s e = absurd cc
section_true (line ∷ lines) s e =
    elim (cond_is (is_blank line) _ _ (Some s) e) [
      | inl blank ↦
          let ended = some_is (is_ended lines) _ s blank.1 in
          let same : ([], (without_end line).1) ≡ s = cc in
          subst (BeginsWithSection (line ∷ lines)) same (section_ends line lines blank.0 ended.0)
      | inr field ↦
          let found = and_then_is _ (field_of line) s field.1 in
          let more = map_is _ (section_of lines) s found.2 in
          subst (BeginsWithSection (line ∷ lines)) more.2
          (section_begins line lines found.0 more.0 (field_of_true line found.0 found.1) (section_is_ended lines more.0 more.1)
          (section_true lines more.0 more.1))
    ]

-- ---- the head

minor_version_true : (version : List ℕ) (minor : ℕ) → minor_version version ≡ Some minor
    → (minor ≤ 1) × (version ≡ print_version minor)
minor_version_true version minor e =
    elim (cond_is (bytes_eq version (codes "HTTP/1.0")) _ _ (Some minor) e) [
      | inl zeroth ↦
          let same : 0 ≡ minor = cc in
          (omega arith, (bytes_eq-Decides version (codes "HTTP/1.0")).0 zeroth.0 ∙ ap print_version same)
      | inr other ↦
          let first = some_is (bytes_eq version (codes "HTTP/1.1")) _ minor other.1 in
          let same : 1 ≡ minor = cc in
          (omega arith, (bytes_eq-Decides version (codes "HTTP/1.1")).0 first.0 ∙ ap print_version same)
    ]

-- the head that these words, this line end and these fields make
pub record IsMadeOf (words : List (List ℕ)) (end : LineEnd) (s : List Field × LineEnd) (h : RequestHead) : Type 0 where
  pub words_are : words ≡ h.method ∷ h.target ∷ print_version h.minor ∷ []
  pub blank : h.blank ≡ []
  pub line_end : h.line_end ≡ end
  pub fields : h.fields ≡ s.0
  pub last : h.last ≡ s.1
  pub is : All IsField s.0 → IsRequestHead h

pub head_with_true : (words : List (List ℕ)) (end : LineEnd) (s : List Field × LineEnd) (h : RequestHead)
    → head_with words end s ≡ Some h → IsMadeOf words end s h
head_with_true [] end s h e = absurd cc
head_with_true (method ∷ []) end s h e = absurd cc
head_with_true (method ∷ target ∷ []) end s h e = absurd cc
head_with_true (method ∷ target ∷ version ∷ []) end s h e =
    let some = some_is (is_token method && is_target target) _ h e in
    let parts = and_parts (is_token method) (is_target target) some.0 in
    let target_parts = and_parts (ltb 0 (length target) && list_all is_uri_byte target) (is_utf8 target) parts.1 in
    let byte_parts = and_parts (ltb 0 (length target)) (list_all is_uri_byte target) target_parts.0 in
    let made = map_is _ (minor_version version) h some.1 in
    let minor = minor_version_true version made.0 made.1 in
    subst (IsMadeOf (method ∷ target ∷ version ∷ []) end s) made.2 (record {
      words_are = ap (λ v. method ∷ target ∷ v ∷ []) minor.1;
      blank = refl;
      line_end = refl;
      fields = refl;
      last = refl;
      is = λ all. record {
        method = IsToken-from method parts.0;
        target = (ltb-true 0 (length target) byte_parts.0, AllPass-from_list_all is_uri_byte target byte_parts.1);
        target_text = IsUtf8-from_is_utf8 target target_parts.1;
        minor = minor.0;
        fields = all;
      };
    })
head_with_true (method ∷ target ∷ version ∷ word ∷ words) end s h e = absurd cc

abbrev BeginsWithHead : List (List ℕ) → RequestHead → Type 0
BeginsWithHead lines h = (rest : List ℕ) × ReadsRequest (joined lines) h rest

head_is_ended : (lines : List (List ℕ)) (h : RequestHead) → head_of lines ≡ Some h → is_ended lines ≡ true
head_is_ended [] h e = absurd cc
head_is_ended (line ∷ lines) h e = refl

print_request-after_blank : (e : LineEnd) (h : RequestHead) (rest : List ℕ)
    → print_request (after_blank e h) ++ rest ≡ print_end e ++ (print_request h ++ rest)
print_request-after_blank e h rest =
    print_request-append (after_blank e h) rest
    ∙ append_assoc (print_end e) (print_blank h.blank) _
    ∙ ap (λ xs. print_end e ++ xs) (sym (print_request-append h rest))

blank_begins : (line : List ℕ) (lines : List (List ℕ)) (h : RequestHead) → is_blank line ≡ true → is_ended lines ≡ true
    → BeginsWithHead lines h → BeginsWithHead (line ∷ lines) (after_blank (without_end line).1 h)
blank_begins line lines h blank ended reads =
    let is = reads.1.0 in (
      reads.0,
      (
        record { method = is.method; target = is.target; target_text = is.target_text; minor = is.minor; fields = is.fields },
        joined-line line lines ended
            ∙ ap (λ xs. xs ++ (print_end (without_end line).1 ++ joined lines)) (blank_end line blank)
            ∙ ap (λ xs. print_end (without_end line).1 ++ xs) reads.1.1
            ∙ sym (print_request-after_blank (without_end line).1 h reads.0),
      ),
    )

words_line : (line : List ℕ) (method target version : List ℕ)
    → slice_split (λ b. eqb b 32) line ≡ method ∷ target ∷ version ∷ [] → line ≡ method ++ 32 ∷ (target ++ 32 ∷ version)
words_line line method target version words = sym (join_with_byte-slice_split 32 line) ∙ ap (join_with_byte 32) words

line_begins : (line : List ℕ) (lines : List (List ℕ)) (s : List Field × LineEnd) (h : RequestHead)
    → IsMadeOf (slice_split (λ b. eqb b 32) (without_end line).0) (without_end line).1 s h
    → is_ended lines ≡ true → BeginsWithSection lines s → BeginsWithHead (line ∷ lines) h
line_begins line lines s h made ended reads = (
  reads.0,
  (
    made.is reads.1.0,
    joined-line line lines ended
        ∙ ap (λ xs. xs ++ (print_end (without_end line).1 ++ joined lines)) (words_line _ h.method h.target _ made.words_are)
        ∙ ap (λ e. request_line h ++ (print_end e ++ joined lines)) (sym made.line_end)
        ∙ ap (λ xs. request_line h ++ (print_end h.line_end ++ xs)) reads.1.1
        ∙ ap (λ fields. request_line h ++ (print_end h.line_end ++ (print_section fields s.1 ++ reads.0))) (sym made.fields)
        ∙ ap (λ last. request_line h ++ (print_end h.line_end ++ (print_section h.fields last ++ reads.0))) (sym made.last)
        ∙ ap (λ ends. print_blank ends ++ (request_line h ++ (print_end h.line_end ++ (print_section h.fields h.last ++ reads.0)))) (sym made.blank)
        ∙ sym (print_request-line h reads.0),
  ),
)

pub head_true : (lines : List (List ℕ)) (h : RequestHead) → head_of lines ≡ Some h → BeginsWithHead lines h
head_true [] h e = absurd cc
head_true (line ∷ lines) h e =
    elim (cond_is (is_blank line) _ _ (Some h) e) [
      | inl blank ↦
          let found = map_is (after_blank (without_end line).1) (head_of lines) h blank.1 in
          subst (BeginsWithHead (line ∷ lines)) found.2
          (blank_begins line lines found.0 blank.0 (head_is_ended lines found.0 found.1) (head_true lines found.0 found.1))
      | inr request ↦
          let found = and_then_is _ (section_of lines) h request.1 in
          line_begins line lines found.0 h (head_with_true _ (without_end line).1 found.0 h found.2)
          (section_is_ended lines found.0 found.1) (section_true lines found.0 found.1)
    ]
