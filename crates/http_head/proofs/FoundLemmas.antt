-- A head of the grammar is found at the front of the bytes that it begins.
use Rattle.std.proofs.Common.{◌≡◌, ℕ, zero, suc, length-append, ◌+◌, ◌<◌, ◌≤◌, true, false, eqb, not, List, [], ◌∷◌, ◌++◌, length, take, drop, refl, ap, ◌∙◌, cond, arith, append_assoc, All, Some, None, option_map, eq-eqb}
use Rattle.std.specs.List.{slice_split, list_any, position_or_len, before_first, after_first, flat_map}
use Rattle.std.specs.Option.{option_and_then}
use Rattle.std.proofs.lemmas.Bool.{cond-true, cond-false, and_from, or_left, or_right, lt-ltb}
use Rattle.std.proofs.lemmas.List.Folds.{list_any-append}
use Rattle.std.proofs.Math.Seq.{take-append_seam, drop-append-add}
use Rattle.std.proofs.lemmas.List.Elements.{All-append, All-cons, All-nil, All-head, All-tail}
use Rattle.std.proofs.lemmas.List.Splits.{slice_split_at, slice_split_none}
use Rattle.std.proofs.lemmas.List.Sums.{AllPass-from_list_all, list_all-from_AllPass}
use Rattle.std.proofs.lemmas.Str.{is_utf8-from_IsUtf8}
use Rattle.httparse.specs.Grammar.{LineEnd, crlf, lf, print_end, print_blank, print_version, AllPass, Field, IsField, IsToken, print_field, print_section, is_token, is_token_byte, is_uri_byte, is_value_byte, RequestHead, IsRequestHead, print_request}
use Rattle.httparse.proofs.GrammarLemmas.{print_request-append, cons-append}
use Rattle.http_head.specs.Lines.{lines_of, is_blank, without_end}
use Rattle.http_head.specs.Reading.{field_with, field_of, section_of, head_with, head_of, after_blank, minor_version, is_target}
use Rattle.http_head.proofs.LineLemmas.{return_of, Not, others_pass, without_end_of, long_is_no_blank, lines_of-line, is_ended-lines_of}

-- ---- what stands around the first byte of a kind

position-is : (c : ℕ) (front back : List ℕ) → All (Not c) front → position_or_len (λ b. eqb b c) (front ++ c ∷ back) ≡ length front
position-is c [] back none = cond-false _ _ _ (ap not (eq-eqb c c refl))
position-is c (x ∷ front) back none =
    let rest : position_or_len (λ b. eqb b c) (front ++ c ∷ back) ≡ length front =
    position-is c front back (All-tail (Not c) x front none) in
    cond-true _ _ _ (ap not (All-head (Not c) x front none)) ∙ omega (arith, rest)

module _ (c : ℕ) (front back : List ℕ) (none : All (Not c) front) where
  before-is : before_first (λ b. eqb b c) (front ++ c ∷ back) ≡ front
  before-is = ap (λ n. take n (front ++ c ∷ back)) (position-is c front back none) ∙ take-append_seam front (c ∷ back)

  after-is : after_first (λ b. eqb b c) (front ++ c ∷ back) ≡ back
  after-is =
      ap (λ n. drop (n + 1) (front ++ c ∷ back)) (position-is c front back none) ∙ drop-append-add front (c ∷ back) 1

any-is : (c : ℕ) (front back : List ℕ) → list_any (λ b. eqb b c) (front ++ c ∷ back) ≡ true
any-is c front back =
    list_any-append (λ b. eqb b c) front (c ∷ back)
    ∙ or_right _ _ (or_left (eqb c c) (list_any (λ b. eqb b c) back) (eq-eqb c c refl))

-- ---- bytes of each kind

token_not : (c : ℕ) (bytes : List ℕ) → is_token_byte c ≡ false → IsToken bytes → All (Not c) bytes
token_not c bytes fails token = others_pass is_token_byte c bytes fails token.1

is_token-from : (bytes : List ℕ) → IsToken bytes → is_token bytes ≡ true
is_token-from bytes token =
    and_from _ _ (lt-ltb 0 (length bytes) token.0) (list_all-from_AllPass is_token_byte bytes token.1)

no_space_in_token : is_token_byte 32 ≡ false
unfolding is_token_byte
no_space_in_token = refl

no_colon_in_token : is_token_byte 58 ≡ false
unfolding is_token_byte
no_colon_in_token = refl

no_return_in_token : is_token_byte 13 ≡ false
unfolding is_token_byte
no_return_in_token = refl

no_feed_in_token : is_token_byte 10 ≡ false
unfolding is_token_byte
no_feed_in_token = refl

-- ---- field lines

abbrev pub line_of : Field → List ℕ
line_of f = f.name ++ 58 ∷ f.raw

no_return_in_line : (f : Field) → IsField f → All (Not 13) (line_of f)
no_return_in_line f is =
    All-append (Not 13) f.name (58 ∷ f.raw) (token_not 13 f.name no_return_in_token is.name)
    (All-cons (Not 13) 58 f.raw refl (others_pass is_value_byte 13 f.raw refl is.raw))

field_of-line : (f : Field) → IsField f → field_of (line_of f ++ return_of f.end) ≡ Some f
field_of-line f is =
    let no_colon = token_not 58 f.name no_colon_in_token is.name in
    ap (λ (w : List ℕ × LineEnd). cond (list_any (λ b. eqb b 58) w.0) (field_with (before_first (λ b. eqb b 58) w.0) (after_first (λ b. eqb b 58) w.0) w.1) None)
    (without_end_of (line_of f) f.end (no_return_in_line f is))
    ∙ cond-true _ _ _ (any-is 58 f.name f.raw)
    ∙ ap (λ name. field_with name (after_first (λ b. eqb b 58) (line_of f)) f.end) (before-is 58 f.name f.raw no_colon)
    ∙ ap (λ raw. field_with f.name raw f.end) (after-is 58 f.name f.raw no_colon)
    ∙ cond-true _ _ _ (and_from _ _ (is_token-from f.name is.name) (list_all-from_AllPass is_value_byte f.raw is.raw))

no_feed_in_line : (f : Field) → IsField f → All (Not 10) (line_of f)
no_feed_in_line f is =
    All-append (Not 10) f.name (58 ∷ f.raw) (token_not 10 f.name no_feed_in_token is.name)
    (All-cons (Not 10) 58 f.raw refl (others_pass is_value_byte 10 f.raw refl is.raw))

field_is_no_blank : (f : Field) → IsField f → is_blank (line_of f ++ return_of f.end) ≡ false
field_is_no_blank f is =
    let long : 0 < length f.name = is.name.0 in
    long_is_no_blank (line_of f ++ return_of f.end)
    (simp (length-append) (omega arith))

-- ---- the section

blank_return : (e : LineEnd) → is_blank (return_of e) ≡ true
blank_return crlf = refl
blank_return lf = refl

return_end : (e : LineEnd) → (without_end (return_of e)).1 ≡ e
return_end crlf = refl
return_end lf = refl

regroup : (a b c d e : List ℕ) → (((a ++ b) ++ c) ++ d) ++ e ≡ a ++ (b ++ ((c ++ d) ++ e))
regroup a b c d e = simp append_assoc

pub print_section-cons : (f : Field) (fs : List Field) (last : LineEnd) (rest : List ℕ)
    → print_section (f ∷ fs) last ++ rest ≡ line_of f ++ (print_end f.end ++ (print_section fs last ++ rest))
print_section-cons f fs last rest =
    regroup (line_of f) (print_end f.end) (flat_map print_field fs) (print_end last) rest

section_found : (fs : List Field) (last : LineEnd) (rest : List ℕ) → All IsField fs
    → section_of (lines_of (print_section fs last ++ rest)) ≡ Some (fs, last)
section_found [] last rest all =
    ap section_of (lines_of-line [] last rest (All-nil (Not 10)))
    ∙ cond-true _ _ _ (blank_return last)
    ∙ cond-true _ _ _ (is_ended-lines_of rest)
    ∙ ap (λ e. Some ([], e)) (return_end last)
section_found (f ∷ fs) last rest all =
    let is = All-head IsField f fs all in
    let more = print_section fs last ++ rest in
    ap (λ bytes. section_of (lines_of bytes)) (print_section-cons f fs last rest)
    ∙ ap section_of (lines_of-line (line_of f) f.end more (no_feed_in_line f is))
    ∙ cond-false _ _ _ (field_is_no_blank f is)
    ∙ ap (λ o. option_and_then (λ g. option_map (λ (s : List Field × LineEnd). (g ∷ s.0, s.1)) (section_of (lines_of more))) o) (field_of-line f is)
    ∙ ap (λ o. option_map (λ (s : List Field × LineEnd). (f ∷ s.0, s.1)) o) (section_found fs last rest (All-tail IsField f fs all))

-- ---- the request line

minor_version-print : (minor : ℕ) → minor ≤ 1 → minor_version (print_version minor) ≡ Some minor
minor_version-print zero low = refl
minor_version-print (suc zero) low = refl
minor_version-print (suc (suc n)) low = absurd (omega arith)

version_bytes : (minor : ℕ) → minor ≤ 1 → AllPass is_uri_byte (print_version minor)
version_bytes zero low = AllPass-from_list_all is_uri_byte (print_version 0) refl
version_bytes (suc zero) low = AllPass-from_list_all is_uri_byte (print_version 1) refl
version_bytes (suc (suc n)) low = absurd (omega arith)

abbrev pub request_line : RequestHead → List ℕ
request_line h = h.method ++ 32 ∷ (h.target ++ 32 ∷ print_version h.minor)

words-request_line : (h : RequestHead) → IsRequestHead h
    → slice_split (λ b. eqb b 32) (request_line h) ≡ h.method ∷ h.target ∷ print_version h.minor ∷ []
words-request_line h is =
    let version = slice_split_none (λ b. eqb b 32) (print_version h.minor)
    (others_pass is_uri_byte 32 (print_version h.minor) refl (version_bytes h.minor is.minor)) in
    let target = slice_split_at (λ b. eqb b 32) h.target 32 (print_version h.minor)
    (others_pass is_uri_byte 32 h.target refl is.target.1) refl in
    slice_split_at (λ b. eqb b 32) h.method 32 (h.target ++ 32 ∷ print_version h.minor)
    (token_not 32 h.method no_space_in_token is.method) refl
    ∙ ap (λ words. h.method ∷ words) (target ∙ ap (λ words. h.target ∷ words) version)

-- a byte that is in no token, in no target and no space is not in the line
request_line_not : (c : ℕ) (h : RequestHead) → is_token_byte c ≡ false → is_uri_byte c ≡ false → eqb 32 c ≡ false
    → IsRequestHead h → All (Not c) (request_line h)
request_line_not c h no_token no_uri no_space is =
    All-append (Not c) h.method (32 ∷ (h.target ++ 32 ∷ print_version h.minor)) (token_not c h.method no_token is.method)
    (All-cons (Not c) 32 (h.target ++ 32 ∷ print_version h.minor) no_space
    (All-append (Not c) h.target (32 ∷ print_version h.minor) (others_pass is_uri_byte c h.target no_uri is.target.1)
    (All-cons (Not c) 32 (print_version h.minor) no_space
    (others_pass is_uri_byte c (print_version h.minor) no_uri (version_bytes h.minor is.minor)))))

request_line_is_no_blank : (h : RequestHead) → IsRequestHead h → is_blank (request_line h ++ return_of h.line_end) ≡ false
request_line_is_no_blank h is =
    let long : 0 < length h.method = is.method.0 in
    long_is_no_blank (request_line h ++ return_of h.line_end) (simp (length-append) (omega arith))

is_target-from : (h : RequestHead) → IsRequestHead h → is_target h.target ≡ true
is_target-from h is =
    and_from _ _ (and_from _ _ (lt-ltb 0 (length h.target) is.target.0) (list_all-from_AllPass is_uri_byte h.target is.target.1))
    (is_utf8-from_IsUtf8 h.target is.target_text)

abbrev without_blank : RequestHead → RequestHead
without_blank h = record h { blank = [] }

head_with-words : (h : RequestHead) → IsRequestHead h
    → head_with (h.method ∷ h.target ∷ print_version h.minor ∷ []) h.line_end (h.fields, h.last) ≡ Some (without_blank h)
head_with-words h is =
    cond-true _ _ _ (and_from _ _ (is_token-from h.method is.method) (is_target-from h is))
    ∙ ap (λ o. option_map {T = ℕ} {U = RequestHead} (λ minor. record h { blank = []; minor = minor }) o) (minor_version-print h.minor is.minor)

-- the head without the blank lines before it
front_found : (h : RequestHead) (rest : List ℕ) → IsRequestHead h
    → head_of (lines_of (request_line h ++ (print_end h.line_end ++ (print_section h.fields h.last ++ rest)))) ≡ Some (without_blank h)
front_found h rest is =
    let more = print_section h.fields h.last ++ rest in
    let no_feed = request_line_not 10 h no_feed_in_token refl refl is in
    let no_return = request_line_not 13 h no_return_in_token refl refl is in
    ap head_of (lines_of-line (request_line h) h.line_end more no_feed)
    ∙ cond-false _ _ _ (request_line_is_no_blank h is)
    ∙ ap (λ (w : List ℕ × LineEnd). option_and_then (head_with (slice_split (λ b. eqb b 32) w.0) w.1) (section_of (lines_of more)))
    (without_end_of (request_line h) h.line_end no_return)
    ∙ ap (λ words. option_and_then (head_with words h.line_end) (section_of (lines_of more))) (words-request_line h is)
    ∙ ap (λ s. option_and_then (head_with (h.method ∷ h.target ∷ print_version h.minor ∷ []) h.line_end) s)
    (section_found h.fields h.last rest is.fields)
    ∙ head_with-words h is

abbrev with_blank : List LineEnd → RequestHead → RequestHead
with_blank ends h = record h { blank = ends }

blank_found : (ends : List LineEnd) (h : RequestHead) (tail : List ℕ) → head_of (lines_of tail) ≡ Some (with_blank [] h)
    → head_of (lines_of (print_blank ends ++ tail)) ≡ Some (with_blank ends h)
blank_found [] h tail found = found
blank_found (e ∷ ends) h tail found =
    let more = print_blank ends ++ tail in
    ap (λ bytes. head_of (lines_of bytes)) (append_assoc (print_end e) (print_blank ends) tail)
    ∙ ap head_of (lines_of-line [] e more (All-nil (Not 10)))
    ∙ cond-true _ _ _ (blank_return e)
    ∙ ap (λ end. option_map (after_blank end) (head_of (lines_of more))) (return_end e)
    ∙ ap (λ o. option_map (after_blank e) o) (blank_found ends h tail found)

pub print_request-line : (h : RequestHead) (rest : List ℕ) → print_request h ++ rest
    ≡ print_blank h.blank ++ (request_line h ++ (print_end h.line_end ++ (print_section h.fields h.last ++ rest)))
print_request-line h rest =
    print_request-append h rest
    ∙ ap (λ xs. print_blank h.blank ++ xs) (grouped h.method h.target (print_version h.minor) (print_end h.line_end ++ (print_section h.fields h.last ++ rest)))
  where
    grouped : (a b c d : List ℕ) → a ++ 32 ∷ (b ++ 32 ∷ (c ++ d)) ≡ (a ++ 32 ∷ (b ++ 32 ∷ c)) ++ d
    grouped a b c d = simp (append_assoc, cons-append)

pub head_found : (h : RequestHead) (rest : List ℕ) → IsRequestHead h → head_of (lines_of (print_request h ++ rest)) ≡ Some h
head_found h rest is =
    let more = print_end h.line_end ++ (print_section h.fields h.last ++ rest) in
    ap (λ bytes. head_of (lines_of bytes)) (print_request-line h rest)
    ∙ blank_found h.blank h (request_line h ++ more) (front_found h rest is)
