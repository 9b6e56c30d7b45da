-- Lines and their ends: what a line feed ends is a line, and a line without its end gives both back.
use Rattle.std.proofs.Common.{◌≡◌, ℕ, ◌+◌, ◌<◌, Bool, true, false, eqb, ltb, ◌≤◌, inl, inr, Some, None, take, drop, position, List, [], ◌∷◌, ◌++◌, length, refl, sym, ap, ◌∙◌, arith, append_assoc, All, IsTrue}
use Rattle.std.specs.List.{slice_split, join_with_byte, onto_first, position_or_len}
use Rattle.std.proofs.lemmas.List.Sums.{fails_before_first}
use Rattle.std.proofs.lemmas.Bool.{ltb-true, ltb-false, eqb-true, false_from_ne_true, cond-true, cond-false, cond_both, both_ways}
use Rattle.std.proofs.lemmas.List.Elements.{All-append, All-cons, All-nil, All-head, All-tail, All-weaker}
use Rattle.std.proofs.lemmas.List.Splits.{slice_split_at, slice_split_first, slice_split_none, join_with_byte-slice_split}
use Rattle.httparse.specs.Grammar.{LineEnd, crlf, lf, print_end, AllPass}
use Rattle.http_head.specs.Lines.{lines_of, is_blank, is_ended, without_end}
use Rattle.http_head.proofs.CaseLemmas.{cond_is}

-- what stands before the line feed of a line end
abbrev pub return_of : LineEnd → List ℕ
return_of crlf = 13 ∷ []
return_of lf = []

-- a byte that is not this one
abbrev pub Not : ℕ → ℕ → Type 0
Not c b = eqb b c ≡ false

-- a byte that fails the test is none of those that pass
pub others_pass : (test : ℕ → Bool) (c : ℕ) (bytes : List ℕ) → test c ≡ false → AllPass test bytes → All (Not c) bytes
others_pass test c bytes fails pass =
    All-weaker (λ b. IsTrue (test b)) (Not c)
    (λ b passes. false_from_ne_true _ (λ same. both_ways (test c) fails (ap test (sym (eqb-true b c same)) ∙ passes)))
    bytes pass

pub without_end_sound : (line : List ℕ) → line ++ 10 ∷ [] ≡ (without_end line).0 ++ print_end (without_end line).1
without_end_sound [] = refl
without_end_sound (b ∷ []) =
    cond_both (eqb b 13) ([], crlf) (b ∷ [], lf) (λ (r : List ℕ × LineEnd). b ∷ 10 ∷ [] ≡ r.0 ++ print_end r.1)
    (λ same. ap (λ x. x ∷ 10 ∷ []) (eqb-true b 13 same)) (λ _. refl)
without_end_sound (b ∷ c ∷ line) = ap (λ xs. b ∷ xs) (without_end_sound (c ∷ line))

pub without_end_of : (line : List ℕ) (e : LineEnd) → All (Not 13) line → without_end (line ++ return_of e) ≡ (line, e)
without_end_of [] crlf none = refl
without_end_of [] lf none = refl
without_end_of (b ∷ []) crlf none = refl
without_end_of (b ∷ []) lf none = cond-false (eqb b 13) ([], crlf) (b ∷ [], lf) (All-head (Not 13) b [] none)
without_end_of (b ∷ c ∷ line) e none =
    ap (λ (r : List ℕ × LineEnd). (b ∷ r.0, r.1)) (without_end_of (c ∷ line) e (All-tail (Not 13) b (c ∷ line) none))

-- where nothing is left without the end, the line is blank, and the other way round
pub blank_end : (line : List ℕ) → is_blank line ≡ true → (without_end line).0 ≡ []
blank_end [] blank = refl
blank_end (b ∷ []) blank = ap (λ (r : List ℕ × LineEnd). r.0) (cond-true (eqb b 13) ([], crlf) (b ∷ [], lf) blank)
blank_end (b ∷ c ∷ line) blank = cc

pub long_is_no_blank : (line : List ℕ) → 1 < length line → is_blank line ≡ false
long_is_no_blank [] long = absurd (omega arith)
long_is_no_blank (b ∷ []) long = absurd (omega arith)
long_is_no_blank (b ∷ c ∷ line) long = refl

-- a line with its end is the first line
pub lines_of-line : (line : List ℕ) (e : LineEnd) (rest : List ℕ) → All (Not 10) line
    → lines_of (line ++ (print_end e ++ rest)) ≡ (line ++ return_of e) ∷ lines_of rest
lines_of-line line e rest none =
    ap lines_of (parted line e rest) ∙ slice_split_at (λ b. eqb b 10) (line ++ return_of e) 10 rest (whole line e none) refl
  where
    parted : (line : List ℕ) (e : LineEnd) (rest : List ℕ) → line ++ (print_end e ++ rest) ≡ (line ++ return_of e) ++ 10 ∷ rest
    parted line crlf rest = sym (append_assoc line (13 ∷ []) (10 ∷ rest))
    parted line lf rest = sym (append_assoc line [] (10 ∷ rest))

    whole : (line : List ℕ) (e : LineEnd) → All (Not 10) line → All (Not 10) (line ++ return_of e)
    whole line crlf none = All-append (Not 10) line (13 ∷ []) none (All-cons (Not 10) 13 [] refl (All-nil (Not 10)))
    whole line lf none = All-append (Not 10) line [] none (All-nil (Not 10))

pub is_ended-lines_of : (bytes : List ℕ) → is_ended (lines_of bytes) ≡ true
is_ended-lines_of [] = refl
is_ended-lines_of (b ∷ bytes) =
    cond_both (eqb b 10) ([] ∷ lines_of bytes) (onto_first b (lines_of bytes)) (λ lines. is_ended lines ≡ true)
    (λ _. refl) (λ _. onto b (lines_of bytes))
  where
    onto : (b : ℕ) (lines : List (List ℕ)) → is_ended (onto_first b lines) ≡ true
    onto b [] = refl
    onto b (line ∷ lines) = refl

-- the bytes that were cut into these lines
abbrev pub joined : List (List ℕ) → List ℕ
joined lines = join_with_byte 10 lines

pub joined-lines_of : (bytes : List ℕ) → joined (lines_of bytes) ≡ bytes
joined-lines_of bytes = join_with_byte-slice_split 10 bytes

-- a line that has its line feed, and the rest
pub joined-line : (line : List ℕ) (lines : List (List ℕ)) → is_ended lines ≡ true
    → joined (line ∷ lines) ≡ (without_end line).0 ++ (print_end (without_end line).1 ++ joined lines)
joined-line line [] ended = cc
joined-line line (next ∷ lines) ended =
    let rest = joined (next ∷ lines) in
    sym (append_assoc line (10 ∷ []) rest) ∙ ap (λ xs. xs ++ rest) (without_end_sound line)
    ∙ append_assoc (without_end line).0 (print_end (without_end line).1) rest

-- the parts between bytes of one value, by the place of the first of these
pub parts-first : (c : ℕ) (bytes : List ℕ) (end : ℕ) → position (λ b. eqb b c) bytes ≡ Some end
    → slice_split (λ b. eqb b c) bytes ≡ take end bytes ∷ slice_split (λ b. eqb b c) (drop (end + 1) bytes)
parts-first c bytes end e =
    let n = position_or_len (λ b. eqb b c) bytes in
    elim (cond_is (ltb n (length bytes)) (Some n) None (Some end) e) [
      | inl found ↦
          let same : n ≡ end = cc in
          slice_split_first (λ b. eqb b c) bytes 0 (ltb-true n (length bytes) found.0)
          ∙ ap (λ k. take k bytes ∷ slice_split (λ b. eqb b c) (drop (k + 1) bytes)) same
      | inr none ↦ absurd cc
    ]

pub parts-last : (c : ℕ) (bytes : List ℕ) → position (λ b. eqb b c) bytes ≡ None → slice_split (λ b. eqb b c) bytes ≡ bytes ∷ []
parts-last c bytes e =
    let n = position_or_len (λ b. eqb b c) bytes in
    elim (cond_is (ltb n (length bytes)) (Some n) None None e) [
      | inl found ↦ absurd cc
      | inr none ↦
          let past : length bytes ≤ n = ltb-false n (length bytes) none.0 in
          slice_split_none (λ b. eqb b c) bytes (λ k d inside. fails_before_first (λ b. eqb b c) bytes k d (omega arith))
    ]

-- the lines by the place of the first line feed
pub lines_of-first : (bytes : List ℕ) (end : ℕ) → position (λ b. eqb b 10) bytes ≡ Some end
    → lines_of bytes ≡ take end bytes ∷ lines_of (drop (end + 1) bytes)
lines_of-first = parts-first 10

pub lines_of-last : (bytes : List ℕ) → position (λ b. eqb b 10) bytes ≡ None → lines_of bytes ≡ bytes ∷ []
lines_of-last = parts-last 10
