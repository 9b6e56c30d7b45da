-- Lines whose numbers are cut to their fields, and lines without a fault.
use Rattle.std.proofs.Common.{◌≡◌, ℕ, ◌+◌, ◌^◌, ◌<◌, ◌≤◌, Bool, true, false, ltb, leb, ◌&&◌, not, List, [], ◌∷◌, Option, Some, None, Ok, IsTrue, option_map, refl, sym, ap, ◌∙◌, arith, inl, inr}
use Rattle.std.proofs.lemmas.Bool.{cond-false, cases_Bool, cases_lt, lt-ltb, le-ltb, le-leb, lt-leb, ltb-true, leb-true, and_parts, not-false}
use Rattle.std.specs.Str.Lines.{lines as lines_in}
use Rattle.common.specs.Faults.{first}
use Rattle.script_text.specs.declared.line.Line.{Line}
use Rattle.script_text.specs.declared.line.Line.TheVariants.{Give, Crash, Back, Fail}
use Rattle.script_text.specs.declared.fault.ScriptFault.TheVariants.{Range, Twice, Order}
use Rattle.script_text.specs.Words.{cut, cut_line, is_skipped, line_of, words_of}
use Rattle.script_text.specs.Faults.{is_ranged, is_twice, is_disordered, fault_of}
use Rattle.script_text.specs.Reading.{Sizes, with_line, with_text, unless_fault, reading, read_on}
use Rattle.script_text.specs.Index.{HasRoom}
use Rattle.script_text.specs.Inside.{MayFollow}

-- a cut number is below a bound of its field where the number is
ltb-cut : (bits n bound : ℕ) → bound < 2 ^ bits → ltb (cut bits n) bound ≡ ltb n bound
ltb-cut bits n bound fits =
    elim (cases_lt n bound) [
      | inl below ↦ lt-ltb (cut bits n) bound (omega arith) ∙ sym (lt-ltb n bound below)
      | inr above ↦ le-ltb (cut bits n) bound (omega arith) ∙ sym (le-ltb n bound above)
    ]

leb-cut : (bits n bound : ℕ) → bound + 1 < 2 ^ bits → leb (cut bits n) bound ≡ leb n bound
leb-cut bits n bound fits =
    elim (cases_lt bound n) [
      | inl above ↦ lt-leb (cut bits n) bound (omega arith) ∙ sym (lt-leb n bound above)
      | inr below ↦ le-leb (cut bits n) bound (omega arith) ∙ sym (le-leb n bound below)
    ]

item-cut : (n : ℕ) → leb (cut 32 n) 262143 ≡ leb n 262143
item-cut n = leb-cut 32 n 262143 (omega arith)

is_ranged-cut : (instances replicas : ℕ) (line : Line) → instances < 2 ^ 16 → replicas < 2 ^ 8
    → is_ranged instances replicas (cut_line line) ≡ is_ranged instances replicas line
is_ranged-cut instances replicas (Give item instance) few fewer =
    rw (item-cut item, ltb-cut 16 instance instances few) refl
is_ranged-cut instances replicas (Crash instance item after) few fewer =
    rw (item-cut item, ltb-cut 16 instance instances few, leb-cut 16 after 88 (omega arith)) refl
is_ranged-cut instances replicas (Back instance item) few fewer =
    rw (item-cut item, ltb-cut 16 instance instances few) refl
is_ranged-cut instances replicas (Fail replica item) few fewer =
    rw (item-cut item, ltb-cut 8 replica replicas fewer) refl

cut-below : (bits n bound : ℕ) → n < bound → bound < 2 ^ bits → cut bits n ≡ n
cut-below bits n bound below fits = omega arith

item-fits : (n : ℕ) → leb n 262143 ≡ true → cut 32 n ≡ n
item-fits n h = let below : n ≤ 262143 = leb-true n 262143 h in omega arith

steps-fit : (n : ℕ) → leb n 88 ≡ true → cut 16 n ≡ n
steps-fit n h = let below : n ≤ 88 = leb-true n 88 h in omega arith

-- where the numbers are in their ranges nothing is cut
cut_line-ranged : (instances replicas : ℕ) (line : Line) → instances < 2 ^ 16 → replicas < 2 ^ 8
    → is_ranged instances replicas line ≡ true → cut_line line ≡ line
cut_line-ranged instances replicas (Give item instance) few fewer e =
    let p = and_parts (leb item 262143) (ltb instance instances) e in
    rw (item-fits item p.0, cut-below 16 instance instances (ltb-true instance instances p.1) few) refl
cut_line-ranged instances replicas (Crash instance item after) few fewer e =
    let p = and_parts (ltb instance instances && leb item 262143) (leb after 88) e in
    let q = and_parts (ltb instance instances) (leb item 262143) p.0 in
    rw (item-fits item q.1, steps-fit after p.1, cut-below 16 instance instances (ltb-true instance instances q.0) few) refl
cut_line-ranged instances replicas (Back instance item) few fewer e =
    let p = and_parts (ltb instance instances) (leb item 262143) e in
    rw (item-fits item p.1, cut-below 16 instance instances (ltb-true instance instances p.0) few) refl
cut_line-ranged instances replicas (Fail replica item) few fewer e =
    let p = and_parts (ltb replica replicas) (leb item 262143) e in
    rw (item-fits item p.1, cut-below 8 replica replicas (ltb-true replica replicas p.0) fewer) refl

-- a line that is out of range has that fault
unranged : (sizes : Sizes) (number : ℕ) (earlier : List Line) (line : Line) → is_ranged sizes.instances sizes.replicas line ≡ false
    → fault_of number sizes.instances sizes.replicas earlier line ≡ Some (Range number)
unranged sizes number earlier line e = rw e refl

-- a line has the same fault with its numbers cut
pub with_line-cut : (sizes : Sizes) (number : ℕ) (earlier : List Line) (line : Option Line) → sizes.instances < 2 ^ 16 → sizes.replicas < 2 ^ 8
    → with_line sizes number earlier (option_map cut_line line) ≡ with_line sizes number earlier line
with_line-cut sizes number earlier None few fewer = refl
with_line-cut sizes number earlier (Some line) few fewer =
    elim (cases_Bool (is_ranged sizes.instances sizes.replicas line)) [
      | inl inside ↦ ap (λ l. with_line sizes number earlier (Some l)) (cut_line-ranged sizes.instances sizes.replicas line few fewer inside)
      | inr outside ↦
          ap (unless_fault earlier (cut_line line)) (unranged sizes number earlier (cut_line line) (is_ranged-cut sizes.instances sizes.replicas line few fewer ∙ outside))
          ∙ sym (ap (unless_fault earlier line) (unranged sizes number earlier line outside))
    ]

-- a line without a fault may follow
pub no_fault : (number instances replicas : ℕ) (earlier : List Line) (line : Line)
    → fault_of number instances replicas earlier line ≡ None → MayFollow earlier instances replicas line
no_fault number instances replicas earlier line e =
    tests (not (is_ranged instances replicas line)) (is_twice earlier line) (is_disordered earlier line) refl refl refl e
  where
    tests : (r t d : Bool) → not (is_ranged instances replicas line) ≡ r → is_twice earlier line ≡ t → is_disordered earlier line ≡ d
        → first ((r, Range number) ∷ (t, Twice number) ∷ (d, Order number) ∷ []) ≡ None → MayFollow earlier instances replicas line
    tests true t d er et ed none = absurd cc
    tests false true d er et ed none = absurd cc
    tests false false true er et ed none = absurd cc
    tests false false false er et ed none = record { ranged = not-false (is_ranged instances replicas line) er; stands = record { once = et; ordered = ed } }

-- a text that is not skipped, by its line with the numbers cut
pub with_text-read : (sizes : Sizes) (number : ℕ) (earlier : List Line) (text : List ℕ) (found : Option Line)
    → sizes.instances < 2 ^ 16 → sizes.replicas < 2 ^ 8 → is_skipped text ≡ false
    → found ≡ option_map cut_line (line_of (words_of text))
    → with_text sizes number earlier text ≡ with_line sizes number earlier found
with_text-read sizes number earlier text found few fewer kept same =
    cond-false (is_skipped text) (Ok earlier) (with_line sizes number earlier (line_of (words_of text))) kept
    ∙ sym (with_line-cut sizes number earlier (line_of (words_of text)) few fewer)
    ∙ ap (with_line sizes number earlier) (sym same)

-- before the first line
pub reading-start : (sizes : Sizes) (text : List ℕ) (none : List Line) → none ≡ []
    → reading sizes text ≡ read_on sizes 0 (Ok none) (lines_in text)
unfolding reading
reading-start sizes text none e = sym (ap (λ lines. read_on sizes 0 (Ok lines) (lines_in text)) e)

-- a line in its range has room in the index
pub has_room : (instances replicas : ℕ) (line : Line) → IsTrue (is_ranged instances replicas line) → HasRoom instances line
has_room instances replicas (Give item instance) e = tt
has_room instances replicas (Crash instance item after) e =
    let p = and_parts (ltb instance instances && leb item 262143) (leb after 88) e in
    let q = and_parts (ltb instance instances) (leb item 262143) p.0 in
    let below : item ≤ 262143 = leb-true item 262143 q.1 in
    (ltb-true instance instances q.0, omega arith)
has_room instances replicas (Back instance item) e =
    ltb-true instance instances (and_parts (ltb instance instances) (leb item 262143) e).0
has_room instances replicas (Fail replica item) e = tt
