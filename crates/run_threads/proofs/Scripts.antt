-- A script that is read lets each replica fail before one record at most.
use Rattle.std.proofs.Common.{◌≡◌, ℕ, zero, suc, Bool, true, false, not, List, [], ◌∷◌, ◌++◌, Option, Some, None, Result, Ok, Err, refl, sym, ◌∙◌, ap, subst, arith, inl, inr, ◌⊎◌}
use Rattle.std.specs.Prelude.{Contains, if◌then◌else◌}
use Rattle.std.proofs.lemmas.Bool.{false≢true, or_left, or_right, eq-eqb}
use Rattle.std.proofs.lemmas.List.Elements.{Contains-append_cases}
use Rattle.std.specs.List.{list_any}
use Rattle.std.specs.Str.Lines.{lines as lines_in}
use Rattle.common.specs.Faults.{first}
use Rattle.script_text.specs.declared.fault.ScriptFault.{ScriptFault}
use Rattle.script_text.specs.declared.fault.ScriptFault.TheVariants.{Range, Twice, Order}
use Rattle.script_text.specs.declared.line.Line.{Line}
use Rattle.script_text.specs.declared.line.Line.TheVariants.{Give, Crash, Back, Fail}
use Rattle.script_text.specs.Faults.{fails, fault_of, is_ranged, is_twice, is_disordered}
use Rattle.script_text.specs.Reading.{Sizes, reading, read_on, with_text, with_line, unless_fault, next_number}
use Rattle.script_text.specs.Words.{is_skipped, line_of, words_of}

-- no replica fails before two records
abbrev pub FailsOnce : List Line → Type 0
FailsOnce lines = (replica before other : ℕ) → Contains lines (Fail replica before) → Contains lines (Fail replica other) → before ≡ other

-- a list that has an element of this kind
any_true : (p : Line → Bool) (xs : List Line) (x : Line) → p x ≡ true → Contains xs x → list_any p xs ≡ true
any_true p [] x is (k, below, at) = absurd (omega (arith, below))
any_true p (y ∷ xs) x is (zero, below, at) = or_left (p y) (list_any p xs) (ap p at ∙ is)
any_true p (y ∷ xs) x is (suc k, below, at) = or_right (p y) (list_any p xs) (any_true p xs x is (k, omega (arith, below), at))

-- the replica fails already
failed : (replica before : ℕ) (earlier : List Line) → Contains earlier (Fail replica before) → list_any (fails replica) earlier ≡ true
failed replica before earlier there = any_true (fails replica) earlier (Fail replica before) (eq-eqb replica replica refl) there

-- the only line of a list of one
only_line : (line : Line) (x : Line) → Contains (line ∷ []) x → line ≡ x
only_line line x (zero, below, at) = at
only_line line x (suc k, below, at) = absurd (omega (arith, below))

-- one more line, which is no second failure
once_more : (earlier : List Line) (line : Line) → FailsOnce earlier → is_twice earlier line ≡ false → FailsOnce (earlier ++ line ∷ [])
once_more earlier line once new replica before other one two = by (Contains-append_cases earlier (line ∷ []) (Fail replica before) one) (Contains-append_cases earlier (line ∷ []) (Fail replica other) two)
  where
    not_twice : (n m : ℕ) → line ≡ Fail replica n → Contains earlier (Fail replica m) → ⊥
    not_twice n m is there = false≢true (sym new ∙ (ap (is_twice earlier) is ∙ failed replica m earlier there))

    number_of : Line → ℕ
    number_of (Fail r n) = n
    number_of (Give at i) = 0
    number_of (Crash i at after) = 0
    number_of (Back i at) = 0

    by : Contains earlier (Fail replica before) ⊎ Contains (line ∷ []) (Fail replica before) → Contains earlier (Fail replica other) ⊎ Contains (line ∷ []) (Fail replica other) → before ≡ other
    by (inl a) (inl b) = once replica before other a b
    by (inl a) (inr b) = absurd (not_twice other before (only_line line (Fail replica other) b) a)
    by (inr a) (inl b) = absurd (not_twice before other (only_line line (Fail replica before) a) b)
    by (inr a) (inr b) = ap number_of (sym (only_line line (Fail replica before) a) ∙ only_line line (Fail replica other) b)

-- ---- what is read
abbrev ReadOnce : Result (List Line) ScriptFault → Type 0
ReadOnce (Ok lines) = FailsOnce lines
ReadOnce (Err fault) = Unit {0}

once_line : (sizes : Sizes) (number : ℕ) (earlier : List Line) (line : Line) → FailsOnce earlier → ReadOnce (unless_fault earlier line (fault_of number sizes.instances sizes.replicas earlier line))
once_line sizes number earlier line once = tests (not (is_ranged sizes.instances sizes.replicas line)) (is_twice earlier line) (is_disordered earlier line) refl
  where
    tests : (r t d : Bool) → is_twice earlier line ≡ t → ReadOnce (unless_fault earlier line (first ((r, Range number) ∷ (t, Twice number) ∷ (d, Order number) ∷ [])))
    tests true t d is = tt
    tests false true d is = tt
    tests false false true is = tt
    tests false false false is = once_more earlier line once is

once_read : (sizes : Sizes) (number : ℕ) (earlier : List Line) (line : Option Line) → FailsOnce earlier → ReadOnce (with_line sizes number earlier line)
once_read sizes number earlier None once = tt
once_read sizes number earlier (Some line) once = once_line sizes number earlier line once

once_text : (sizes : Sizes) (number : ℕ) (earlier : List Line) (text : List ℕ) → FailsOnce earlier → ReadOnce (with_text sizes number earlier text)
once_text sizes number earlier text once = by (is_skipped text)
  where
    by : (b : Bool) → ReadOnce (if b then Ok earlier else with_line sizes number earlier (line_of (words_of text)))
    by true = once
    by false = once_read sizes number earlier (line_of (words_of text)) once

once_on : (sizes : Sizes) (number : ℕ) (so_far : Result (List Line) ScriptFault) (texts : List (List ℕ)) → ReadOnce so_far → ReadOnce (read_on sizes number so_far texts)
once_on sizes number (Err fault) texts once = tt
once_on sizes number (Ok earlier) [] once = once
once_on sizes number (Ok earlier) (text ∷ texts) once =
    once_on sizes (next_number number) (with_text sizes (next_number number) earlier text) texts (once_text sizes (next_number number) earlier text once)

none_once : FailsOnce []
none_once replica before other (k, below, at) two = absurd (omega (arith, below))

pub script_once : (sizes : Sizes) (text : List ℕ) (lines : List Line) → reading sizes text ≡ Ok lines → FailsOnce lines
unfolding reading
script_once sizes text lines is = subst ReadOnce is (once_on sizes 0 (Ok []) (lines_in text) none_once)
