-- The words of a script's line, and the line that they say. A line's numbers are of any size here.
use Rattle.std.specs.Prelude.{ℕ, ◌+◌, ◌*◌, ◌-◌, ◌^◌, min, Bool, true, false, ◌&&◌, not, ◌==◌, List, [], ◌∷◌, Option, Some, None, option_map, if◌then◌else◌, codes}
use Rattle.std.specs.Char.{is_ascii_digit}
use Rattle.std.specs.List.{slice_split, list_all}
use Rattle.std.specs.Option.{option_and_then}
use Rattle.std.specs.Str.{bytes_eq}
use Rattle.script_text.specs.declared.line.Line.{Line}
use Rattle.script_text.specs.declared.line.Line.TheVariants.{Give, Crash, Back, Fail}

-- a line that says nothing: an empty one, or a comment, which begins with `#`
abbrev pub is_skipped : List ℕ → Bool
is_skipped [] = true
is_skipped (b ∷ text) = b == 35

-- decimal digits without a zero in front
abbrev pub is_number : List ℕ → Bool
is_number [] = false
is_number (d ∷ []) = is_ascii_digit d
is_number (d ∷ e ∷ digits) = list_all is_ascii_digit (d ∷ e ∷ digits) && not (d == 48)

-- the number that the digits go on to after those of n
abbrev pub number_from : ℕ → List ℕ → ℕ
number_from n [] = n
number_from n (d ∷ digits) = number_from (n * 10 + (d - 48)) digits

-- the number that a word is
abbrev pub number_of : List ℕ → Option ℕ
number_of word = if is_number word then Some (number_from 0 word) else None

-- what two words say as numbers
abbrev pub of_numbers : (ℕ → ℕ → Line) → List ℕ → List ℕ → Option Line
of_numbers line a b = option_and_then (λ m. option_map (line m) (number_of b)) (number_of a)

-- the line of these words, None where they have none of the four forms:
-- `give N I`, `back I at N`, `fail R at N` and `crash I at N after M`
abbrev pub line_of : List (List ℕ) → Option Line
line_of (verb ∷ item ∷ instance ∷ []) = if bytes_eq verb (codes "give") then of_numbers Give item instance else None
line_of (verb ∷ number ∷ at ∷ item ∷ []) =
    if not (bytes_eq at (codes "at")) then None
    else if bytes_eq verb (codes "back") then of_numbers Back number item
    else if bytes_eq verb (codes "fail") then of_numbers Fail number item
    else None
line_of (verb ∷ instance ∷ at ∷ item ∷ after ∷ steps ∷ []) =
    if bytes_eq verb (codes "crash") && bytes_eq at (codes "at") && bytes_eq after (codes "after")
    then option_and_then (λ m. of_numbers (λ i n. Crash i n m) instance item) (number_of steps)
    else None
line_of words = None

-- the words, with one space between two
abbrev pub words_of : List ℕ → List (List ℕ)
words_of text = slice_split (λ b. b == 32) text

-- ---- as the code keeps numbers

-- a number as a field of so many bits has it: one that is too large is the largest there
abbrev pub cut : ℕ → ℕ → ℕ
cut bits n = min n (2 ^ bits - 1)

-- the line as its fields have it
abbrev pub cut_line : Line → Line
cut_line (Give item instance) = Give (cut 32 item) (cut 16 instance)
cut_line (Crash instance item after) = Crash (cut 16 instance) (cut 32 item) (cut 16 after)
cut_line (Back instance item) = Back (cut 16 instance) (cut 32 item)
cut_line (Fail replica item) = Fail (cut 8 replica) (cut 32 item)
