-- What a whole text says: its lines, or its first fault.
use Rattle.std.specs.Prelude.{ℕ, ◌+◌, ◌-◌, ◌^◌, min, List, [], ◌∷◌, ◌++◌, Option, Result, Ok, Err, if◌then◌else◌}
use Rattle.std.specs.Option.{option_map_or}
use Rattle.std.specs.Str.Lines.{lines as lines_in}
use Rattle.script_text.specs.declared.line.Line.{Line}
use Rattle.script_text.specs.declared.fault.ScriptFault.{ScriptFault}
use Rattle.script_text.specs.declared.fault.ScriptFault.TheVariants.{Form}
use Rattle.script_text.specs.Words.{is_skipped, line_of, words_of}
use Rattle.script_text.specs.Faults.{fault_of}

-- the sizes that a script is read with
pub record Sizes : Type 0 where
  pub instances : ℕ
  pub replicas : ℕ

-- the lines up to the text of this number, or that text's fault
abbrev pub with_text : Sizes → ℕ → List Line → List ℕ → Result (List Line) ScriptFault
with_text sizes number earlier text =
    if is_skipped text then Ok earlier
    else option_map_or (λ line. option_map_or Err (fault_of number sizes.instances sizes.replicas earlier line) (Ok (earlier ++ line ∷ [])))
    (line_of (words_of text)) (Err (Form number))

-- the lines of these texts after the lines before them, or the first fault; the number is that of the text before, and it
-- stands still at the last number of 32 bits
abbrev pub read_on : Sizes → ℕ → Result (List Line) ScriptFault → List (List ℕ) → Result (List Line) ScriptFault
read_on sizes number (Err fault) texts = Err fault
read_on sizes number (Ok earlier) [] = Ok earlier
read_on sizes number (Ok earlier) (text ∷ texts) =
    let next = min (number + 1) (2 ^ 32 - 1) in
    read_on sizes next (with_text sizes next earlier text) texts

-- what the bytes say. They are cut at each line feed, a carriage return before it is dropped, and the last line may lack
-- its line feed
unfoldable pub reading : Sizes → List ℕ → Result (List Line) ScriptFault
reading sizes bytes = read_on sizes 0 (Ok []) (lines_in bytes)

-- ---- words of proofs

-- the lines up to this one, if it has no fault
abbrev pub unless_fault : List Line → Line → Option ScriptFault → Result (List Line) ScriptFault
unless_fault earlier line fault = option_map_or Err fault (Ok (earlier ++ line ∷ []))

-- the lines up to the line of this number, if it has a form
abbrev pub with_line : Sizes → ℕ → List Line → Option Line → Result (List Line) ScriptFault
with_line sizes number earlier line =
    option_map_or (λ l. unless_fault earlier l (fault_of number sizes.instances sizes.replicas earlier l)) line (Err (Form number))

-- the number of the line after this one
abbrev pub next_number : ℕ → ℕ
next_number number = min (number + 1) (2 ^ 32 - 1)
