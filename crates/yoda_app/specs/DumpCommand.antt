-- The command `dump`: a line for each frame of a trace goes to standard output.
use Rattle.std.specs.Prelude.{◌≡◌, ℕ, List, [], ◌∷◌, codes}
use Rattle.plain_run.specs.Judgement.{trace_refusal}
use Rattle.yoda_app.specs.Commands.{Command}
use Rattle.yoda_app.specs.Dumps.{dump_text}
use Rattle.yoda_app.specs.Words.{word}

-- the command over this name
abbrev pub dump_over : List ℕ → Command
dump_over trace = record {
  inputs = trace ∷ [];
  outputs = codes "-" ∷ [];
  refusal = λ holds. trace_refusal (holds trace);
  Gives = λ holds texts. texts ≡ dump_text (holds trace) ∷ [];
}

-- the command that the words give
abbrev pub dump_command : List (List ℕ) → Command
dump_command words = dump_over (word 1 words)
