-- The lines of a report: one for each record of a capture, and a last one that counts.
use Rattle.std.specs.Prelude.{ℕ, List, ◌++◌, Option, codes}
use Rattle.std.specs.Fmt.{decimal}
use Rattle.std.specs.Option.{option_map_or}
use Rattle.job_core.specs.declared.verdict.Verdict.{Verdict}
use Rattle.report_text.specs.Verdicts.{verdict_text}

-- NUMBER INSTANCE VERDICT, with `-` in place of the instance where none handled the record
abbrev pub line_text : ℕ → Option ℕ → Verdict → List ℕ
line_text number instance verdict =
    decimal number ++ codes " " ++ option_map_or decimal instance (codes "-") ++ codes " " ++ verdict_text verdict ++ codes "\n"

-- records COUNT outs COUNT
abbrev pub last_text : ℕ → ℕ → List ℕ
last_text records outs = codes "records " ++ decimal records ++ codes " outs " ++ decimal outs ++ codes "\n"
