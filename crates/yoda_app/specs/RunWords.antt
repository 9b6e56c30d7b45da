-- The words of the command `run`, and the names that they give.
use Rattle.std.specs.Prelude.{ℕ, Bool, ◌&&◌, ◌==◌, List, drop, length, codes}
use Rattle.std.specs.Str.{bytes_eq}
use Rattle.yoda_app.specs.Plain.{Paths, paths, plain_paths}
use Rattle.yoda_app.specs.Words.{word, is_file_name, is_report_name, all_differ}
use Rattle.yoda_app.specs.declared.run_words.RunNames.{RunNames}

-- RULES, TRACE, SCRIPT and OUT are files
abbrev pub name_files : List (List ℕ) → Bool
name_files words = is_file_name (word 1 words) && (is_file_name (word 2 words) && (is_file_name (word 3 words) && is_file_name (word 4 words)))

-- run RULES TRACE SCRIPT OUT REPORT JOURNAL
abbrev pub are_run : List (List ℕ) → Bool
are_run words =
    (length words == 7) && (bytes_eq (word 0 words) (codes "run") && (name_files words
    && (is_report_name (word 5 words) && (is_file_name (word 6 words) && all_differ (drop 1 words)))))

-- the names that `plain` has too, and the journal's
pub record RunPaths : Type 0 where
  pub plain : Paths
  pub journal : List ℕ

-- the names that the command is given
abbrev pub given_paths : RunNames → RunPaths
given_paths n = record { plain = paths n.plain; journal = n.journal.now }

-- the names among the words
abbrev pub run_paths : List (List ℕ) → RunPaths
run_paths words = record { plain = plain_paths words; journal = word 6 words }
