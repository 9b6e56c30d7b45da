-- The words of a command line behind the program's name. Words and names are lists of bytes.
use Rattle.std.specs.Prelude.{ℕ, Bool, true, false, not, ◌&&◌, ◌||◌, ◌==◌, List, [], ◌∷◌, length, map, drop, slice_index_or, codes, String}
use Rattle.std.specs.List.{list_any}
use Rattle.std.specs.Str.{bytes_eq}
use Rattle.std.specs.String.{string_bytes}
use Rattle.std.specs.declared.alloc.Global.{Global}
use Rattle.shelf.specs.Shelf.{is_stream}

-- the bytes of each word
abbrev pub texts : List (String Global) → List (List ℕ)
texts words = map string_bytes words

-- the word at this place
abbrev pub word : ℕ → List (List ℕ) → List ℕ
word i words = slice_index_or words i []

-- the name of a file: not empty, and neither standard stream
abbrev pub is_file_name : List ℕ → Bool
is_file_name [] = false
is_file_name (x ∷ xs) = not (is_stream (x ∷ xs))

-- a report may go to standard output
abbrev pub is_report_name : List ℕ → Bool
is_report_name n = bytes_eq n (codes "-") || is_file_name n

-- no name stands there twice
abbrev pub all_differ : List (List ℕ) → Bool
all_differ [] = true
all_differ (n ∷ ns) = not (list_any (λ m. bytes_eq m n) ns) && all_differ ns

-- plain RULES TRACE SCRIPT OUT REPORT
abbrev pub are_plain : List (List ℕ) → Bool
are_plain words =
    (length words == 6) && (bytes_eq (word 0 words) (codes "plain") && (is_file_name (word 1 words)
    && (is_file_name (word 2 words) && (is_file_name (word 3 words) && (is_file_name (word 4 words)
    && (is_report_name (word 5 words) && all_differ (drop 1 words)))))))

-- dump TRACE
abbrev pub are_dump : List (List ℕ) → Bool
are_dump words = (length words == 2) && (bytes_eq (word 0 words) (codes "dump") && is_file_name (word 1 words))
