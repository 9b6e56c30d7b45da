-- The words of the command `drive`, and the numbers that they give.
use Rattle.std.specs.Prelude.{ℕ, ◌-◌, ◌^◌, Bool, ◌&&◌, ◌==◌, nat_le, List, length, codes}
use Rattle.std.specs.Str.{bytes_eq}
use Rattle.script_text.specs.Words.{is_number, number_from}
use Rattle.world_model.specs.declared.driving.TheConstants.{MOST_BYTES, MOST_FLOWS}
use Rattle.yoda_app.specs.Words.{word}
use Rattle.yoda_app.specs.declared.drive_words.DriveNumbers.{DriveNumbers}

-- the word is a number without a sign and without zeros in front, from one number to another
abbrev pub is_between : ℕ → ℕ → List ℕ → Bool
is_between least most w = is_number w && (nat_le least (number_from 0 w) && nat_le (number_from 0 w) most)

-- drive FLOWS BYTES NUMBER
abbrev pub are_drive : List (List ℕ) → Bool
are_drive words =
    (length words == 4) && (bytes_eq (word 0 words) (codes "drive") && (is_between 1 MOST_FLOWS (word 1 words)
    && (is_between 0 MOST_BYTES (word 2 words) && is_between 0 (2 ^ 64 - 1) (word 3 words))))

abbrev pub drive_numbers : List (List ℕ) → DriveNumbers
drive_numbers words = record { flows = number_from 0 (word 1 words); bytes = number_from 0 (word 2 words); number = number_from 0 (word 3 words) }
