-- The position that a sequence number names, as a function (RFC 9293, 3.4): the one that has the number and lies less
-- than 2 ^ 31 from a known position.
use Rattle.std.specs.Prelude.{ℕ, ◌+◌, ◌-◌, ◌^◌, ◌==◌, ◌||◌, nat_lt, if◌then◌else◌, Option, Some, None}
use Rattle.seq_space.specs.Positions.{number_of, difference}

-- the position, by how far its number is ahead of that of the known one; None where it would lie 2 ^ 31 away, or before
-- position 0
abbrev pub near_by : ℕ → ℕ → Option ℕ
near_by ahead around =
    if nat_lt ahead (2 ^ 31) then Some (around + ahead)
    else (if ahead == 2 ^ 31 || nat_lt around (2 ^ 32 - ahead) then None
    else Some (around - (2 ^ 32 - ahead)))

unfoldable pub near_of : ℕ → ℕ → ℕ → Option ℕ
near_of n first around = near_by (difference n (number_of first around)) around
