-- Windows and their shifts (RFC 7323, 2.2 and 2.3): what a field counts, and the field that says a window to another
-- reader.
use Rattle.std.specs.Prelude.{◌≤◌, ℕ, ◌*◌, ◌/◌, ◌^◌, min, Option, Some, None}
use Rattle.window_scale.specs.declared.scales.Shifts.{Shifts}

-- how many bytes a window field counts beside a shift
abbrev pub counted : ℕ → ℕ → ℕ
counted field shift = field * 2 ^ shift

-- the shift that the balancer gives for its own windows
abbrev pub own_shift : ℕ
own_shift = 7

-- What is scaled on the two connections of a flow: by the scale of the client's SYN on the client's, where the balancer
-- answers it with its own, and by both scales on the server's, where the server has answered the client's.
abbrev pub shifts_by : Option ℕ → Option ℕ → Shifts
shifts_by None opened = record { client_gives = 0; server_reads = 0; server_gives = 0; client_reads = 0 }
shifts_by (Some syn) None = record { client_gives = syn; server_reads = 0; server_gives = 0; client_reads = own_shift }
shifts_by (Some syn) (Some opened) = record { client_gives = syn; server_reads = syn; server_gives = opened; client_reads = own_shift }

-- a shift is 14 at most
pub record AreShifts (s : Shifts) : Type 0 where
  pub client_gives : s.client_gives ≤ 14
  pub server_reads : s.server_reads ≤ 14
  pub server_gives : s.server_gives ≤ 14
  pub client_reads : s.client_reads ≤ 14

-- the field by which one who reads with a shift is told a window of so many bytes
abbrev pub told : ℕ → ℕ → ℕ
told window reads = min 65535 (window / 2 ^ reads)

-- the field by which a field beside one shift is told to one who reads with another
abbrev pub restated : ℕ → ℕ → ℕ → ℕ
restated field gives reads = told (counted field gives) reads

-- The field fits 16 bits and counts no more than the window, and no greater one does.
pub record IsGreatest (field reads window : ℕ) : Type 0 where
  pub fits : field ≤ 65535
  pub not_above : counted field reads ≤ window
  pub greatest : (other : ℕ) → other ≤ 65535 → counted other reads ≤ window → other ≤ field
