-- What a record is of, what stands in it, and which records a key may name.
use Rattle.std.specs.Prelude.{ℕ, ◌≤◌, Bool, true, false, ◌&&◌, nat_le, Option, Some, None, IsTrue}
use Rattle.flow_id.specs.Keys.{same_side}
use Rattle.flow_id.specs.declared.key.Flow.{Flow}
use Rattle.flow_id.specs.declared.key.Side.{Side}
use Rattle.flow_id.specs.declared.key.Side.TheVariants as side
use Rattle.flow_id.specs.declared.key.Key.{Key}
use Rattle.flow_id.specs.declared.key.Key.TheVariants as key
use Rattle.flow_record.specs.declared.record.Record.{Record}
use Rattle.flow_record.specs.declared.record.Record.TheVariants.{Syn, Choice, Port, Open, Fin, Gone}
use Rattle.flow_record.specs.declared.record.Ask.{Ask}
use Rattle.flow_record.specs.declared.record.Ask.TheVariants.{Get, Add}

-- ---- what a record is of
-- windows are shifted by 14 bits at most (RFC 7323, 2.3)
abbrev pub is_scale : Option ℕ → Bool
is_scale None = true
is_scale (Some shift) = nat_le shift 14

-- a Syn whose scale, if it has one, is a scale
abbrev pub is_syn : Record → Bool
is_syn (Syn number mss window scale sack) = is_scale scale
is_syn _ = false

abbrev pub is_choice : Record → Bool
is_choice (Choice server rule) = true
is_choice _ = false

abbrev pub is_port : Record → Bool
is_port (Port owner) = true
is_port _ = false

-- an Open in the same way
abbrev pub is_open : Record → Bool
is_open (Open server port number scale sack) = is_scale scale
is_open _ = false

abbrev pub is_fin : Record → Bool
is_fin (Fin side number) = true
is_fin _ = false

abbrev pub is_gone : Record → Bool
is_gone (Gone by) = true
is_gone _ = false

-- ---- what stands in it; of another kind of record the answer is 0, no scale, no leave, the flow of
-- zeros, or the client
abbrev pub syn_number : Record → ℕ
syn_number (Syn number mss window scale sack) = number.0
syn_number _ = 0

abbrev pub syn_mss : Record → ℕ
syn_mss (Syn number mss window scale sack) = mss
syn_mss _ = 0

abbrev pub syn_window : Record → ℕ
syn_window (Syn number mss window scale sack) = window
syn_window _ = 0

abbrev pub syn_scale : Record → Option ℕ
syn_scale (Syn number mss window scale sack) = scale
syn_scale _ = None

abbrev pub syn_sack : Record → Bool
syn_sack (Syn number mss window scale sack) = sack
syn_sack _ = false

abbrev pub choice_server : Record → ℕ
choice_server (Choice server rule) = server
choice_server _ = 0

abbrev pub choice_rule : Record → ℕ
choice_rule (Choice server rule) = rule
choice_rule _ = 0

abbrev pub port_owner : Record → Flow
port_owner (Port owner) = owner
port_owner _ = record { service = 0; address = 0; port = 0; life = 0 }

abbrev pub open_server : Record → ℕ
open_server (Open server port number scale sack) = server
open_server _ = 0

abbrev pub open_port : Record → ℕ
open_port (Open server port number scale sack) = port
open_port _ = 0

abbrev pub open_number : Record → ℕ
open_number (Open server port number scale sack) = number.0
open_number _ = 0

abbrev pub open_scale : Record → Option ℕ
open_scale (Open server port number scale sack) = scale
open_scale _ = None

abbrev pub open_sack : Record → Bool
open_sack (Open server port number scale sack) = sack
open_sack _ = false

abbrev pub fin_side : Record → Side
fin_side (Fin side number) = side
fin_side _ = side.Client

abbrev pub fin_number : Record → ℕ
fin_number (Fin side number) = number.0
fin_number _ = 0

abbrev pub gone_by : Record → ℕ
gone_by (Gone by) = by
gone_by _ = 0

-- the scale of a Syn or an Open, where it has one
abbrev pub record_scale : Record → Option ℕ
record_scale (Syn number mss window scale sack) = scale
record_scale (Open server port number scale sack) = scale
record_scale _ = None

-- A record has a form: who ends a flow is one of three, and a scale is one.
pub record HasForm (r : Record) : Type 0 where
  pub by : gone_by r ≤ 2
  pub scale : IsTrue (is_scale (record_scale r))

-- ---- which records a key may name
abbrev pub fits_key : Key → Record → Bool
fits_key (key.Syn flow) r = is_syn r
fits_key (key.Choice flow) r = is_choice r
fits_key (key.Port service server port) r = is_port r
fits_key (key.Open flow) r = is_open r
fits_key (key.Fin flow side) r = is_fin r && same_side side (fin_side r)
fits_key (key.Gone flow) r = is_gone r && nat_le (gone_by r) 2

-- ---- what is asked
abbrev pub asked_key : Ask → Key
asked_key (Get key) = key
asked_key (Add key r) = key

-- an Add's record fits its key
abbrev pub FitsItsKey : Ask → Type 0
FitsItsKey (Get key) = Unit {0}
FitsItsKey (Add key r) = IsTrue (fits_key key r)
