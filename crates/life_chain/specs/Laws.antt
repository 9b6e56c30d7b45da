-- What a line that finds a life was told where it stands: its asks, the lives that it passed over, and how many asks it
-- can make.
use Rattle.std.specs.Prelude.{◌≡◌, ◌≢◌, ℕ, ◌+◌, ◌≤◌, ◌<◌, List, ◌∷◌, ◌++◌, length, None}
use Rattle.flow_id.specs.declared.key.Flow.{Flow}
use Rattle.flow_id.specs.declared.key.Side.{Side}
use Rattle.flow_id.specs.declared.key.Side.TheVariants as side
use Rattle.flow_id.specs.declared.key.Key.TheVariants as key
use Rattle.flow_record.specs.declared.record.Record.{Record}
use Rattle.flow_record.specs.declared.record.Ask.{Ask}
use Rattle.flow_record.specs.declared.record.Ask.TheVariants.{Get, Add}
use Rattle.flow_record.specs.Records.{syn_number}
use Rattle.life_chain.specs.declared.answer.Answer.{Answer}
use Rattle.life_chain.specs.declared.answer.Answer.TheVariants.{Decided, Absent}
use Rattle.life_chain.specs.Lives.{Stand, asks, settled, other, unknown, spent, flow_at, opening, continuing, Tells}

-- among these answers is this one, to this ask; `at` tells where the line stands after its answers
pub record Told (at : List Answer → Stand) (answers : List Answer) (ask : Ask) (got : Answer) : Type 0 where
  pub before : List Answer
  pub after : List Answer
  pub parts : answers ≡ before ++ got ∷ after
  pub asked : at before ≡ asks ask

-- among these answers is one that may not answer its ask
pub record ToldBarred (at : List Answer → Stand) (answers : List Answer) : Type 0 where
  pub ask : Ask
  pub got : Answer
  pub told : Told at answers ask got
  pub barred : Tells ask got → ⊥

-- a record was decided under this ask
pub record ToldSome (at : List Answer → Stand) (answers : List Answer) (ask : Ask) : Type 0 where
  pub decided : Record
  pub told : Told at answers ask (Decided decided)

-- ---- a SYN's line
-- the life was found ended, by a reset or by the close of both sides
pub data HasEnded (at : List Answer → Stand) (answers : List Answer) (flow : Flow) (life : ℕ) : Type 0 where
  by_reset : ToldSome at answers (Get (key.Gone (flow_at flow life))) → HasEnded at answers flow life
  by_close : ToldSome at answers (Get (key.Fin (flow_at flow life) side.Client)) → ToldSome at answers (Get (key.Fin (flow_at flow life) side.Server)) → HasEnded at answers flow life

-- the life was found not ended: it was not reset, and one side has not closed
pub data HasNotEnded (at : List Answer → Stand) (answers : List Answer) (flow : Flow) (life : ℕ) : Type 0 where
  still_open : (from : Side) → Told at answers (Get (key.Gone (flow_at flow life))) Absent → Told at answers (Get (key.Fin (flow_at flow life) from)) Absent → HasNotEnded at answers flow life

-- the life's Syn was decided with another number, and the life was found ended
pub record PassedOver (at : List Answer → Stand) (answers : List Answer) (flow : Flow) (own : Record) (life : ℕ) : Type 0 where
  pub syn : Record
  pub told : Told at answers (Add (key.Syn (flow_at flow life)) own) (Decided syn)
  pub differs : syn_number syn ≢ syn_number own
  pub ended : HasEnded at answers flow life

-- all lives from the first on up to this one were passed over
pub record Reached (at : List Answer → Stand) (answers : List Answer) (flow : Flow) (own : Record) (first life : ℕ) : Type 0 where
  pub above : first ≤ life
  pub below : life ≤ 7
  pub passed : (l : ℕ) → first ≤ l → l < life → PassedOver at answers flow own l

-- the asks of a SYN at a life
pub data IsAskOf (flow : Flow) (own : Record) (life : ℕ) : Ask → Type 0 where
  adds_syn : IsAskOf flow own life (Add (key.Syn (flow_at flow life)) own)
  gets_gone : IsAskOf flow own life (Get (key.Gone (flow_at flow life)))
  gets_fin : (from : Side) → IsAskOf flow own life (Get (key.Fin (flow_at flow life) from))

pub record AsksAt (at : List Answer → Stand) (answers : List Answer) (flow : Flow) (own : Record) (first : ℕ) (ask : Ask) : Type 0 where
  pub life : ℕ
  pub reached : Reached at answers flow own first life
  pub is_ask : IsAskOf flow own life ask

pub record SettledAt (at : List Answer → Stand) (answers : List Answer) (flow : Flow) (own : Record) (first life : ℕ) (syn : Record) : Type 0 where
  pub reached : Reached at answers flow own first life
  pub told : Told at answers (Add (key.Syn (flow_at flow life)) own) (Decided syn)
  pub same : syn_number syn ≡ syn_number own

pub record OtherAt (at : List Answer → Stand) (answers : List Answer) (flow : Flow) (own : Record) (first n : ℕ) : Type 0 where
  pub life : ℕ
  pub reached : Reached at answers flow own first life
  pub syn : Record
  pub told : Told at answers (Add (key.Syn (flow_at flow life)) own) (Decided syn)
  pub number : syn_number syn ≡ n
  pub differs : n ≢ syn_number own
  pub unended : HasNotEnded at answers flow life

-- what a SYN's line, from this life on, was told where it stands
abbrev pub Opens : (List Answer → Stand) → List Answer → Flow → Record → ℕ → Stand → Type 0
Opens at answers flow own first (asks ask) = AsksAt at answers flow own first ask
Opens at answers flow own first (settled life syn rest) = SettledAt at answers flow own first life syn
Opens at answers flow own first (other n) = OtherAt at answers flow own first n
Opens at answers flow own first spent = (l : ℕ) → first ≤ l → l ≤ 7 → PassedOver at answers flow own l
Opens at answers flow own first unknown = ToldBarred at answers

-- A SYN's line asks for the Syn, the Gone and the Fins of its lives alone. It settles on a life whose Syn has its number,
-- and meets another number at a life that has not ended; all lives before have other numbers and have ended, and so have
-- all eight where the line is spent. It never finds that there is no life, but behind an answer that is none.
abbrev pub OpenedLives : Type 0
OpenedLives = (flow : Flow) (own : Record) (answers : List Answer)
    → Opens (opening flow own 0) answers flow own 0 (opening flow own 0 answers)

-- ---- the line of another segment
-- the life is the last that was asked for, or the next life has no Syn
pub data IsLast (at : List Answer → Stand) (answers : List Answer) (flow : Flow) (life : ℕ) : Type 0 where
  eighth : life ≡ 7 → IsLast at answers flow life
  before_none : Told at answers (Get (key.Syn (flow_at flow (life + 1)))) Absent → IsLast at answers flow life

-- the Syns of all lives from the first on up to this one are decided
pub record Passed (at : List Answer → Stand) (answers : List Answer) (flow : Flow) (first life : ℕ) : Type 0 where
  pub above : first ≤ life
  pub below : life ≤ 7
  pub decided : (l : ℕ) → first ≤ l → l < life → ToldSome at answers (Get (key.Syn (flow_at flow l)))

pub record FindsAt (at : List Answer → Stand) (answers : List Answer) (flow : Flow) (first : ℕ) (ask : Ask) : Type 0 where
  pub life : ℕ
  pub passed : Passed at answers flow first life
  pub is_ask : ask ≡ Get (key.Syn (flow_at flow life))

pub record FoundAt (at : List Answer → Stand) (answers : List Answer) (flow : Flow) (first life : ℕ) (syn : Record) : Type 0 where
  pub passed : Passed at answers flow first life
  pub told : Told at answers (Get (key.Syn (flow_at flow life))) (Decided syn)
  pub is_last : IsLast at answers flow life

-- the first life has no Syn, or an answer was none
pub data IsNowhere (at : List Answer → Stand) (answers : List Answer) (flow : Flow) (first : ℕ) : Type 0 where
  no_first : Told at answers (Get (key.Syn (flow_at flow first))) Absent → IsNowhere at answers flow first
  barred : ToldBarred at answers → IsNowhere at answers flow first

-- what another segment's line, from this life on, was told where it stands
abbrev pub Continues : (List Answer → Stand) → List Answer → Flow → ℕ → Stand → Type 0
Continues at answers flow first (asks ask) = FindsAt at answers flow first ask
Continues at answers flow first (settled life syn rest) = FoundAt at answers flow first life syn
Continues at answers flow first unknown = IsNowhere at answers flow first
Continues at answers flow first (other n) = ⊥
Continues at answers flow first spent = ⊥

-- The line of another segment asks for the Syns of its lives alone. It settles on a life whose Syn is decided, as are
-- those of the lives before, and the next life has none, or the life is the eighth.
abbrev pub ContinuedLives : Type 0
ContinuedLives = (flow : Flow) (first : ℕ) (answers : List Answer) → first ≤ 7
    → Continues (continuing flow None first) answers flow first (continuing flow None first answers)

-- ---- how many asks there are
-- a line that asks has had fewer answers than this, and one that has settled at most as many
abbrev pub IsShort : ℕ → List Answer → Stand → Type 0
IsShort most answers (asks ask) = length answers < most
IsShort most answers (settled life syn rest) = length answers ≤ length rest + most
IsShort most answers (other n) = Unit {0}
IsShort most answers spent = Unit {0}
IsShort most answers unknown = Unit {0}

-- a SYN makes at most 32 asks, and another segment at most eight
abbrev pub ShortOpening : Type 0
ShortOpening = (flow : Flow) (own : Record) (answers : List Answer) → IsShort 32 answers (opening flow own 0 answers)

abbrev pub ShortContinuing : Type 0
ShortContinuing = (flow : Flow) (first : ℕ) (answers : List Answer) → first ≤ 7 → IsShort 8 answers (continuing flow None first answers)
