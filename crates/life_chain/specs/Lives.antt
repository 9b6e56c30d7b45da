-- Which life of a client's address and port a segment belongs to. A client's address and port has up to eight connections
-- in succession: its lives, numbered from 0. A line of the handling table finds the life by asks of the store; where it
-- stands is a function of the answers that it has had so far.
use Rattle.std.specs.Prelude.{ℕ, ◌+◌, ◌==◌, nat_le, if◌then◌else◌, Option, Some, None, List, [], ◌∷◌, IsTrue}
use Rattle.flow_id.specs.declared.key.Flow.{Flow}
use Rattle.flow_id.specs.declared.key.Key.TheVariants as key
use Rattle.flow_id.specs.declared.key.Side.TheVariants as side
use Rattle.flow_record.specs.declared.record.Record.{Record}
use Rattle.flow_record.specs.declared.record.Ask.{Ask}
use Rattle.flow_record.specs.declared.record.Ask.TheVariants.{Get, Add}
use Rattle.flow_record.specs.Records.{asked_key, fits_key, syn_number}
use Rattle.life_chain.specs.declared.answer.Answer.{Answer}
use Rattle.life_chain.specs.declared.answer.Answer.TheVariants.{Decided, Absent, Down}

-- the flow in this life
abbrev pub flow_at : Flow → ℕ → Flow
flow_at flow life = record { service = flow.service; address = flow.address; port = flow.port; life = life }

-- what has a life to find
pub data Line : Type 0 where
  -- a client's SYN with this record
  opens : Flow → Record → Line
  -- another segment of a client, from this life on
  continues : Flow → ℕ → Line

-- what may answer an ask of a line: a record that fits its key, and to a get that there is none
abbrev pub Tells : Ask → Answer → Type 0
Tells ask (Decided r) = IsTrue (fits_key (asked_key ask) r)
Tells (Get key) Absent = Unit {0}
Tells (Add key r) Absent = ⊥
Tells ask Down = ⊥

-- where a line stands
pub data Stand : Type 0 where
  -- it asks this
  asks : Ask → Stand
  -- the segment is of this life, with this Syn; the answers behind that are not the line's any more
  settled : ℕ → Record → List Answer → Stand
  -- a life whose Syn has this other number has not ended
  other : ℕ → Stand
  -- there is no life; so stands every line, too, behind what may not answer its ask
  unknown : Stand
  -- all lives have other numbers and have ended
  spent : Stand

-- ---- a SYN: the life is its own where the Syn has its number; a life with another number has to have ended, by a reset or
-- by the close of both sides, and then the next one follows
abbrev mutual
  pub opening : Flow → Record → ℕ → List Answer → Stand
  opening flow own life [] = asks (Add (key.Syn (flow_at flow life)) own)
  opening flow own life (Decided syn ∷ answers) =
      if syn_number syn == syn_number own then settled life syn answers
      else resetting flow own life (syn_number syn) answers
  opening flow own life (Absent ∷ answers) = unknown
  opening flow own life (Down ∷ answers) = unknown

  -- whether the life, whose Syn has the number n, was reset
  pub resetting : Flow → Record → ℕ → ℕ → List Answer → Stand
  resetting flow own life n [] = asks (Get (key.Gone (flow_at flow life)))
  resetting flow own life n (Decided gone ∷ answers) = if nat_le 7 life then spent else opening flow own (life + 1) answers
  resetting flow own life n (Absent ∷ answers) = client_closing flow own life n answers
  resetting flow own life n (Down ∷ answers) = unknown

  -- whether its client has closed
  pub client_closing : Flow → Record → ℕ → ℕ → List Answer → Stand
  client_closing flow own life n [] = asks (Get (key.Fin (flow_at flow life) side.Client))
  client_closing flow own life n (Decided fin ∷ answers) = server_closing flow own life n answers
  client_closing flow own life n (Absent ∷ answers) = other n
  client_closing flow own life n (Down ∷ answers) = unknown

  -- whether its server has closed, too
  pub server_closing : Flow → Record → ℕ → ℕ → List Answer → Stand
  server_closing flow own life n [] = asks (Get (key.Fin (flow_at flow life) side.Server))
  server_closing flow own life n (Decided fin ∷ answers) = if nat_le 7 life then spent else opening flow own (life + 1) answers
  server_closing flow own life n (Absent ∷ answers) = other n
  server_closing flow own life n (Down ∷ answers) = unknown

-- ---- any other segment: it is of the last life whose Syn is decided
-- the life before, with its Syn, where there is one
abbrev pub settled_before : Option (ℕ × Record) → List Answer → Stand
settled_before None answers = unknown
settled_before (Some before) answers = settled before.0 before.1 answers

abbrev pub continuing : Flow → Option (ℕ × Record) → ℕ → List Answer → Stand
continuing flow before life [] = asks (Get (key.Syn (flow_at flow life)))
continuing flow before life (Decided syn ∷ answers) =
    if nat_le 7 life then settled life syn answers else continuing flow (Some (life, syn)) (life + 1) answers
continuing flow before life (Absent ∷ answers) = settled_before before answers
continuing flow before life (Down ∷ answers) = unknown

-- where a line stands after these answers
abbrev pub stand : Line → List Answer → Stand
stand (opens flow own) answers = opening flow own 0 answers
stand (continues flow from) answers = continuing flow None from answers
