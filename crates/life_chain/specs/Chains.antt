-- How a chain shows where its line stands. The chain keeps the life and the stage at it; its line's answers tell both.
use Rattle.std.specs.Prelude.{◌≡◌, ℕ, ◌+◌, ◌==◌, Bool, true, false, nat_le, if◌then◌else◌, Option, Some, None, List, [], ◌∷◌, ◌++◌, IsTrue}
use Rattle.flow_record.specs.declared.record.Record.{Record}
use Rattle.flow_record.specs.Records.{is_syn, syn_number}
use Rattle.life_chain.specs.declared.chain.Chain.{Chain}
use Rattle.life_chain.specs.declared.answer.Answer.{Answer}
use Rattle.life_chain.specs.declared.found.Found.{Found}
use Rattle.life_chain.specs.declared.found.Found.TheVariants as found
use Rattle.life_chain.specs.declared.stage.Stage.{Stage}
use Rattle.life_chain.specs.declared.stage.Stage.TheVariants.{Claiming, Resetting, ClientClosing, ServerClosing, Finding, Settled, Other, Unknown, Spent}
use Rattle.life_chain.specs.Lives.{Line, opens, continues, Stand, asks, settled, other, unknown, spent, opening, resetting, client_closing, server_closing, continuing, stand, Tells}

-- what a line has found where it stands
abbrev pub shown : Stand → Found
shown (asks ask) = found.Ask ask
shown (settled life syn answers) = found.At life
shown (other n) = found.Other (record { 0 = n })
shown unknown = found.Unknown
shown spent = found.Spent

-- what a line has found after these answers
abbrev pub found_by : Line → List Answer → Found
found_by line answers = shown (stand line answers)

-- the Syn of the life on which a line has settled
abbrev pub syn_at : Stand → Option Record
syn_at (settled life syn answers) = Some syn
syn_at (asks ask) = None
syn_at (other n) = None
syn_at unknown = None
syn_at spent = None

-- this is the Syn of the life on which a line has settled with its last answer, and None where it has not
abbrev pub IsSettledSyn : Stand → Option Record → Type 0
IsSettledSyn (settled life syn answers) o = (o ≡ Some syn) × (answers ≡ []) × (is_syn syn ≡ true)
IsSettledSyn (asks ask) o = o ≡ None
IsSettledSyn (other n) o = o ≡ None
IsSettledSyn unknown o = o ≡ None
IsSettledSyn spent o = o ≡ None

-- where a chain at this stage stands after these further answers
abbrev pub stands_at : Chain → Stage → List Answer → Stand
stands_at chain (Claiming own) more = opening chain.flow own chain.life more
stands_at chain (Resetting own number) more = resetting chain.flow own chain.life number.0 more
stands_at chain (ClientClosing own number) more = client_closing chain.flow own chain.life number.0 more
stands_at chain (ServerClosing own number) more = server_closing chain.flow own chain.life number.0 more
stands_at chain (Finding before) more = continuing chain.flow before chain.life more
stands_at chain (Settled life syn) more = settled life syn more
stands_at chain (Other number) more = other number.0
stands_at chain Unknown more = unknown
stands_at chain Spent more = spent

-- where a chain stands
abbrev pub now_at : Chain → Stand
now_at chain = stands_at chain chain.stage []

-- what a chain has found
abbrev pub stood : Chain → Found
stood chain = shown (now_at chain)

-- the stages of a SYN's chain, and those of another segment's
abbrev pub is_stage : Line → Stage → Bool
is_stage (opens flow own) (Finding before) = false
is_stage (opens flow own) Unknown = false
is_stage (opens flow own) _ = true
is_stage (continues flow from) (Finding before) = true
is_stage (continues flow from) (Settled life syn) = true
is_stage (continues flow from) Unknown = true
is_stage (continues flow from) _ = false

-- what the stage has of a Syn is one
abbrev pub has_syn : Stage → Bool
has_syn (Finding (Some before)) = is_syn before.1
has_syn (Settled life syn) = is_syn syn
has_syn _ = true

-- the chain stands where the line stands after these answers, whatever comes behind them
pub record Stands (line : Line) (answers : List Answer) (chain : Chain) : Type 0 where
  pub same : (more : List Answer) → stand line (answers ++ more) ≡ stands_at chain chain.stage more
  pub stage : IsTrue (is_stage line chain.stage)
  pub syn : IsTrue (has_syn chain.stage)

-- what a line may find: a SYN's settles, meets another number or is spent, and another segment's settles or finds no life
abbrev pub may_find : Line → Found → Bool
may_find (opens flow own) found.Unknown = false
may_find (opens flow own) _ = true
may_find (continues flow from) (found.Other number) = false
may_find (continues flow from) found.Spent = false
may_find (continues flow from) _ = true

-- an ask stands, and this may answer it
abbrev pub MayFollow : Found → Answer → Type 0
MayFollow (found.Ask ask) got = Tells ask got
MayFollow _ got = ⊥

-- a chain after one more answer: where it stands after others is where the earlier one stands after this answer and those
pub record Follows (old : Chain) (got : Answer) (new : Chain) : Type 0 where
  pub same : (more : List Answer) → stands_at old old.stage (got ∷ more) ≡ stands_at new new.stage more
  pub stage : (line : Line) → IsTrue (is_stage line old.stage) → IsTrue (is_stage line new.stage)
  pub syn : IsTrue (has_syn old.stage) → IsTrue (has_syn new.stage)

-- ---- the chain at another life or stage
abbrev pub chain_at : Chain → ℕ → Stage → Chain
chain_at chain life stage = record { flow = chain.flow; life = life; stage = stage }

-- at a life whose Syn this is
abbrev pub claimed_at : Chain → Record → Record → Chain
claimed_at chain own syn =
    if syn_number syn == syn_number own then chain_at chain chain.life (Settled chain.life syn)
    else chain_at chain chain.life (Resetting own (record { 0 = syn_number syn }))

-- behind a life that has ended
abbrev pub opening_behind : Chain → Record → Chain
opening_behind chain own =
    if nat_le 7 chain.life then chain_at chain chain.life Spent else chain_at chain (chain.life + 1) (Claiming own)

-- behind a life whose Syn is decided
abbrev pub finding_behind : Chain → Record → Chain
finding_behind chain syn =
    let life = chain.life in
    if nat_le 7 life then chain_at chain life (Settled life syn) else chain_at chain (life + 1) (Finding (Some (life, syn)))
