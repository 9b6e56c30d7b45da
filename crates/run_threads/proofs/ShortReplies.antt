-- Over every history whose takes fit packets, what a bench is answered sends what fits packets, with a verdict of the handling
-- table.
use Rattle.std.proofs.Common.{◌≡◌, ℕ, zero, suc, Option, Some, None, List, [], ◌∷◌, ◌++◌, replicate, Bool, true, false, nat_eq, if◌then◌else◌, subst}
use Rattle.std.specs.Prelude.{slice_set}
use Rattle.std.specs.List.{AllByRecursion}
use Rattle.seen_lock.specs.declared.object.Entry.{Entry}
use Rattle.bench.specs.Bench.{JobState, Desk, Known, BenchState, empty_desk, desk_at, job_at, held_by, answer_of, says, begun, taken, moved, turn_of, turned, used, settle, stepped_by, stepped, step_at, served, job_by, reply_by}
use Rattle.bench.specs.Histories.{opening}
use Rattle.bench.proofs.Counts.{turn_is}
use Rattle.bench.proofs.Settles.{settle_keeps}
use Rattle.bench.specs.declared.call.Call.{Call}
use Rattle.bench.specs.declared.call.Call.TheVariants.{Take, Step, Crash, Fail}
use Rattle.bench.specs.declared.call.Reply.{Reply}
use Rattle.job_core.specs.Jobs.{flow_by}
use Rattle.job_core.specs.Table.{next_move}
use Rattle.job_core.specs.declared.aim.Aim.{Aim}
use Rattle.job_core.specs.declared.moves.Answer.{Answer as AnswerOf}
use Rattle.job_core.specs.declared.moves.Answer.TheVariants.{Decided}
use Rattle.job_core.specs.declared.moves.Next.{Next}
use Rattle.job_core.specs.declared.moves.Next.TheVariants as next
use Rattle.replica_cell.specs.Walks.{walk_after}
use Rattle.replica_cell.specs.declared.walk.Walk.{Walk}
use Rattle.rule_table.specs.Setups.{SetupView}
use Rattle.tcp_segment.specs.declared.segment.Segment.{Segment}
use Rattle.run_threads.specs.Answered.{Answer, answered}
use Rattle.bench.specs.Fitting.{FitsAgain, IsShort, IsTableReply}
use Rattle.bench.proofs.ShortOuts.{IsShortNext, move_short, sends_short}

-- a job whose segment came in with a packet
abbrev IsShortJob : Option JobState → Type 0
IsShortJob None = Unit {0}
IsShortJob (Some job) = FitsAgain job.segment

-- .. so are all jobs at these desks
abbrev AreShortJobs : List Desk → Type 0
AreShortJobs desks = (i : ℕ) → IsShortJob (job_at desks i)

abbrev pub IsShortCall : Call → Type 0
IsShortCall (Take i item a segment) = FitsAgain segment
IsShortCall (Step i) = Unit {0}
IsShortCall (Crash i) = Unit {0}
IsShortCall (Fail place) = Unit {0}

set_jobs : (desks : List Desk) (i : ℕ) (desk : Desk) → AreShortJobs desks → IsShortJob desk.job → AreShortJobs (slice_set desks i desk)
set_jobs [] i desk all one j = tt
set_jobs (d ∷ desks) zero desk all one zero = one
set_jobs (d ∷ desks) zero desk all one (suc j) = all (suc j)
set_jobs (d ∷ desks) (suc i) desk all one zero = all zero
set_jobs (d ∷ desks) (suc i) desk all one (suc j) = set_jobs desks i desk (λ k. all (suc k)) one j

job_short : (item : ℕ) (a : Aim) (segment : Segment) (answers : List AnswerOf) (n : Next) → FitsAgain segment → IsShortJob (job_by item a segment answers n)
job_short item a segment answers (next.Ask ask) short = short
job_short item a segment answers (next.End verdict outs) short = tt

reply_short : (n : Next) → IsShortNext IsShort n → IsTableReply (reply_by n)
reply_short (next.Ask ask) short = tt
reply_short (next.End verdict outs) short = short

-- the job at a desk came in so, and the reply is such a one
abbrev IsShortTo : Desk × Reply → Type 0
IsShortTo at = IsShortJob at.0.job × IsTableReply at.1

module _ (setup : SetupView) (i : ℕ) where
  moved_short : (job : JobState) (a : AnswerOf) (desk : Desk) → FitsAgain job.segment → IsShortTo (moved setup i job a desk)
  moved_short job a desk short =
      let answers = job.answers ++ a ∷ [] in
      let bytes = held_by (flow_by job.aim job.answers) desk.held in
      let n = (next_move setup i job.aim job.segment answers bytes).next in
      (job_short job.item job.aim job.segment answers n short, reply_short n (move_short FitsAgain IsShort sends_short setup i job.segment short bytes job.aim answers))

  turned_short : (at : Desk × Reply) (turn : JobState × Known) → turn_of setup at.0 ≡ Some turn → IsShortTo at → IsShortTo (turned setup i at.0 turn)
  turned_short at turn is short = moved_short turn.0 (Decided turn.1.item) (used at.0 turn.1.flow) (subst IsShortJob (turn_is setup at.0 turn is) short.0)

  settled_short : (at : Desk × Reply) → IsShortTo at → IsShortTo (settle setup i at)
  settled_short at short = settle_keeps setup i IsShortTo turned_short at short

  taken_short : (item : ℕ) (a : Aim) (segment : Segment) (desk : Desk) → FitsAgain segment → IsShortTo (taken setup i item a segment desk)
  taken_short item a segment desk short =
      let n = (next_move setup i a segment [] []).next in
      settled_short (begun setup i item a segment desk) (job_short item a segment [] n short, reply_short n (move_short FitsAgain IsShort sends_short setup i segment short [] a []))

  stepped_short : (job : JobState) (desk : Desk) (walk : Walk) (o : Option AnswerOf) → FitsAgain job.segment → IsShortTo (stepped_by setup i job desk walk o)
  stepped_short job desk walk None short = (short, tt)
  stepped_short job desk walk (Some a) short = settled_short (moved setup i job a desk) (moved_short job a desk short)

step_short : (b : BenchState) (i : ℕ) (o : Option JobState) → AreShortJobs b.desks → IsShortJob o → AreShortJobs (step_at b i o).0.desks × IsTableReply (step_at b i o).1
step_short b i None all one = (all, tt)
step_short b i (Some job) all one =
    let desk = desk_at b.desks i in
    let both = stepped_short b.setup i job desk (walk_after job.walk b.cells) (answer_of (says b.cells job)) one in
    (set_jobs b.desks i (stepped b.setup i b.cells job desk).0 all both.0, both.1)

served_short : (b : BenchState) (c : Call) → AreShortJobs b.desks → IsShortCall c → AreShortJobs (served b c).0.desks × IsTableReply (served b c).1
served_short b (Take i item a segment) all short =
    let both = taken_short b.setup i item a segment (desk_at b.desks i) short in
    (set_jobs b.desks i (taken b.setup i item a segment (desk_at b.desks i)).0 all both.0, both.1)
served_short b (Step i) all short = step_short b i (job_at b.desks i) all (all i)
served_short b (Crash i) all short = (set_jobs b.desks i empty_desk all tt, tt)
served_short b (Fail place) all short = (all, tt)

pub answers_short : (n : ℕ) (b : BenchState) (h : List (Entry Call)) → AreShortJobs b.desks → AllByRecursion (λ (e : Entry Call). IsShortCall e.call) h → AllByRecursion (λ (a : Answer). IsTableReply a.1) (answered n b h)
answers_short n b [] all short = tt
answers_short n b (e ∷ h) all short =
    let one = served_short b e.call all short.0 in
    by (nat_eq e.seat n) one.1 (answers_short n (served b e.call).0 h one.0 short.1)
  where
    by : (t : Bool) → IsTableReply (served b e.call).1 → AllByRecursion (λ (a : Answer). IsTableReply a.1) (answered n (served b e.call).0 h)
        → AllByRecursion (λ (a : Answer). IsTableReply a.1) (if t then (e.call, (served b e.call).1) ∷ answered n (served b e.call).0 h else answered n (served b e.call).0 h)
    by true is rest = (is, rest)
    by false is rest = rest

no_jobs : (n : ℕ) → AreShortJobs (replicate n empty_desk)
no_jobs zero i = tt
no_jobs (suc n) zero = tt
no_jobs (suc n) (suc i) = no_jobs n i

pub opening_short : (setup : SetupView) (shard : ℕ) → AreShortJobs (opening setup shard).desks
opening_short setup shard = no_jobs setup.instances
