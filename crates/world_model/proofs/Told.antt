-- What is sent with the reply to a call of a bench is told without the answers of the call's job.
use Rattle.std.proofs.Common.{◌≡◌, ℕ, zero, suc, ◌+◌, ◌≤◌, ◌⊎◌, Bool, true, false, Option, Some, None, List, [], ◌∷◌, ◌++◌, length, refl, sym, ◌∙◌, ap, subst, arith, inl, inr}
use Rattle.std.specs.Prelude.{slice_get, option_map, option_and_then}
use Rattle.std.specs.List.{AllByRecursion, last_or}
use Rattle.std.proofs.lemmas.Bool.{true≢false}
use Rattle.std.proofs.lemmas.List.{length-append}
use Rattle.std.proofs.lemmas.Option.{none-some, same_Some}
use Rattle.flow_id.specs.declared.key.Flow.{Flow}
use Rattle.flow_id.specs.declared.key.Key.{Key}
use Rattle.flow_id.specs.declared.key.Key.TheVariants as key
use Rattle.flow_record.specs.Records.{port_owner}
use Rattle.flow_record.specs.declared.record.Record.{Record}
use Rattle.flow_record.specs.declared.record.Ask.{Ask}
use Rattle.flow_record.specs.declared.record.Ask.TheVariants.{Get, Add}
use Rattle.job_core.specs.Aims.{flow_from, is_syn_ack}
use Rattle.job_core.specs.Jobs.{flow_by, is_get}
use Rattle.job_core.specs.Table.{next_move}
use Rattle.job_core.specs.TableLaws.{TableLaws, IsAsked, IsEnded}
use Rattle.job_core.specs.declared.aim.Aim.{Aim}
use Rattle.job_core.specs.declared.aim.Aim.TheVariants as aim
use Rattle.job_core.specs.declared.moves.Answer.{Answer}
use Rattle.job_core.specs.declared.moves.Answer.TheVariants.{Decided, Absent, Down}
use Rattle.job_core.specs.declared.moves.HeldChange.{HeldChange}
use Rattle.job_core.specs.declared.moves.Next.{Next}
use Rattle.job_core.specs.declared.moves.Next.TheVariants as next
use Rattle.job_core.specs.declared.verdict.Verdict.{Verdict}
use Rattle.job_core.specs.declared.verdict.Verdict.TheVariants as verdict
use Rattle.replica_cell.proofs.Lists.{all_push}
use Rattle.rule_table.specs.Setups.{SetupView, IsSetup}
use Rattle.tcp_segment.specs.Sending.{OutsView}
use Rattle.tcp_segment.specs.declared.segment.Segment.{Segment}
use Rattle.bench.specs.declared.call.Call.{Call}
use Rattle.bench.specs.declared.call.Call.TheVariants.{Take, Step, Crash, Fail}
use Rattle.bench.specs.declared.call.Reply.{Reply}
use Rattle.bench.specs.declared.call.Reply.TheVariants as reply
use Rattle.bench.specs.Bench.{JobState, Desk, Known, BenchState, desk_at, job_at, held_by, known, job_by, moved, turn_by, turn_of, turned, used, begun, asks_limit, answer_of, says, served}
use Rattle.bench.specs.Calls.{IsCall, IsAimedHere, AreCalls, IsReached}
use Rattle.bench.specs.Histories.{Mark, JobMove, known_move, moves_by, settled_moves, settle_moves, move_by, step_moves, moves_at, bench_after, log_after, flow_of_job, flow_of_last, flow_at, Decides}
use Rattle.bench.specs.MoveLaws.{MoveLaws, Proposal, IsDone}
use Rattle.bench.specs.MoveLaws.{Sent as Says}
use Rattle.bench.specs.MoveLaws.Proposal.{of_syn, of_choice, of_port, of_open, of_fin, of_gone}
use Rattle.bench.specs.MoveLaws.Sent.{silent, answered, asked, opened, to_server, to_client, refused, unknown_client, unknown_server, turned_away}
use Rattle.bench.proofs.Origins.{origin_in_log}
use Rattle.world_model.specs.declared.client.ClientSpec.{ClientSpec}
use Rattle.world_model.specs.Openings.{opening_of}
use Rattle.world_model.specs.Outs.{handled_sends}
use Rattle.world_model.specs.Placed.{replied, total}
use Rattle.world_model.specs.Posted.{Posted}
use Rattle.world_model.specs.Told.{flow_before, flow_to, flow_told, told_sends, shard_sends, IsTold}
use Rattle.world_model.specs.World.{World, Shard}
use Rattle.world_model.proofs.Calls.{ended_total}
use Rattle.world_model.proofs.Ending.{placed_nothing}
use Rattle.world_model.proofs.Gets.{gets_few, opening_many}

-- ---- the owner of a port
-- a flow of a client's address and port
abbrev IsFrom : SetupView → Flow → Type 0
IsFrom setup flow = flow ≡ flow_from setup flow.address flow.port

from_is : (setup : SetupView) (flow : Flow) (address port : ℕ) → flow ≡ flow_from setup address port → IsFrom setup flow
from_is setup flow address port is =
    is ∙ ap (λ (x : ℕ). flow_from setup x port) (sym (ap (λ (f : Flow). f.address) is)) ∙ ap (λ (x : ℕ). flow_from setup flow.address x) (sym (ap (λ (f : Flow). f.port) is))

abbrev OwnerSays : SetupView → Key → Record → Type 0
OwnerSays setup (key.Port service server port) r = IsFrom setup (port_owner r)
OwnerSays setup (key.Syn flow) r = Unit {0}
OwnerSays setup (key.Choice flow) r = Unit {0}
OwnerSays setup (key.Open flow) r = Unit {0}
OwnerSays setup (key.Fin flow side) r = Unit {0}
OwnerSays setup (key.Gone flow) r = Unit {0}

proposal_says : (table : TableLaws) (log : List Mark) (setup : SetupView) (shard i : ℕ) (seg : Segment) (held : Flow → List ℕ) (a : Aim) (k : Key) (r : Record)
    → IsAimedHere setup shard a seg → Proposal log setup i seg held a k r → OwnerSays setup k r
proposal_says table log setup shard i seg held a k r ours (of_syn flow q syn number) = tt
proposal_says table log setup shard i seg held a k r ours (of_choice flow syn q clear still decided absent reads chosen admitted) = tt
proposal_says table log setup shard i seg held a k r ours (of_port flow syn choice q candidate clear still decided chosen few owned others) =
    from_is setup (port_owner q) seg.source seg.head.source_port (owned ∙ (table.clients setup seg.source seg.target seg.head flow (sym ours.0)).flow_is)
proposal_says table log setup shard i seg held a k r ours (of_open server port owner syn q set acks owned decided at port_at number) = tt
proposal_says table log setup shard i seg held a k r ours (of_fin aimed_ flow from q) = tt
proposal_says table log setup shard i seg held a k r ours (of_gone aimed_ flow q) = tt

owner_from : (table : TableLaws) (setup : SetupView) (shard : ℕ) → MoveLaws setup shard → (calls : List Call) → AreCalls setup shard calls → (service server port : ℕ) (r : Record)
    → Decides (log_after setup shard calls) (key.Port service server port) r → IsFrom setup (port_owner r)
owner_from table setup shard laws calls are service server port r decides =
    let cause = laws.caused calls are (key.Port service server port) r (origin_in_log setup shard calls (key.Port service server port) r decides) in
    proposal_says table _ setup shard cause.instance cause.is.segment _ cause.is.aim (key.Port service server port) r cause.is.aimed cause.is.proposal

-- the client that it goes to is the owner
to_owner : (setup : SetupView) (s : Segment) (flow : Flow) → IsFrom setup flow → s.target ≡ flow.address → s.head.target_port ≡ flow.port → flow_to setup s ≡ flow
to_owner setup s flow from target port =
    ap (λ (x : ℕ). flow_from setup x s.head.target_port) target ∙ ap (λ (x : ℕ). flow_from setup flow.address x) port ∙ sym from

-- ---- the moves of a call
-- after these answers the table asks for a record that is to be there
record IsGotten (setup : SetupView) (i : ℕ) (a : Aim) (segment : Segment) (answers : List Answer) : Type 0 where
  held : List ℕ
  change : HeldChange
  ask : Ask
  asked : IsAsked setup i segment held a answers change ask
  gets : is_get ask ≡ true

-- what is known of the flow before the call stays so, and where nothing is, each move behind is by the answer of a Get
module _ (setup : SetupView) (i : ℕ) (before : Option Flow) where
  abbrev Grew : Aim → List Answer → Type 0
  Grew a answers = (flow_by a answers ≡ before) ⊎ ((before ≡ None) × (flow_by a [] ≡ None))

  abbrev Moves : JobMove → Type 0
  Moves m = (flow_of_job m.job ≡ before) ⊎ ((before ≡ None) × (flow_by m.job.aim [] ≡ None) × IsGotten setup i m.job.aim m.job.segment m.job.answers)

  -- a job at a desk between the moves
  record Stands (job : JobState) : Type 0 where
    grew : Grew job.aim job.answers
    held : List ℕ
    change : HeldChange
    asked : IsAsked setup i job.segment held job.aim job.answers change job.walk.ask

  abbrev StandsAt : Option JobState → Type 0
  StandsAt o = (job : JobState) → o ≡ Some job → Stands job

  grown : (a : Aim) (answers : List Answer) (x : Answer) → Grew a answers → Grew a (answers ++ x ∷ [])
  grown (aim.Client f) answers x g = g
  grown (aim.Server v p) [] x (inl e) = inr (sym e, refl)
  grown (aim.Server v p) [] x (inr n) = inr n
  grown (aim.Server v p) (Decided r ∷ answers) x g = g
  grown (aim.Server v p) (Absent ∷ answers) x g = g
  grown (aim.Server v p) (Down ∷ answers) x g = g
  grown (aim.Odd flags) answers x g = g
  grown aim.NotOurs answers x g = g

  begins : TableLaws → (item : ℕ) (a : Aim) (segment : Segment) (answers : List Answer) (held : List ℕ) (n : Next) → (next_move setup i a segment answers held).next ≡ n → Grew a answers
      → StandsAt (job_by item a segment answers n)
  begins table item a segment answers held (next.Ask q) is g job here =
      subst Stands (same_Some _ job here) (record { grew = g; held = held; change = (next_move setup i a segment answers held).held; asked = table.asks setup i a segment answers held q is })
  begins table item a segment answers held (next.End v outs) is g job here = absurd (none-some job here)

  moved_stands : TableLaws → (job : JobState) (x : Answer) (desk : Desk) → Grew job.aim job.answers → StandsAt (moved setup i job x desk).0.job
  moved_stands table job x desk g =
      begins table job.item job.aim job.segment (job.answers ++ x ∷ []) (held_by (flow_by job.aim job.answers) desk.held) _ refl (grown job.aim job.answers x g)

  known_gets : (desk : Desk) (ask : Ask) (k : Known) → known setup desk.kept ask ≡ Some k → is_get ask ≡ true
  known_gets desk (Get x) k is = refl
  known_gets desk (Add x r) k is = absurd (none-some k is)

  record IsTurn (desk : Desk) (turn : JobState × Known) : Type 0 where
    here : desk.job ≡ Some turn.0
    gets : is_get turn.0.walk.ask ≡ true

  turn_is : (desk : Desk) (turn : JobState × Known) → turn_of setup desk ≡ Some turn → IsTurn desk turn
  turn_is desk turn is = by desk.job refl is
    where
      known_by : (job : JobState) (o : Option Known) → desk.job ≡ Some job → known setup desk.kept job.walk.ask ≡ o → option_map (λ (k : Known). (job, k)) o ≡ Some turn → IsTurn desk turn
      known_by job None here at is = absurd (none-some turn is)
      known_by job (Some k) here at is = subst (IsTurn desk) (same_Some (job, k) turn is) (record { here = here; gets = known_gets desk job.walk.ask k at })

      by : (o : Option JobState) → desk.job ≡ o → turn_by setup desk.kept o ≡ Some turn → IsTurn desk turn
      by None here is = absurd (none-some turn is)
      by (Some job) here is = known_by job (known setup desk.kept job.walk.ask) here refl is

  known_moves : (desk : Desk) (turn : JobState × Known) → IsTurn desk turn → Stands turn.0 → Moves (known_move i desk turn)
  known_moves desk turn is s = by s.grew
    where
      by : Grew turn.0.aim turn.0.answers → Moves (known_move i desk turn)
      by (inl same) = inl same
      by (inr none) = inr (none.0, none.1, record { held = s.held; change = s.change; ask = turn.0.walk.ask; asked = s.asked; gets = is.gets })

  module _ (table : TableLaws) where
    settled_move : (n : ℕ) (at : Desk × Reply) → StandsAt at.0.job → AllByRecursion Moves (settled_moves n setup i at)
    settled_move zero at stands = tt
    settled_move (suc n) at stands = by (settled_moves n setup i) (settled_move n) (turn_of setup at.0) refl
      where
        by : (more : Desk × Reply → List JobMove) → ((x : Desk × Reply) → StandsAt x.0.job → AllByRecursion Moves (more x)) → (o : Option (JobState × Known)) → turn_of setup at.0 ≡ o
            → AllByRecursion Moves (moves_by more setup i at o)
        by more rest None is = tt
        by more rest (Some turn) is =
            let t = turn_is at.0 turn is in
            let s = stands turn.0 t.here in
            (known_moves at.0 turn t s, rest (turned setup i at.0 turn) (moved_stands table turn.0 (Decided turn.1.item) (used at.0 turn.1.flow) s.grew))

    settle_move : (at : Desk × Reply) → StandsAt at.0.job → AllByRecursion Moves (settle_moves setup i at)
    unfolding settle_moves
    settle_move at stands = settled_move asks_limit at stands

-- the instance that makes the call
abbrev caller : Call → ℕ
caller (Take i item a s) = i
caller (Step i) = i
caller (Crash i) = i
caller (Fail place) = place

call_moves : TableLaws → (b : BenchState) (c : Call) → AllByRecursion (Moves b.setup (caller c) (flow_before b c)) (moves_at b c)
call_moves table b (Take i item a segment) =
    settle_move b.setup i (flow_by a []) table (begun b.setup i item a segment (desk_at b.desks i)) (begins b.setup i (flow_by a []) table item a segment [] [] _ refl (inl refl))
call_moves table b (Step i) = by (job_at b.desks i)
  where
    answered_by : (job : JobState) (o : Option Answer) → AllByRecursion (Moves b.setup i (flow_of_job job)) (move_by b.setup i job (desk_at b.desks i) o)
    answered_by job None = tt
    answered_by job (Some x) = (
      inl refl,
      settle_move b.setup i (flow_of_job job) table (moved b.setup i job x (desk_at b.desks i)) (moved_stands b.setup i (flow_of_job job) table job x (desk_at b.desks i) (inl refl)),
    )

    by : (o : Option JobState) → AllByRecursion (Moves b.setup i (option_and_then flow_of_job o)) (step_moves b i o)
    by None = tt
    by (Some job) = answered_by job (answer_of (says b.cells job))
call_moves table b (Crash i) = tt
call_moves table b (Fail place) = tt

-- ---- what is sent
last_is : (earlier : List JobMove) (o : Option JobMove) (m : JobMove) → last_or o (earlier ++ m ∷ []) ≡ Some m
last_is [] o m = refl
last_is (x ∷ earlier) o m = last_is earlier (Some x) m

all_last : (P : JobMove → Type 0) (earlier : List JobMove) (m : JobMove) → AllByRecursion P (earlier ++ m ∷ []) → P m
all_last P [] m all = all.0
all_last P (x ∷ earlier) m all = all_last P earlier m all.1

none_sent : (w : World) (flow other : Option Flow) (taken : Option Posted) (v : Verdict) → handled_sends w flow taken v [] ≡ handled_sends w other taken v []
none_sent w flow other taken v = placed_nothing (option_and_then (opening_of w) flow) v taken flow ∙ sym (placed_nothing (option_and_then (opening_of w) other) v taken other)

module _ (table : TableLaws) (setup : SetupView) (shard : ℕ) (laws : MoveLaws setup shard) (calls : List Call) (are : AreCalls setup shard calls) (w : World) (taken : Option Posted) where
  -- where no flow was known before the call
  abbrev Unknown : Aim → Option Flow → Verdict → Type 0
  Unknown a flow v = (flow ≡ None) ⊎ ((flow_by a [] ≡ None) × (v ≡ verdict.Opened → ⊥))

  no_client : (flow : Flow) (v : Verdict) → Unknown (aim.Client flow) (Some flow) v → ⊥
  no_client flow v (inl none) = none-some flow (sym none)
  no_client flow v (inr none) = none-some flow (sym none.0)

  by_sent : (seg : Segment) (held : Flow → List ℕ) (a : Aim) (flow : Option Flow) (v : Verdict) (outs : List Segment) → Says (log_after setup shard calls) setup seg held a flow v outs → Unknown a flow v
      → handled_sends w (flow_told setup None v outs) taken v outs ≡ handled_sends w flow taken v outs
  by_sent seg held a flow v outs (silent _ _ _ quiet) unknown = none_sent w (flow_told setup None v []) flow taken v
  by_sent seg held a flow v outs (answered f syn s set d number it) unknown = absurd (no_client f v unknown)
  by_sent seg held a flow v outs (asked f server port syn choice owner s clear still d e chosen g owned it) unknown = absurd (no_client f v unknown)
  by_sent seg held a flow v outs (opened server port owner syn r _ set d e g number it) (inl none) = absurd (none-some (port_owner owner) (sym none))
  by_sent seg held a flow v outs (opened server port owner syn r _ set d e g number it) (inr none) = absurd (none.1 refl)
  by_sent seg held a flow v outs (to_server f syn r s clear d e it) unknown = absurd (no_client f v unknown)
  by_sent seg held a flow v outs (to_client server port owner syn r s clear d e g it) unknown =
      ap (λ (f : Flow). handled_sends w (Some f) taken v outs)
      (to_owner setup s (port_owner owner) (owner_from table setup shard laws calls are setup.service.number server port owner d) it.target it.target_port)
  by_sent seg held a flow v outs (refused f syn why _ clear still d all) unknown = absurd (no_client f v unknown)
  by_sent seg held a flow v outs (unknown_client f _ clear d all) unknown = absurd (no_client f v unknown)
  by_sent seg held a flow v outs (unknown_server server port _ d all) unknown = refl
  by_sent seg held a flow v outs (turned_away server port owner syn s clear reset d e it) unknown =
      ap (λ (f : Flow). handled_sends w (Some f) taken v outs)
      (to_owner setup s (port_owner owner) (owner_from table setup shard laws calls are setup.service.number server port owner d) it.target it.target_port)

-- ---- the reply
module _ (table : TableLaws) (b : BenchState) (laws : MoveLaws b.setup b.shard) (reached : IsReached b.setup b.shard b) (c : Call) (may : IsCall b.setup b.shard c) (v : Verdict) (outs : OutsView)
    (is : (served b c).1 ≡ reply.Done v outs) where
  are : AreCalls b.setup b.shard (reached.calls ++ c ∷ [])
  are = all_push (IsCall b.setup b.shard) reached.calls c reached.are may

  done : IsDone b.setup b.shard reached.calls c v outs
  done = laws.done reached.calls c are v outs (ap (λ (x : BenchState). (served x c).1) (sym reached.is) ∙ is)

  abbrev last : JobMove
  last = done.last

  moves : moves_at b c ≡ done.earlier ++ last ∷ []
  moves = ap (λ (x : BenchState). moves_at x c) reached.is ∙ done.moves

  flow_is : flow_at b c ≡ flow_of_job last.job
  flow_is = ap (λ (ms : List JobMove). flow_of_last (last_or None ms)) moves ∙ ap flow_of_last (last_is done.earlier None last)

  ended : IsEnded b.setup last.job.segment last.held last.job.aim (last.job.answers ++ last.answer ∷ []) v outs.list
  ended = table.ends b.setup last.instance last.job.aim last.job.segment (last.job.answers ++ last.answer ∷ []) last.held v outs done.ends

  no_opening : IsGotten b.setup (caller c) last.job.aim last.job.segment last.job.answers → v ≡ verdict.Opened → ⊥
  no_opening got opens =
      let many = opening_many b.setup last.job.segment last.held last.job.aim (last.job.answers ++ last.answer ∷ []) v outs.list ended opens in
      let few = gets_few b.setup (caller c) last.job.segment got.held last.job.aim last.job.answers got.change got.ask got.asked got.gets many.0 in
      by (length last.job.answers) (length (last.job.answers ++ last.answer ∷ [])) few (length-append last.job.answers (last.answer ∷ [])) many.1
    where
      by : (n m : ℕ) → n ≤ 1 → m ≡ n + 1 → 3 ≤ m → ⊥
      by n m few more many = omega arith

  by_before : (w : World) (taken : Option Posted) (before : Option Flow) → Moves b.setup (caller c) before last
      → handled_sends w (flow_told b.setup before v outs.list) taken v outs.list ≡ handled_sends w (flow_of_job last.job) taken v outs.list
  by_before w taken (Some flow) (inl known) = ap (λ (f : Option Flow). handled_sends w f taken v outs.list) (sym known)
  by_before w taken (Some flow) (inr none) = absurd (none-some flow (sym none.0))
  by_before w taken None (inl none) =
      by_sent table b.setup b.shard laws (reached.calls ++ c ∷ []) are w taken last.job.segment _ last.job.aim (flow_of_job last.job) v outs.list done.sent (inl none)
  by_before w taken None (inr none) =
      by_sent table b.setup b.shard laws (reached.calls ++ c ∷ []) are w taken last.job.segment _ last.job.aim (flow_of_job last.job) v outs.list done.sent (inr (none.1, no_opening none.2))

  pub same_sends : (w : World) (taken : Option Posted)
      → handled_sends w (flow_told b.setup (flow_before b c) v outs.list) taken v outs.list ≡ handled_sends w (flow_at b c) taken v outs.list
  same_sends w taken =
      by_before w taken (flow_before b c)
      (all_last (Moves b.setup (caller c) (flow_before b c)) done.earlier last (subst (AllByRecursion (Moves b.setup (caller c) (flow_before b c))) moves (call_moves table b c)))
      ∙ ap (λ (f : Option Flow). handled_sends w f taken v outs.list) (sym flow_is)

  pub short_opening : v ≡ verdict.Opened → total outs.list ≤ 14600
  short_opening opens = ended_total b.setup last.job.segment last.held last.job.aim (last.job.answers ++ last.answer ∷ []) v outs.list ended opens

pub told : (table : TableLaws) (s : Shard) (c : Call) (r : Reply) → ((setup : SetupView) (shard : ℕ) → IsSetup setup → MoveLaws setup shard) → IsSetup s.bench.setup → IsReached s.bench.setup s.bench.shard s.bench
    → IsCall s.bench.setup s.bench.shard c → r ≡ (served s.bench c).1 → IsTold s c r
told table s c r laws good reached may is = record {
  is = is;
  sends = λ w index same. subst (λ (x : Reply). told_sends w (flow_before s.bench c) index r ≡ replied w (flow_at s.bench c) index x) is (sends w index same r is);
  opens = λ outs replied. short_opening table s.bench (laws s.bench.setup s.bench.shard good) reached c may verdict.Opened outs (sym is ∙ replied) refl;
}
  where
    sends : (w : World) (index : Option ℕ) → w.setup ≡ s.bench.setup → (x : Reply) → x ≡ (served s.bench c).1
        → told_sends w (flow_before s.bench c) index x ≡ replied w (flow_at s.bench c) index x
    sends w index same (reply.Done v outs) at =
        ap (λ (x : SetupView). handled_sends w (flow_told x (flow_before s.bench c) v outs.list) (option_and_then (slice_get w.sent) index) v outs.list) same
        ∙ same_sends table s.bench (laws s.bench.setup s.bench.shard good) reached c may v outs (sym at) w (option_and_then (slice_get w.sent) index)
    sends w index same reply.Going at = refl
    sends w index same reply.Idle at = refl
    sends w index same reply.Noted at = refl
