-- Each record of a run is told of by the worker whose it is, with what is answered on the record's shard.
use Rattle.std.proofs.Common.{◌≡◌, ℕ, ◌+◌, ◌<◌, Option, Some, None, Result, Ok, Err, List, [], ◌∷◌, ◌++◌, length, if◌then◌else◌, eq-eqb, refl, subst, arith}
use Rattle.std.specs.Prelude.{slice_index_or}
use Rattle.std.specs.List.{AllByRecursion, filter}
use Rattle.std.proofs.Math.Nat.{mod-lt}
use Rattle.seen_lock.specs.declared.object.Entry.{Entry}
use Rattle.bench.specs.Blocks.{crash_after}
use Rattle.bench.specs.Histories.{opening}
use Rattle.bench.specs.Incoming.{incoming}
use Rattle.bench.specs.Prepared.{work_of, prepared_by, prepared, prepared_of}
use Rattle.bench.specs.declared.call.Call.{Call}
use Rattle.bench.specs.declared.call.Call.TheVariants.{Take, Step, Crash, Fail}
use Rattle.bench.specs.declared.input.inputs.Inputs.{Inputs}
use Rattle.bench.specs.declared.input.line.Line.{Line}
use Rattle.bench.specs.declared.input.prepared.Prepared.{Prepared}
use Rattle.bench.specs.declared.input.prepared.Prepared.TheVariants.{Ended, Work}
use Rattle.job_core.specs.Aims.{aimed}
use Rattle.job_core.specs.declared.aim.Aim.{Aim}
use Rattle.job_core.specs.declared.aim.Aim.TheVariants as aim
use Rattle.job_core.specs.declared.verdict.Verdict.{Verdict}
use Rattle.pcap_file.specs.Frames.{capture_of}
use Rattle.pcap_file.specs.declared.capture.Frame.{Frame}
use Rattle.rule_table.specs.Setups.{IsSetup}
use Rattle.script_text.specs.Laws.{AssignedIsLiving}
use Rattle.tcp_segment.specs.declared.segment.Segment.{Segment}
use Rattle.run_threads.specs.Answered.{Answer, answered}
use Rattle.run_threads.specs.Due.{is_due}
use Rattle.run_threads.specs.Items.{IsOwn, IsDone, owner}
use Rattle.run_threads.specs.Laws.{IsNamed}
use Rattle.bench.specs.Fitting.{IsTableReply}
use Rattle.run_threads.specs.Run.{told_by, IsThreadRun}
use Rattle.run_threads.specs.Work.{AreItems}
use Rattle.run_threads.specs.Outcomes.{OutcomeView}
use Rattle.run_threads.proofs.Determined.{IsMade, run_made}
use Rattle.run_threads.proofs.Owners.{owner_there}
use Rattle.run_threads.proofs.ShortReplies.{IsShortCall, answers_short, opening_short}
use Rattle.run_threads.proofs.Whole.{some_shards}

abbrev pub AreTableReplies : List Answer → Type 0
AreTableReplies answers = AllByRecursion (λ (a : Answer). IsTableReply a.1) answers

-- the first and the later ones of these
pub split : (all first later : List Answer) → all ≡ first ++ later → AreTableReplies all → AreTableReplies first × AreTableReplies later
split all first later is table = apart first (subst AreTableReplies is table)
  where
    apart : (xs : List Answer) → AreTableReplies (xs ++ later) → AreTableReplies xs × AreTableReplies later
    apart [] table = (tt, table)
    apart (x ∷ xs) table = let rest = apart xs table.1 in ((table.0, rest.0), rest.1)

-- ---- what a worker tells on a shard
module _ (inputs : Inputs) (w g : ℕ) where
  -- after how many steps the worker's instance crashes in the record, if it does
  abbrev pub crash_in : ℕ → Option ℕ
  crash_in n = crash_after (filter (is_due n) inputs.script.lines) w n

  -- this is told of the record, by these answers on the shard
  pub record IsToldOn (n : ℕ) (frame : Frame) (o : OutcomeView) : Type 0 where
    pub answers : List Answer
    pub table : AreTableReplies answers
    pub own : IsOwn inputs.setup w n (prepared_of inputs n frame) (crash_in n) o g answers

  abbrev IsToldIf : ℕ → Frame → Option OutcomeView → Type 0
  IsToldIf n frame None = Unit {0}
  IsToldIf n frame (Some o) = IsToldOn n frame o

  abbrev AreToldOn : ℕ → List Frame → List (Option OutcomeView) → Type 0
  AreToldOn n (frame ∷ frames) (o ∷ outcomes) = IsToldIf n frame o × AreToldOn (n + 1) frames outcomes
  AreToldOn n _ _ = Unit {0}

  told_if : (n : ℕ) (frame : Frame) (o : Option OutcomeView) (answers : List Answer) → IsDone inputs w n (filter (is_due n) inputs.script.lines) frame o g answers → AreTableReplies answers → IsToldIf n frame o
  told_if n frame None answers is table = tt
  told_if n frame (Some o) answers is table = record { answers = answers; table = table; own = is.1 }

  items_told : (n : ℕ) (frames : List Frame) (outcomes : List (Option OutcomeView)) (answers : List Answer) → AreItems inputs w n frames outcomes g answers → AreTableReplies answers → AreToldOn n frames outcomes
  items_told n [] [] answers are table = tt
  items_told n [] (o ∷ outcomes) answers are table = tt
  items_told n (f ∷ frames) [] answers are table = tt
  items_told n (f ∷ frames) (o ∷ outcomes) answers are table =
      let parts = split answers are.0 are.1 are.2 table in
      let own = split are.0 are.3.failed are.3.then_made are.3.are parts.0 in
      (told_if n f o are.3.then_made are.3.done own.1, items_told (n + 1) frames outcomes are.1 are.4 parts.1)

-- ---- the shard of a record
abbrev pub shard_for : Prepared → ℕ
shard_for (Ended v) = 0
shard_for (Work a segment i own) = own

module _ (inputs : Inputs) (sized : IsSetup inputs.setup) (law : AssignedIsLiving) where
  some : 0 < inputs.setup.shards
  some = let one = some_shards inputs.setup.shards sized.shards in omega (arith, one)

  work_there : (a : Aim) (s : Segment) (shard : ℕ) (o : Option ℕ) → shard < inputs.setup.shards → shard_for (work_of a s shard o) < inputs.setup.shards
  work_there a s shard None within = some
  work_there a s shard (Some i) within = within

  aimed_there : (item : ℕ) (s : Segment) (a : Aim) → shard_for (prepared_by inputs.setup inputs.script.lines item s a) < inputs.setup.shards
  aimed_there item s (aim.Client flow) = work_there (aim.Client flow) s _ _ (mod-lt (flow.address + flow.port) some)
  aimed_there item s (aim.Server server port) = work_there (aim.Server server port) s _ _ (mod-lt port some)
  aimed_there item s (aim.Odd flags) = some
  aimed_there item s aim.NotOurs = some

  shard_there : (item : ℕ) (r : Result Segment Verdict) → shard_for (prepared inputs.setup inputs.script.lines item r) < inputs.setup.shards
  shard_there item (Ok s) = aimed_there item s (aimed inputs.setup s.source s.target s.head)
  shard_there item (Err verdict) = some

  -- ---- all records
  -- its owner tells it, on the record's shard
  abbrev pub IsToldOf : ℕ → Frame → OutcomeView → Type 0
  IsToldOf n frame o = IsToldOn inputs (owner inputs n frame) (shard_for (prepared_of inputs n frame)) n frame o

  abbrev pub EachTold : ℕ → List Frame → List OutcomeView → Type 0
  EachTold n [] [] = Unit {0}
  EachTold n (frame ∷ frames) (o ∷ outcomes) = IsToldOf n frame o × EachTold (n + 1) frames outcomes
  EachTold n _ _ = ⊥

  abbrev AllTell : ℕ → List Frame → List OutcomeView → Type 0
  AllTell n frames outcomes = (w g : ℕ) → w < inputs.setup.instances → g < inputs.setup.shards → AreToldOn inputs w g n frames (told_by inputs w n frames outcomes)

  first_told : (n : ℕ) (frame : Frame) (frames : List Frame) (o : OutcomeView) (outcomes : List OutcomeView) → AllTell n (frame ∷ frames) (o ∷ outcomes) → IsToldOf n frame o
  first_told n frame frames o outcomes all =
      let w = owner inputs n frame in
      let g = shard_for (prepared_of inputs n frame) in
      subst (λ t. IsToldIf inputs w g n frame (if t then Some o else None)) (eq-eqb w w refl) (all w g (owner_there law inputs sized n frame) (shard_there n (incoming inputs.trace frame))).0

  each_told : (n : ℕ) (frames : List Frame) (outcomes : List OutcomeView) → length outcomes ≡ length frames → AllTell n frames outcomes → EachTold n frames outcomes
  each_told n [] [] same all = tt
  each_told n [] (o ∷ outcomes) same all = absurd (omega (arith, same))
  each_told n (f ∷ frames) [] same all = absurd (omega (arith, same))
  each_told n (f ∷ frames) (o ∷ outcomes) same all =
      (first_told n f frames o outcomes all, each_told (n + 1) frames outcomes (omega (arith, same)) (λ w g within below. (all w g within below).1))

  -- ---- a run
  call_short : (w g : ℕ) (c : Call) → IsNamed inputs w g c → IsShortCall c
  call_short w g (Take i n a s) named = named.short
  call_short w g (Step i) named = tt
  call_short w g (Crash i) named = tt
  call_short w g (Fail p) named = tt

  calls_short : (g : ℕ) (h : List (Entry Call)) → AllByRecursion (IsMade inputs g) h → AllByRecursion (λ (e : Entry Call). IsShortCall e.call) h
  calls_short g [] made = tt
  calls_short g (e ∷ h) made = (call_short made.0.worker g e.call made.0.named, calls_short g h made.1)

  pub run_told : (lines : List Line) (outs : List (ℕ × Segment)) (h : List (List (Entry Call))) → (run : IsThreadRun inputs lines outs h) → EachTold 0 (capture_of inputs.trace).frames run.outcomes
  run_told lines outs h run =
      let frames = (capture_of inputs.trace).frames in
      each_told 0 frames run.outcomes run.records
      (λ w g within below. items_told inputs w g 0 frames (told_by inputs w 0 frames run.outcomes) (answered (w + 1) (opening inputs.setup g) (slice_index_or h g []))
      (run.items w g [] within below)
      (answers_short (w + 1) (opening inputs.setup g) (slice_index_or h g []) (opening_short inputs.setup g) (calls_short g (slice_index_or h g []) (run_made inputs lines outs h run g [] below))))
