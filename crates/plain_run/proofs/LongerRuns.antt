-- A run of inputs that go on begins with the run of the shorter ones.
use Rattle.std.proofs.Common.{◌≡◌, ℕ, zero, suc, ◌+◌, ◌<◌, ◌≤◌, Bool, true, false, cond, nat_lt, List, [], ◌∷◌, ◌++◌, map, length, take, drop, Option, Some, None, refl, sym, ◌∙◌, ap, arith, append-nil, append_assoc}
use Rattle.std.specs.Prelude.{slice_index_or, Result}
use Rattle.std.specs.List.{AllByRecursion}
use Rattle.std.proofs.lemmas.Grind.{common_steps}
use Rattle.std.proofs.lemmas.List.{length-map, map-append, take_at, take-append-drop}
use Rattle.std.proofs.lemmas.List.Elements.{filter-append}
use Rattle.bench.specs.Blocks.{CallAt}
use Rattle.bench.specs.Inputs.{IsInputs}
use Rattle.bench.specs.Incoming.{incoming}
use Rattle.bench.specs.Prepared.{prepared, prepared_of}
use Rattle.bench.specs.declared.input.inputs.Inputs.{Inputs}
use Rattle.bench.specs.declared.input.line.Line.{Line}
use Rattle.bench.specs.declared.input.prepared.Prepared.{Prepared}
use Rattle.bench.specs.declared.input.prepared.Prepared.TheVariants.{Ended, Work}
use Rattle.job_core.specs.declared.verdict.Verdict.{Verdict}
use Rattle.job_core.specs.declared.verdict.Verdict.TheVariants.{NoMemory, NotOurs}
use Rattle.pcap_file.specs.Frames.{capture_of}
use Rattle.pcap_file.specs.declared.capture.Frame.{Frame}
use Rattle.plain_run.specs.Cuts.{prepared_in, refused_in}
use Rattle.plain_run.specs.Fold.{Block, block_with, block_of, blocks, run, outs_of, IsRun}
use Rattle.plain_run.specs.Longer.{BeginsWith, GoesOn, LongerRun, LongerRuns, NoneRefused, lines_below, sent_below}
use Rattle.plain_run.proofs.LongerCaptures.{IsLonger, IsWithin, longer_capture, same_incoming}
use Rattle.plain_run.proofs.LongerScripts.{prepared_early, block_early}
use Rattle.rule_table.specs.Setups.{SetupView}
use Rattle.script_text.specs.declared.line.Line.{Line as ScriptLine}
use Rattle.tcp_segment.specs.declared.segment.Segment.{Segment}

abbrev lines_of : List Block → List Line
lines_of blocks = map (λ b. b.line) blocks

abbrev no_line : Line
no_line = record { instance = None; verdict = NoMemory 0 }

-- ---- a record's block is the same
module _ (told : Line) (earlier : List CallAt) (n : ℕ) where
  abbrev block_for : SetupView → List ScriptLine → Result Segment Verdict → Block
  block_for setup lines o = block_with setup lines (refused_in told.verdict) earlier n (prepared_in told.instance (prepared setup lines n o))

  early_block : (records : ℕ) → n < records → (setup : SetupView) (lines : List ScriptLine) (o : Result Segment Verdict)
      → block_for setup (lines_below records lines) o ≡ block_for setup lines o
  early_block records early setup lines o =
      ap (λ (work : Prepared). block_with setup (lines_below records lines) (refused_in told.verdict) earlier n (prepared_in told.instance work)) (prepared_early records n early setup lines o)
      ∙ block_early records n early setup lines (refused_in told.verdict) earlier (prepared_in told.instance (prepared setup lines n o))

  same_block : (shorter longer : Inputs) (later : List ℕ) (frame : Frame) → n < shorter.records → longer.trace ≡ shorter.trace ++ later → longer.setup ≡ shorter.setup
      → lines_below shorter.records longer.script.lines ≡ lines_below shorter.records shorter.script.lines → IsWithin shorter.trace frame
      → block_of longer told earlier n frame ≡ block_of shorter told earlier n frame
  same_block shorter longer later frame early trace setup script within =
      ap (λ (s : SetupView). block_for s longer.script.lines (incoming longer.trace frame)) setup
      ∙ ap (λ (bytes : List ℕ). block_for shorter.setup longer.script.lines (incoming bytes frame)) trace
      ∙ ap (block_for shorter.setup longer.script.lines) (same_incoming shorter.trace later frame within)
      ∙ sym (early_block shorter.records early shorter.setup longer.script.lines (incoming shorter.trace frame))
      ∙ ap (λ (lines : List ScriptLine). block_for shorter.setup lines (incoming shorter.trace frame)) script
      ∙ early_block shorter.records early shorter.setup shorter.script.lines (incoming shorter.trace frame)

-- ---- the blocks of some frames
length_blocks : (inputs : Inputs) (earlier : List CallAt) (n : ℕ) (frames : List Frame) (told : List Line) → length (blocks inputs earlier n frames told) ≡ length frames
length_blocks inputs earlier n [] told = refl
length_blocks inputs earlier n (frame ∷ frames) told =
    let block = block_of inputs (slice_index_or told 0 no_line) earlier n frame in
    ap (λ (k : ℕ). suc k) (length_blocks inputs (earlier ++ block.calls) (n + 1) frames (drop 1 told))

-- .. depend on as many lines
blocks_take : (inputs : Inputs) (earlier : List CallAt) (n : ℕ) (frames : List Frame) (told : List Line) → blocks inputs earlier n frames (take (length frames) told) ≡ blocks inputs earlier n frames told
blocks_take inputs earlier n [] told = refl
blocks_take inputs earlier n (frame ∷ frames) [] = refl
blocks_take inputs earlier n (frame ∷ frames) (line ∷ told) =
    let block = block_of inputs line earlier n frame in
    ap (λ (bs : List Block). block ∷ bs) (blocks_take inputs (earlier ++ block.calls) (n + 1) frames told)

-- the outs of two lists of blocks
outs_both : (n : ℕ) (xs ys : List Block) → outs_of n (xs ++ ys) ≡ outs_of n xs ++ outs_of (n + length xs) ys
outs_both n [] ys = ap (λ (k : ℕ). outs_of k ys) (let e : n ≡ n + 0 = omega arith in e)
outs_both n (block ∷ xs) ys =
    let own : List (ℕ × Segment) = map (λ out. (n, out)) block.outs in
    let number : n + 1 + length xs ≡ n + suc (length xs) = omega arith in
    ap (λ (outs : List (ℕ × Segment)). own ++ outs) (outs_both (n + 1) xs ys ∙ ap (λ (k : ℕ). outs_of (n + 1) xs ++ outs_of k ys) number)
    ∙ sym (append_assoc own (outs_of (n + 1) xs) (outs_of (n + suc (length xs)) ys))

module _ (records : ℕ) where
  below : (n : ℕ) → n < records → (rest : List (ℕ × Segment)) (outs : List Segment) → sent_below records (map (λ out. (n, out)) outs ++ rest) ≡ map (λ out. (n, out)) outs ++ sent_below records rest
  below n early rest [] = refl
  below n early rest (out ∷ outs) =
      let is : nat_lt n records ≡ true = grind (arith, common_steps) in
      let behind : List (ℕ × Segment) = sent_below records (map (λ o. (n, o)) outs ++ rest) in
      ap (λ (t : Bool). cond t ((n, out) ∷ behind) behind) is ∙ ap (λ (sent : List (ℕ × Segment)). (n, out) ∷ sent) (below n early rest outs)

  above : (n : ℕ) → records ≤ n → (rest : List (ℕ × Segment)) (outs : List Segment) → sent_below records (map (λ out. (n, out)) outs ++ rest) ≡ sent_below records rest
  above n late rest [] = refl
  above n late rest (out ∷ outs) =
      let is : nat_lt n records ≡ false = grind (arith, common_steps) in
      let behind : List (ℕ × Segment) = sent_below records (map (λ o. (n, o)) outs ++ rest) in
      ap (λ (t : Bool). cond t ((n, out) ∷ behind) behind) is ∙ above n late rest outs

  all_below : (n : ℕ) (xs : List Block) → n + length xs ≤ records → sent_below records (outs_of n xs) ≡ outs_of n xs
  all_below n [] within = refl
  all_below n (block ∷ xs) within =
      below n (omega arith) (outs_of (n + 1) xs) block.outs ∙ ap (λ (sent : List (ℕ × Segment)). map (λ out. (n, out)) block.outs ++ sent) (all_below (n + 1) xs (omega arith))

  none_below : (n : ℕ) (ys : List Block) → records ≤ n → sent_below records (outs_of n ys) ≡ []
  none_below n [] late = refl
  none_below n (block ∷ ys) late = above n late (outs_of (n + 1) ys) block.outs ∙ none_below (n + 1) ys (omega arith)

-- ---- the longer run's blocks begin with the shorter one's
module _ (shorter longer : Inputs) (more : List ℕ) (trace : longer.trace ≡ shorter.trace ++ more) (setup : longer.setup ≡ shorter.setup)
    (script : lines_below shorter.records longer.script.lines ≡ lines_below shorter.records shorter.script.lines) where
  -- what stands behind them
  rest_of : List Frame → List CallAt → ℕ → List Frame → List Line → List Block
  rest_of later earlier n [] told = blocks longer earlier n later told
  rest_of later earlier n (frame ∷ frames) told =
      rest_of later (earlier ++ (block_of shorter (slice_index_or told 0 no_line) earlier n frame).calls) (n + 1) frames (drop 1 told)

  front : (later : List Frame) (earlier : List CallAt) (n : ℕ) (frames : List Frame) (told : List Line) → n + length frames ≤ shorter.records → AllByRecursion (IsWithin shorter.trace) frames
      → blocks longer earlier n (frames ++ later) told ≡ blocks shorter earlier n frames told ++ rest_of later earlier n frames told
  unfolding rest_of
  front later earlier n [] told few within = refl
  front later earlier n (frame ∷ frames) told few within =
      let line : Line = slice_index_or told 0 no_line in
      let next : Block → List Block = λ b. b ∷ blocks longer (earlier ++ b.calls) (n + 1) (frames ++ later) (drop 1 told) in
      let block : Block = block_of shorter line earlier n frame in
      ap next (same_block line earlier n shorter longer more frame (omega arith) trace setup script within.0)
      ∙ ap (λ (bs : List Block). block ∷ bs) (front later (earlier ++ block.calls) (n + 1) frames (drop 1 told) (omega arith) within.1)

-- ---- a run in which memory was refused to no record is the only one
abbrev free_line : Line
free_line = record { instance = Some 0; verdict = NotOurs }

module _ (inputs : Inputs) where
  free_blocks : List CallAt → ℕ → List Frame → List Block
  free_blocks earlier n [] = []
  free_blocks earlier n (frame ∷ frames) =
      let block = block_of inputs free_line earlier n frame in
      block ∷ free_blocks (earlier ++ block.calls) (n + 1) frames

  module _ (earlier : List CallAt) (n : ℕ) where
    abbrev with_line : Option ℕ → Option ℕ → Prepared → Block
    with_line refused instance work = block_with inputs.setup inputs.script.lines refused earlier n (prepared_in instance work)

    free_with : (work : Prepared) (instance refused : Option ℕ) → refused ≡ None → refused_in (with_line refused instance work).line.verdict ≡ None
        → with_line refused instance work ≡ with_line None (Some 0) work
    free_with (Ended verdict) instance refused none kept = refl
    free_with (Work a segment handler shard) None refused none kept = absurd cc
    free_with (Work a segment handler shard) (Some i) refused none kept = ap (λ (r : Option ℕ). with_line r (Some 0) (Work a segment handler shard)) none

    free_block : (told : Line) (frame : Frame) → told ≡ (block_of inputs told earlier n frame).line → refused_in told.verdict ≡ None
        → block_of inputs told earlier n frame ≡ block_of inputs free_line earlier n frame
    free_block told frame own none =
        free_with (prepared_of inputs n frame) told.instance (refused_in told.verdict) none (ap (λ (l : Line). refused_in l.verdict) (sym own) ∙ none)

  free_run : (earlier : List CallAt) (n : ℕ) (frames : List Frame) (lines : List Line) → lines ≡ lines_of (blocks inputs earlier n frames lines) → NoneRefused lines
      → blocks inputs earlier n frames lines ≡ free_blocks earlier n frames
  unfolding free_blocks
  free_run earlier n [] lines own none = refl
  free_run earlier n (frame ∷ frames) [] own none = absurd cc
  free_run earlier n (frame ∷ frames) (line ∷ lines) own none =
      let block : Block = block_of inputs line earlier n frame in
      let first : line ≡ block.line = cc in
      let others : lines ≡ lines_of (blocks inputs (earlier ++ block.calls) (n + 1) frames lines) = cc in
      let same : block ≡ block_of inputs free_line earlier n frame = free_block earlier n line frame first none.0 in
      ap (λ (bs : List Block). block ∷ bs) (free_run (earlier ++ block.calls) (n + 1) frames lines others none.1)
      ∙ ap (λ (b : Block). b ∷ free_blocks (earlier ++ b.calls) (n + 1) frames) same

none_taken : (k : ℕ) (lines : List Line) → NoneRefused lines → NoneRefused (take k lines)
none_taken zero lines none = tt
none_taken (suc k) [] none = tt
none_taken (suc k) (line ∷ lines) none = (none.0, none_taken k lines none.1)

-- ---- together
module _ (shorter longer : Inputs) (are : IsInputs shorter) (goes : GoesOn shorter longer) (lines : List Line) (outs : List (ℕ × Segment)) (is : IsRun longer lines outs) where
  abbrev more : List ℕ
  more = drop (length shorter.trace) longer.trace

  abbrev frames : List Frame
  frames = (capture_of shorter.trace).frames

  trace_goes_on : longer.trace ≡ shorter.trace ++ more
  trace_goes_on = sym (ap (λ (bytes : List ℕ). bytes ++ more) goes.trace ∙ take-append-drop (length shorter.trace) longer.trace)

  capture : IsLonger shorter.trace more
  capture = longer_capture shorter.trace more are.whole

  abbrev first_blocks : List Block
  first_blocks = blocks shorter [] 0 frames lines

  abbrev later_blocks : List Block
  later_blocks = rest_of shorter longer more trace_goes_on goes.setup goes.script capture.later [] 0 frames lines

  all_blocks : run longer lines ≡ first_blocks ++ later_blocks
  all_blocks =
      ap (λ (bytes : List ℕ). blocks longer [] 0 (capture_of bytes).frames lines) trace_goes_on
      ∙ ap (λ (fs : List Frame). blocks longer [] 0 fs lines) capture.frames
      ∙ front shorter longer more trace_goes_on goes.setup goes.script capture.later [] 0 frames lines (omega (arith, are.records)) capture.within

  first_run : run shorter (take shorter.records lines) ≡ first_blocks
  first_run = ap (λ (k : ℕ). run shorter (take k lines)) are.records ∙ blocks_take shorter [] 0 frames lines

  first_lines : take shorter.records lines ≡ lines_of (run shorter (take shorter.records lines))
  first_lines =
      ap (take shorter.records) (is.line ∙ ap lines_of all_blocks ∙ map-append (λ b. b.line) first_blocks later_blocks)
      ∙ take_at (lines_of first_blocks) (lines_of later_blocks) shorter.records
      (length-map first_blocks (λ b. b.line) ∙ length_blocks shorter [] 0 frames lines ∙ sym are.records)
      ∙ ap lines_of (sym first_run)

  all_outs : outs ≡ outs_of 0 first_blocks ++ outs_of (0 + length first_blocks) later_blocks
  all_outs = is.sent ∙ ap (outs_of 0) all_blocks ∙ outs_both 0 first_blocks later_blocks

  own_outs : sent_below shorter.records outs ≡ outs_of 0 first_blocks
  own_outs =
      let count : length first_blocks ≡ shorter.records = length_blocks shorter [] 0 frames lines ∙ sym are.records in
      let own = all_below shorter.records 0 first_blocks (omega (arith, count)) in
      let none = none_below shorter.records (0 + length first_blocks) later_blocks (omega (arith, count)) in
      ap (sent_below shorter.records) all_outs
      ∙ filter-append (λ out. nat_lt out.0 shorter.records) (outs_of 0 first_blocks) (outs_of (0 + length first_blocks) later_blocks)
      ∙ (λ k. own k ++ none k) ∙ append-nil (outs_of 0 first_blocks)

  first_outs : sent_below shorter.records outs ≡ outs_of 0 (run shorter (take shorter.records lines))
  first_outs = own_outs ∙ ap (outs_of 0) (sym first_run)

  outs_begin : BeginsWith outs (sent_below shorter.records outs)
  outs_begin =
      let count : ℕ = length (sent_below shorter.records outs) in
      own_outs
      ∙ sym (take_at (outs_of 0 first_blocks) (outs_of (0 + length first_blocks) later_blocks) count (ap length (sym own_outs)))
      ∙ ap (take count) (sym all_outs)

  frames_begin : BeginsWith (capture_of longer.trace).frames frames
  frames_begin =
      let all : (capture_of longer.trace).frames ≡ frames ++ capture.later = ap (λ (bytes : List ℕ). (capture_of bytes).frames) trace_goes_on ∙ capture.frames in
      sym (take_at frames capture.later (length frames) refl) ∙ ap (take (length frames)) (sym all)

  only_run : (first : List Line) (sent : List (ℕ × Segment)) → IsRun shorter first sent → NoneRefused first → NoneRefused lines
      → (first ≡ take shorter.records lines) × (sent ≡ sent_below shorter.records outs)
  only_run first sent other none all_none =
      let taken : List Line = take shorter.records lines in
      let same_run : run shorter first ≡ run shorter taken =
      free_run shorter [] 0 frames first other.line none ∙ sym (free_run shorter [] 0 frames taken first_lines (none_taken shorter.records lines all_none)) in
      (other.line ∙ ap lines_of same_run ∙ sym first_lines, other.sent ∙ ap (outs_of 0) same_run ∙ sym first_outs)

  longer_run : LongerRun shorter longer lines outs
  longer_run = record {
    run = record { line = first_lines; sent = first_outs };
    sent = outs_begin;
    frames = frames_begin;
    only = only_run;
  }

pub all_longer_runs : LongerRuns
all_longer_runs shorter longer are goes lines outs is = longer_run shorter longer are goes lines outs is
