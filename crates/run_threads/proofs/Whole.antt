-- The run, once what the workers made is put into one list.
use Rattle.std.proofs.Common.{◌≡◌, ℕ, ◌+◌, ◌<◌, ◌≤◌, List, [], length, map, IsTrue, sym, ◌∙◌, ap, subst, arith}
use Rattle.std.specs.Prelude.{slice_index_or}
use Rattle.seen_lock.specs.declared.object.Entry.{Entry}
use Rattle.bench.specs.Histories.{opening}
use Rattle.bench.specs.declared.call.Call.{Call}
use Rattle.bench.specs.declared.input.inputs.Inputs.{Inputs}
use Rattle.bench.specs.declared.input.line.Line.{Line}
use Rattle.pcap_file.specs.Frames.{capture_of}
use Rattle.rule_table.specs.Setups.{is_shard_count}
use Rattle.tcp_segment.specs.declared.segment.Segment.{Segment}
use Rattle.run_threads.specs.Answered.{answered}
use Rattle.run_threads.specs.Outcomes.{OutcomeView}
use Rattle.run_threads.specs.Run.{made_at, IsThreadRun, WorkerDone, AreDone, Shares, AreMade, AreOutcomes, IsMerged}
use Rattle.run_threads.proofs.Done.{element}
use Rattle.run_threads.proofs.Merged.{blocks_long, block_items, shares_of}

pub some_shards : (n : ℕ) → IsTrue (is_shard_count n) → 1 ≤ n
some_shards n is = grind arith

module _ (inputs : Inputs) (all : List (List (ℕ × OutcomeView))) (histories : List (List (Entry Call))) (same : inputs.frames ≡ (capture_of inputs.trace).frames) (some : 1 ≤ inputs.setup.shards) (done : AreDone inputs all histories) where
  shares : (w : ℕ) (made : List (ℕ × OutcomeView)) → (t : WorkerDone inputs w made histories) → Shares inputs w 0 inputs.frames t.outcomes
  shares w made t =
      let frames = (capture_of inputs.trace).frames in
      subst (λ fs. Shares inputs w 0 fs t.outcomes) (sym same)
      (shares_of inputs w 0 frames t.outcomes
      (blocks_long inputs w 0 frames t.outcomes 0 (answered (w + 1) (opening inputs.setup 0) (slice_index_or histories 0 [])) (t.blocks 0 [] (omega (arith, some))))
      (sym (ap (map (λ (m : ℕ × OutcomeView). m.0)) t.made_is) ∙ t.numbers_are))

  pub are_made : AreMade inputs inputs.frames all
  are_made = record {
    many = done.workers_many;
    each = λ w d within. let t = done.workers w d within in (t.outcomes, (t.made_is, shares w (made_at inputs all w d) t));
  }

  pub thread_run : (lines : List Line) (outs : List (ℕ × Segment)) → IsMerged inputs inputs.frames all lines outs → IsThreadRun inputs lines outs histories
  thread_run lines outs merged = record {
    outcomes = merged.outcomes;
    records = merged.count ∙ ap length same;
    line = merged.line;
    sent = merged.sent;
    shards = done.shards_many;
    items = λ w g h within below.
        let d = element all w (subst (λ k. w < k) (sym done.workers_many) within) in
        let t = done.workers w d within in
        let own = shares w (made_at inputs all w d) t in
        let are = merged.merged w d t.outcomes within (t.made_is, own) in
        let frames = (capture_of inputs.trace).frames in
        block_items inputs w 0 frames t.outcomes merged.outcomes g (answered (w + 1) (opening inputs.setup g) (slice_index_or histories g h)) (subst (λ fs. Shares inputs w 0 fs t.outcomes) same own)
        (subst (λ fs. AreOutcomes inputs w 0 fs t.outcomes merged.outcomes) same are) (t.blocks g h below);
    nobody_else = done.nobody_else;
    legal = done.legal;
  }
