use Rattle.std.proofs.Common.{List, length, map, ◌∙◌, sym, ap, arith}
use Rattle.seen_lock.specs.declared.object.Entry.{Entry}
use Rattle.bench.specs.declared.call.Call.{Call}
use Rattle.run_threads.proofs.Sending.{sent_fits, lines_many}
use Rattle.run_threads.proofs.Whole.{some_shards, are_made, thread_run}
use Rattle.run_threads.proofs.run.run_all.Goals as goal

pub merge-requires-clause-made : goal.merge-requires-clause-made
merge-requires-clause-made g c =
    let inputs = c.args.inputs.now in
    let histories : List (List (Entry Call)) = map (λ h. h.items) c.in_ok-all.histories.items in
    are_made inputs c.in_ok-all.all.items histories c.requires.frames (some_shards inputs.setup.shards c.known-2.ensures.shards) c.in_ok-all.ensures

pub returns-clause-run : goal.returns-clause-run
returns-clause-run g c =
    let inputs = c.args.inputs.now in
    let histories : List (List (Entry Call)) = map (λ h. h.items) c.in_ok-all.histories.items in
    thread_run inputs c.in_ok-all.all.items histories c.requires.frames (some_shards inputs.setup.shards c.known-2.ensures.shards) c.in_ok-all.ensures
    c.in_ok-result.result.lines c.in_ok-result.result.outs c.in_ok-result.ensures.merged

pub returns-clause-sent : goal.returns-clause-sent
returns-clause-sent g c =
    sent_fits c.args.inputs.now c.requires c.known-2.ensures c.assignments.ensures c.in_ok-result.result.lines c.in_ok-result.result.outs (map (λ h. h.items) c.in_ok-all.histories.items) (returns-clause-run g c)

pub returns-clause-lines : goal.returns-clause-lines
returns-clause-lines g c =
    lines_many c.args.inputs.now c.requires c.known-2.ensures c.assignments.ensures c.in_ok-result.result.lines c.in_ok-result.result.outs (map (λ h. h.items) c.in_ok-all.histories.items) (returns-clause-run g c)

pub returns-clause-few : goal.returns-clause-few
returns-clause-few g c =
    let few = c.in_ok-result.ensures.few in
    let same = ap length c.requires.frames ∙ sym c.requires.records in omega (arith, few, same)
