use Rattle.std.proofs.Common.{◌≡◌, ◌<◌, length, ◌∙◌, subst}
use Rattle.std.specs.List.{filter}
use Rattle.std.proofs.lemmas.Result.{on_ok_weaker}
use Rattle.run_threads.specs.Due.{is_due}
use Rattle.run_threads.proofs.Served.{all_records, same_place, serves_one}
use Rattle.run_threads.proofs.serving.serve_record.Goals as goal

pub returns-clause-goes_on : goal.returns-clause-goes_on
returns-clause-goes_on g c =
    let inputs = c.args.inputs.now in
    let item = c.args.item in
    let within : item < length inputs.frames = subst (λ n. item < n) (all_records inputs c.requires.inputs) c.requires.item in
    let lines_are : c.at.result.now ≡ filter (is_due item) inputs.script.lines = c.at.ensures ∙ c.requires.due item c.requires.item in
    on_ok_weaker c.add_made.result
    (serves_one inputs c.args.worker c.args.locks.now item _ c.at.result.now c.in_ok-outcome.outcome c.args.taken c.args.seats.now c.do_block.new.seats c.args.made.now c.add_made.new.made
    within (same_place c.as_slice.result.now inputs.frames item _ _ c.as_slice.ensures within) lines_are c.in_ok-outcome.ensures.done c.in_ok-outcome.ensures.told)
    c.add_made.ensures
