use Rattle.std.proofs.Common.{ℕ, [], ◌∷◌, subst}
use Rattle.std.specs.List.{AllByRecursion}
use Rattle.std.specs.Prelude.{map}
use Rattle.bench.specs.Fitting.{IsSent}
use Rattle.yoda_app.proofs.ScriptRead.{script_read}
use Rattle.yoda_app.proofs.SentFrom.{sent_from}
use Rattle.yoda_app.specs.RunCommand.{calls_on}
use Rattle.yoda_app.proofs.run_texts.threaded_texts.Goals as goal

pub texts_left-requires-clause-sent : goal.texts_left-requires-clause-sent
texts_left-requires-clause-sent g c =
    let inputs = c.args.inputs.now in
    let ran = c.in_ok-ran.ran in
    λ lives within. sent_from inputs c.known.ensures c.assignments.ensures ran.result.lines ran.result.outs (map (λ h. h.items) ran.histories.items) c.in_ok-ran.ensures.run
    (subst (λ (n : ℕ). AllByRecursion (IsSent n) ran.result.outs) c.requires.records c.in_ok-ran.ensures.sent)

pub returns-clause-run : goal.returns-clause-run
returns-clause-run g c =
    let inputs = c.args.inputs.now in
    let ran = c.in_ok-ran.ran in
    let lines = ran.result.lines in
    let outs = ran.result.outs in
    let histories = map (λ h. h.items) ran.histories.items in
    let run = c.in_ok-ran.ensures.run in
    record {
      lines = lines;
      outs = outs;
      histories = histories;
      run = run;
      are = λ i. c.in_ok-texts.ensures.out i ∷ c.in_ok-texts.ensures.report i ∷ c.in_ok-texts.ensures.journal i ∷ [];
      caused = c.verdicts_are_caused.ensures inputs c.known.ensures lines outs histories run;
      named = λ worker shard within below. c.calls_are_named.ensures inputs lines outs histories run worker shard [] within below;
      determined = λ rules script is others sent k other same.
          c.journal_determines.ensures inputs c.requires c.known.ensures script (script_read rules inputs.trace script inputs is) others lines sent outs k histories other run same;
      laws = λ shard. record {
        store = c.store_laws.ensures inputs.setup shard;
        jobs = c.job_laws.ensures inputs.setup shard c.known.ensures;
        moves = c.move_laws.ensures inputs.setup shard c.known.ensures;
        forwarding = c.forwarding_laws.ensures inputs.setup shard c.known.ensures;
      };
      headline = c.headline.ensures inputs.setup (calls_on histories) c.known.ensures;
    }
