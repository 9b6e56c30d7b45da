use Rattle.std.proofs.Common.{ℕ, sym, subst}
use Rattle.std.specs.Prelude.{codes}
use Rattle.shelf.specs.Changes.{change}
use Rattle.yoda_app.specs.Commands.{IsOutcome}
use Rattle.yoda_app.specs.RunCommand.{run_over, run_of}
use Rattle.yoda_app.specs.RunWords.{RunPaths, given_paths}
use Rattle.yoda_app.specs.Words.{texts}
use Rattle.yoda_app.proofs.Outcomes.{outcome_of}
use Rattle.yoda_app.proofs.RunNamed.{AreThreeOutputs, run_outputs, outside_three}
use Rattle.yoda_app.proofs.yoda_run.Goals as goal

pub run-done-requires-clause-report : goal.run-done-requires-clause-report
run-done-requires-clause-report g c κs within =
    let P : RunPaths → Type 0 = λ p. AreThreeOutputs p.plain.out p.plain.report p.journal in
    let own : P (given_paths c.in-Some.names) = subst P (sym c.in-Some.ensures.names) (run_outputs (texts c.args.words.now) (sym c.in-Some.ensures.is_run)) in
    own.differ

pub run-done-requires-clause-journal : goal.run-done-requires-clause-journal
run-done-requires-clause-journal g c κs within =
    let P : RunPaths → Type 0 = λ p. AreThreeOutputs p.plain.out p.plain.report p.journal in
    let own : P (given_paths c.in-Some.names) = subst P (sym c.in-Some.ensures.names) (run_outputs (texts c.args.words.now) (sym c.in-Some.ensures.is_run)) in
    own.journal

pub returns-in-Some-clause-outcome : goal.returns-in-Some-clause-outcome
returns-in-Some-clause-outcome g c _ =
    let n = c.in-Some.names in
    let s = change g.H.Shelf.content g.H.Shelf.faults g.H.Shelf.sure c.args.shelf.now c.finish.new.shelf in
    let P : RunPaths → Type 0 = λ p. AreThreeOutputs p.plain.out p.plain.report p.journal in
    let own : P (given_paths n) = subst P (sym c.in-Some.ensures.names) (run_outputs (texts c.args.words.now) (sym c.in-Some.ensures.is_run)) in
    let Q : RunPaths → Type 0 = λ p. IsOutcome (run_over p) s c.finish.result in
    let S : ℕ → Type 0 = λ status. IsOutcome (run_of n) s status in
    subst Q c.in-Some.ensures.names (subst S (sym c.finish.ensures.status)
    (outcome_of (run_of n) (g.H.Shelf.content c.run-done.new.shelf) (g.H.Shelf.faults c.run-done.new.shelf) s c.run-done.result (record {
      apart = (own.out, (own.report, (own.last, tt)));
      first = c.run-done.ensures.end;
      left = outside_three n.plain.out.now n.plain.report.now n.journal.now _ _ c.run-done.ensures.others;
      here = c.run-done.ensures.others (codes "!") (λ same. own.out (sym same)) (λ same. own.report (sym same)) (λ same. own.last (sym same));
      rising = c.run-done.ensures.counts;
      later = c.finish.ensures.counts;
      says = c.finish.ensures.says;
      silent = c.finish.ensures.silent;
      others = c.finish.ensures.others;
    })))
