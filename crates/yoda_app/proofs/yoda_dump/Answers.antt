use Rattle.std.proofs.Common.{ℕ, List, sym, subst}
use Rattle.std.specs.Prelude.{codes}
use Rattle.shelf.specs.Changes.{change}
use Rattle.yoda_app.specs.Commands.{IsOutcome}
use Rattle.yoda_app.specs.DumpCommand.{dump_over}
use Rattle.yoda_app.proofs.Outcomes.{outcome_of, outside_one, not_output}
use Rattle.yoda_app.proofs.yoda_dump.Goals as goal

pub returns-in-Some-clause-outcome : goal.returns-in-Some-clause-outcome
returns-in-Some-clause-outcome g c _ =
    let s = change g.H.Shelf.content g.H.Shelf.faults g.H.Shelf.sure c.args.shelf.now c.finish.new.shelf in
    let Q : List ℕ → Type 0 = λ n. IsOutcome (dump_over n) s c.finish.result in
    let S : ℕ → Type 0 = λ status. IsOutcome (dump_over c.in-Some.trace.now) s status in
    subst Q c.in-Some.ensures.trace (subst S (sym c.finish.ensures.status)
    (outcome_of (dump_over c.in-Some.trace.now) (g.H.Shelf.content c.dump-dumped.new.shelf) (g.H.Shelf.faults c.dump-dumped.new.shelf) s c.dump-dumped.result (record {
      apart = (λ same. not_output (sym same), tt);
      first = c.dump-dumped.ensures.end;
      left = outside_one (codes "-") _ _ c.dump-dumped.ensures.others;
      here = c.dump-dumped.ensures.others (codes "!") not_output;
      rising = c.dump-dumped.ensures.counts;
      later = c.finish.ensures.counts;
      says = c.finish.ensures.says;
      silent = c.finish.ensures.silent;
      others = c.finish.ensures.others;
    })))
