use Rattle.std.proofs.Common.{ℕ, sym, subst}
use Rattle.std.specs.Prelude.{codes}
use Rattle.shelf.specs.Changes.{change}
use Rattle.yoda_app.specs.Commands.{IsOutcome}
use Rattle.yoda_app.specs.DriveCommand.{drive_over}
use Rattle.yoda_app.specs.declared.drive_words.DriveNumbers.{DriveNumbers}
use Rattle.yoda_app.proofs.Outcomes.{outcome_of, outside_one, not_output}
use Rattle.yoda_app.proofs.yoda_drive.Goals as goal

pub returns-in-Some-clause-outcome : goal.returns-in-Some-clause-outcome
returns-in-Some-clause-outcome g c _ =
    let s = change g.H.Shelf.content g.H.Shelf.faults g.H.Shelf.sure c.args.shelf.now c.finish.new.shelf in
    let Q : DriveNumbers → Type 0 = λ n. IsOutcome (drive_over n) s c.finish.result in
    let S : ℕ → Type 0 = λ status. IsOutcome (drive_over c.in-Some.numbers) s status in
    subst Q c.in-Some.ensures.numbers (subst S (sym c.finish.ensures.status)
    (outcome_of (drive_over c.in-Some.numbers) (g.H.Shelf.content c.drive-driven.new.shelf) (g.H.Shelf.faults c.drive-driven.new.shelf) s c.drive-driven.result (record {
      apart = (λ same. not_output (sym same), tt);
      first = c.drive-driven.ensures.end;
      left = outside_one (codes "-") _ _ c.drive-driven.ensures.others;
      here = c.drive-driven.ensures.others (codes "!") not_output;
      rising = c.drive-driven.ensures.counts;
      later = c.finish.ensures.counts;
      says = c.finish.ensures.says;
      silent = c.finish.ensures.silent;
      others = c.finish.ensures.others;
    })))
