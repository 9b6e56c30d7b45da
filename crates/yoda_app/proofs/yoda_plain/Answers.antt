use Rattle.std.proofs.Common.{ℕ, sym, subst}
use Rattle.std.specs.Prelude.{codes}
use Rattle.shelf.specs.Changes.{change}
use Rattle.yoda_app.specs.Commands.{IsOutcome}
use Rattle.yoda_app.specs.Plain.{Paths, paths, plain_over, plain_of}
use Rattle.yoda_app.specs.Words.{texts}
use Rattle.yoda_app.proofs.Named.{AreOutputs, plain_outputs}
use Rattle.yoda_app.proofs.Outcomes.{outcome_of, outside_two}
use Rattle.yoda_app.proofs.yoda_plain.Goals as goal

pub plain-done-requires : goal.plain-done-requires
plain-done-requires g c =
    let P : Paths → Type 0 = λ p. AreOutputs p.out p.report in
    let own : P (paths c.in-Some.names) = subst P (sym c.in-Some.ensures.names) (plain_outputs (texts c.args.words.now) (sym c.in-Some.ensures.is_plain)) in
    own.differ

pub returns-in-Some-clause-outcome : goal.returns-in-Some-clause-outcome
returns-in-Some-clause-outcome g c _ =
    let n = c.in-Some.names in
    let s = change g.H.Shelf.content g.H.Shelf.faults g.H.Shelf.sure c.args.shelf.now c.finish.new.shelf in
    let P : Paths → Type 0 = λ p. AreOutputs p.out p.report in
    let own : P (paths n) = subst P (sym c.in-Some.ensures.names) (plain_outputs (texts c.args.words.now) (sym c.in-Some.ensures.is_plain)) in
    let Q : Paths → Type 0 = λ p. IsOutcome (plain_over p) s c.finish.result in
    let S : ℕ → Type 0 = λ status. IsOutcome (plain_of n) s status in
    subst Q c.in-Some.ensures.names (subst S (sym c.finish.ensures.status)
    (outcome_of (plain_of n) (g.H.Shelf.content c.plain-done.new.shelf) (g.H.Shelf.faults c.plain-done.new.shelf) s c.plain-done.result (record {
      apart = (own.out, (own.report, tt));
      first = c.plain-done.ensures.end;
      left = outside_two n.out.now n.report.now _ _ c.plain-done.ensures.others;
      here = c.plain-done.ensures.others (codes "!") (λ same. own.out (sym same)) (λ same. own.report (sym same));
      rising = c.plain-done.ensures.counts;
      later = c.finish.ensures.counts;
      says = c.finish.ensures.says;
      silent = c.finish.ensures.silent;
      others = c.finish.ensures.others;
    })))
