use Rattle.std.proofs.Common.{refl, subst}
use Rattle.script_text.specs.Index.{MayStand}
use Rattle.script_text.proofs.IndexLemmas.{on_ok_both, index-give, index-fail, index-crash, index-back}
use Rattle.script_text.proofs.index.Index.add.Goals as goal

pub returns-in_ok-insert-in-Give-clause-added : goal.returns-in_ok-insert-in-Give-clause-added
returns-in_ok-insert-in-Give-clause-added c = λ lines is may.
    rw c.in-Give.is (index-give lines c.args.self.now _ c.in-Give.item c.in-Give.instance
    c.in_ok-insert-in-Give.ensures.updates.1 c.in_ok-insert-in-Give.ensures.updates.2 refl refl is
    (subst (MayStand lines) c.in-Give.is may))

pub returns-in_ok-insert-in-Fail-clause-added : goal.returns-in_ok-insert-in-Fail-clause-added
returns-in_ok-insert-in-Fail-clause-added c = λ lines is may.
    rw c.in-Fail.is (index-fail lines c.args.self.now _ c.in-Fail.replica c.in-Fail.item
    c.in_ok-insert-in-Fail.ensures.updates.1 c.in_ok-insert-in-Fail.ensures.updates.2 refl refl is)

pub returns-in-Crash-clause-added : goal.returns-in-Crash-clause-added
returns-in-Crash-clause-added c =
    on_ok_both c.add.result (λ here others lines is may.
    rw c.in-Crash.is (index-crash lines c.args.self.now _ c.in-Crash.instance c.in-Crash.item c.in-Crash.after here others refl refl is
    (subst (MayStand lines) c.in-Crash.is may)))
    c.add.ensures.added c.add.ensures.others

pub returns-in-Back-clause-added : goal.returns-in-Back-clause-added
returns-in-Back-clause-added c =
    on_ok_both c.add-in-Back.result (λ here others lines is may.
    rw c.in-Back.is (index-back lines c.args.self.now _ c.in-Back.instance c.in-Back.item here others refl refl is
    (subst (MayStand lines) c.in-Back.is may)))
    c.add-in-Back.ensures.added c.add-in-Back.ensures.others
