use Rattle.std.proofs.Common.{Option, sym, ap, subst, ◌∙◌}
use Rattle.inbox.specs.Inboxes.{TakerView}
use Rattle.inbox.specs.Rule.{HasTaken, known_by, has_end}
use Rattle.inbox.proofs.ItemLemmas.{endless-snoc, ended-snoc}
use Rattle.inbox.proofs.Steps.{takes, taken_by_then}
use Rattle.inbox.proofs.Views.{took_item, took_end, took_again, took_nothing, was_empty}
use Rattle.inbox.proofs.taker.Taker.try_take.Goals as goal

pub pop_as-requires-clause-rule : goal.pop_as-requires-clause-rule
pop_as-requires-clause-rule g c = (takes _ _ c.self.invariant.1, taken_by_then _ _ c.self.invariant.1)

pub returns-then-self-clause-took : goal.returns-then-self-clause-took
returns-then-self-clause-took g c = took_again c.args.self.now c.self.inside.pass.table_id (known_by c.self.inside.pass) c.self.inside.ended c.self.view_is c.self.invariant.3 c.if-self.true

pub invariant_of-self : goal.invariant_of-self
invariant_of-self g c =
    let before = known_by c.self.inside.pass in
    let told = c.in-Some-Some.ensures in
    let took = subst (λ (x : Option g.row.T.Denot). HasTaken before x (known_by c.pop_as.new.pass)) c.in-Some-Some.field-0-is told.rule in
    let endless = c.self.invariant.2 ∙ c.if-self.false in (
      (told.queue.0 ∙ c.self.invariant.0.0, told.queue.2 ∙ c.self.invariant.0.1),
      took.takes ∙ c.self.invariant.1,
      ap has_end took.taken ∙ endless-snoc before.taken c.in-Some-Some.item endless ∙ sym c.if-self.false,
      took.order,
    )

pub invariant_of-self-in-Some-None : goal.invariant_of-self-in-Some-None
invariant_of-self-in-Some-None g c =
    let before = known_by c.self.inside.pass in
    let told = c.in-Some-None.ensures in
    let took = subst (λ (x : Option g.row.T.Denot). HasTaken before x (known_by c.pop_as.new.pass)) c.in-Some-None.field-0-is told.rule in (
      (told.queue.0 ∙ c.self.invariant.0.0, told.queue.2 ∙ c.self.invariant.0.1),
      took.takes ∙ c.self.invariant.1,
      ap has_end took.taken ∙ ended-snoc before.taken,
      took.order,
    )

pub returns-in-Some-Some-clause-took : goal.returns-in-Some-Some-clause-took
returns-in-Some-Some-clause-took g c =
    let before = known_by c.self.inside.pass in
    let after = known_by c.pop_as.new.pass in
    let told = c.in-Some-Some.ensures in
    let took = subst (λ (x : Option g.row.T.Denot). HasTaken before x after) c.in-Some-Some.field-0-is told.rule in
    let endless = c.self.invariant.2 ∙ c.if-self.false in (
      sym (ap (λ (t : TakerView g.row.T.Denot). t.ended) c.self.view_is) ∙ c.if-self.false,
      took_item c.args.self.now c.self.inside.pass.table_id c.pop_as.new.pass.table_id before after c.self.inside.ended c.in-Some-Some.item c.self.view_is told.queue.0 took endless c.if-self.false,
    )

pub returns-in-Some-None-clause-took : goal.returns-in-Some-None-clause-took
returns-in-Some-None-clause-took g c =
    let before = known_by c.self.inside.pass in
    let after = known_by c.pop_as.new.pass in
    let told = c.in-Some-None.ensures in
    let took = subst (λ (x : Option g.row.T.Denot). HasTaken before x after) c.in-Some-None.field-0-is told.rule in
    took_end c.args.self.now c.self.inside.pass.table_id c.pop_as.new.pass.table_id before after c.self.inside.ended c.self.view_is told.queue.0 took

pub returns-in-None-clause-took : goal.returns-in-None-clause-took
returns-in-None-clause-took g c =
    let before = known_by c.self.inside.pass in
    let told = c.in-None.ensures in (
      sym (ap (λ (t : TakerView g.row.T.Denot). t.ended) c.self.view_is) ∙ c.if-self.false,
      took_nothing c.args.self.now c.self.inside.pass.table_id c.pop_as.new.pass.table_id before (known_by c.pop_as.new.pass) c.self.inside.ended c.self.view_is told.queue.0 told.rule.0,
      was_empty c.args.self.now c.self.inside.pass.table_id before c.self.inside.ended c.self.view_is told.rule.1,
    )
