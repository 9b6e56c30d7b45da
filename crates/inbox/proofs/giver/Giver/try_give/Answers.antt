use Rattle.std.proofs.Common.{sym, ap, subst, ◌∙◌}
use Rattle.std.specs.Arc.{arc_value}
use Rattle.atomic_table.specs.Seated.{TableId}
use Rattle.inbox.specs.Inboxes.{IsGiven}
use Rattle.inbox.specs.Rule.{known_by, giver_view}
use Rattle.inbox.proofs.ItemLemmas.{some-same}
use Rattle.inbox.proofs.Steps.{gives, given_by_then}
use Rattle.inbox.proofs.Views.{gave_item, gave_nothing, given_same, was_full}
use Rattle.inbox.proofs.giver.Giver.try_give.Goals.{in-Ok, in-Err-Some}
use Rattle.inbox.proofs.giver.Giver.try_give.Goals as goal

pub push_as-requires-clause-rule : goal.push_as-requires-clause-rule
push_as-requires-clause-rule g c = (gives _ _ _ _ c.self.invariant.1, given_by_then _ _ c.self.invariant.1)

pub returns-clause-given : goal.returns-clause-given
returns-clause-given g c =
    let old = c.args.self.now in
    let inbox = c.self.inside.pass.table_id in
    let inbox' = c.push_as.new.pass.table_id in
    let before = known_by c.self.inside.pass in
    let after = known_by c.push_as.new.pass in
    let queue = arc_value c.self.inside.queue in
    elim c.match-push_as.branch [
      | in-Ok w ↦ subst (IsGiven old (giver_view inbox' after) c.args.item) (sym w.result-is) (gave_item old inbox inbox' before after c.args.item c.self.view_is w.in-Ok.ensures.queue.0 w.in-Ok.ensures.rule c.requires)
      | in-Err-Some w ↦
          let room = ap (λ q. q.cap) c.deref.ensures ∙ sym queue.sized.1 ∙ sym (ap (λ (i : TableId). i.slots) c.self.invariant.0.0) in
          let back = some-same w.in-Err-Some.item c.args.item (sym w.in-Err-Some.field-0-is ∙ w.in-Err-Some.ensures.rule.0) in
          subst (IsGiven old (giver_view inbox' after) c.args.item) (sym w.result-is)
          (back, gave_nothing old inbox inbox' before after c.self.view_is w.in-Err-Some.ensures.queue.0 w.in-Err-Some.ensures.rule.1, was_full old inbox before _ c.self.view_is c.requires room w.in-Err-Some.ensures.rule.2)
    ]

pub returns-clause-same : goal.returns-clause-same
returns-clause-same g c = given_same _ _ _ _ c.requires (returns-clause-given g c)
