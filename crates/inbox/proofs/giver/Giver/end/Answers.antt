use Rattle.std.proofs.Common.{sym, ap, subst, ◌∙◌}
use Rattle.std.specs.Arc.{arc_value}
use Rattle.atomic_table.specs.Seated.{TableId}
use Rattle.inbox.specs.Inboxes.{IsEndGiven}
use Rattle.inbox.specs.Rule.{known_by, giver_view}
use Rattle.inbox.proofs.Steps.{gives, given_by_then}
use Rattle.inbox.proofs.Views.{gave_end, gave_nothing, was_full}
use Rattle.inbox.proofs.giver.Giver.end.Goals.{in-Ok, in-Err}
use Rattle.inbox.proofs.giver.Giver.end.Goals as goal

pub push_as-requires-clause-rule : goal.push_as-requires-clause-rule
push_as-requires-clause-rule g c = (gives _ _ _ _ c.self.invariant.1, given_by_then _ _ c.self.invariant.1)

pub returns-clause-given : goal.returns-clause-given
returns-clause-given g c =
    let old = c.args.self.now in
    let inbox = c.self.inside.pass.table_id in
    let inbox' = c.push_as.new.pass.table_id in
    let before = known_by c.self.inside.pass in
    let after = known_by c.push_as.new.pass in
    let queue = arc_value c.self.inside.queue in
    elim c.match-push_as.branch [
      | in-Ok w ↦ subst (IsEndGiven old (giver_view inbox' after)) (sym w.result-is) (gave_end old inbox inbox' before after c.self.view_is w.in-Ok.ensures.queue.0 w.in-Ok.ensures.rule)
      | in-Err w ↦
          let room = ap (λ q. q.cap) c.deref.ensures ∙ sym queue.sized.1 ∙ sym (ap (λ (i : TableId). i.slots) c.self.invariant.0.0) in
          subst (IsEndGiven old (giver_view inbox' after)) (sym w.result-is)
          (gave_nothing old inbox inbox' before after c.self.view_is w.in-Err.ensures.queue.0 w.in-Err.ensures.rule.1, was_full old inbox before _ c.self.view_is c.requires room w.in-Err.ensures.rule.2)
    ]
