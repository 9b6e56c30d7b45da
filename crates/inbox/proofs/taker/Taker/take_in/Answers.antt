use Rattle.std.proofs.Common.{◌++◌, sym, ap, ◌∙◌}
use Rattle.inbox.specs.declared.rule.Known.{Known}
use Rattle.inbox.specs.Inboxes.{GiverView}
use Rattle.inbox.specs.Rule.{known_by}
use Rattle.inbox.proofs.Steps.{merges, both_known}
use Rattle.inbox.proofs.Views.{taken_first, taken_whole, taken_over}
use Rattle.inbox.proofs.taker.Taker.take_in.Goals as goal

pub absorb-requires-clause-rule : goal.absorb-requires-clause-rule
absorb-requires-clause-rule g c = merges _ _ _ _ c.self.invariant.1 c.giver.invariant.1

pub learn_as-requires-clause-rule : goal.learn_as-requires-clause-rule
learn_as-requires-clause-rule g c =
    both_known _ _ (ap (λ (k : Known g.row.T.Denot). k.gives) c.absorb.ensures.rule) (ap (λ (k : Known g.row.T.Denot). k.takes) c.absorb.ensures.rule)

pub returns-clause-prefix : goal.returns-clause-prefix
returns-clause-prefix g c =
    let items = c.learn_as.ensures.rule.0 in
    let order = sym (ap (λ (k : Known g.row.T.Denot). k.given) c.absorb.ensures.rule) ∙ c.learn_as.ensures.rule.1 ∙ ap (λ (k : Known g.row.T.Denot). k.taken ++ items) c.absorb.ensures.rule in
    let same = ap (λ (k : Known g.row.T.Denot). k.taken) (c.learn_as.ensures.queue.1 ∙ c.absorb.ensures.rule) in
    taken_first (known_by c.self.inside.pass) (known_by c.giver.inside.pass) (known_by c.learn_as.new.pass) items c.args.giver.given order same (ap (λ (v : GiverView g.row.T.Denot). v.given) c.giver.view_is)

pub returns-clause-whole : goal.returns-clause-whole
returns-clause-whole g c ended =
    let items = c.learn_as.ensures.rule.0 in
    let order = sym (ap (λ (k : Known g.row.T.Denot). k.given) c.absorb.ensures.rule) ∙ c.learn_as.ensures.rule.1 ∙ ap (λ (k : Known g.row.T.Denot). k.taken ++ items) c.absorb.ensures.rule in
    let same = ap (λ (k : Known g.row.T.Denot). k.taken) (c.learn_as.ensures.queue.1 ∙ c.absorb.ensures.rule) in
    taken_whole (known_by c.self.inside.pass) (known_by c.giver.inside.pass) (known_by c.learn_as.new.pass) items c.args.giver.given order same (ap (λ (v : GiverView g.row.T.Denot). v.given) c.giver.view_is)
    (c.self.invariant.2 ∙ ended)

pub returns-clause-over : goal.returns-clause-over
returns-clause-over g c ended =
    let items = c.learn_as.ensures.rule.0 in
    let order = sym (ap (λ (k : Known g.row.T.Denot). k.given) c.absorb.ensures.rule) ∙ c.learn_as.ensures.rule.1 ∙ ap (λ (k : Known g.row.T.Denot). k.taken ++ items) c.absorb.ensures.rule in
    taken_over (known_by c.self.inside.pass) (known_by c.giver.inside.pass) items c.args.giver.ended order (ap (λ (v : GiverView g.row.T.Denot). v.ended) c.giver.view_is) (c.self.invariant.2 ∙ ended)
