use Rattle.std.proofs.Common.{ℕ, List, [], ◌∷◌, ◌++◌, refl, sym, ap, ◌∙◌}
use Rattle.job_core.specs.Jobs.{JobView, move_after}
use Rattle.job_core.specs.Phases.{Leads}
use Rattle.job_core.specs.declared.moves.Answer.{Answer}
use Rattle.job_core.specs.declared.moves.Answer.TheVariants.{Decided}
use Rattle.job_core.proofs.Lines.{at_looking_client, at_looking_server, at_resolving, known_open}
use Rattle.job_core.specs.Aims.{is_syn_ack}
use Rattle.job_core.proofs.Sames.{same_by_two, same_by_server}
use Rattle.job_core.proofs.job.Job.known.Goals as goal

pub returns-in-Resolving-default-default-clause-moves : goal.returns-in-Resolving-default-default-clause-moves
returns-in-Resolving-default-default-clause-moves c =
    let at = rw c.in-Resolving-default-default.is-0 at c.self.invariant.1 in
    let leads : (held : List ℕ) → Leads c.args.setup.now c.args.self.now.aim c.args.self.now.segment (c.args.self.now.answers ++ Decided c.args.item ∷ []) (move_after c.args.setup.now c.args.self.now (Decided c.args.item) held) c.resolved.result =
    λ held. rw (← c.self.view_is) (at_resolving _ _ _ _ _ _ _ _ _ _ at (c.resolved.ensures _ _ held)) in
    λ held. (leads held).0

pub returns-in-Resolving-default-default-clause-steps : goal.returns-in-Resolving-default-default-clause-steps
returns-in-Resolving-default-default-clause-steps c =
    let at = rw c.in-Resolving-default-default.is-0 at c.self.invariant.1 in
    let leads : Leads c.args.setup.now c.args.self.now.aim c.args.self.now.segment (c.args.self.now.answers ++ Decided c.args.item ∷ []) (move_after c.args.setup.now c.args.self.now (Decided c.args.item) []) c.resolved.result =
    rw (← c.self.view_is) (at_resolving _ _ _ _ _ _ _ _ _ _ at (c.resolved.ensures _ _ [])) in
    leads.1

pub returns-in-Resolving-default-default-clause-same : goal.returns-in-Resolving-default-default-clause-same
returns-in-Resolving-default-default-clause-same c =
    let at = rw c.in-Resolving-default-default.is-0 at c.self.invariant.1 in
    let leads : Leads c.args.setup.now c.args.self.now.aim c.args.self.now.segment (c.args.self.now.answers ++ Decided c.args.item ∷ []) (move_after c.args.setup.now c.args.self.now (Decided c.args.item) []) c.resolved.result =
    rw (← c.self.view_is) (at_resolving _ _ _ _ _ _ _ _ _ _ at (c.resolved.ensures _ _ [])) in
    let are = sym (ap (λ (v : JobView). v.answers) c.self.view_is) ∙ at.1 in
    same_by_two c.args.setup.now c.args.self.now.instance c.args.self.now.aim c.args.self.now.segment (c.args.self.now.answers ++ Decided c.args.item ∷ []) _ c.args.item c.resolved.result
    (ap (λ (l : List Answer). l ++ Decided c.args.item ∷ []) are) leads.0

pub returns-in-Looking-Client-default-clause-moves : goal.returns-in-Looking-Client-default-clause-moves
returns-in-Looking-Client-default-clause-moves c =
    let at = rw c.in-Looking-Client-default.is-1 at (rw c.in-Looking-Client-default.is-0 at c.self.invariant.1) in
    let known = known_open c.args.setup.now _ _ _ at.2 (rw (← c.self.view_is) at c.requires.may) in
    let leads : (held : List ℕ) → Leads c.args.setup.now c.args.self.now.aim c.args.self.now.segment (c.args.self.now.answers ++ Decided c.args.item ∷ []) (move_after c.args.setup.now c.args.self.now (Decided c.args.item) held) c.client_of_open.result =
    λ held. rw (← c.self.view_is, c.in-Looking-Client-default.is-1) (at_looking_client _ _ _ _ _ _ _ _ _ _ at.0 refl (c.client_of_open.ensures _ c.self.inside.instance held known)) in
    λ held. (leads held).0

pub returns-in-Looking-Client-default-clause-steps : goal.returns-in-Looking-Client-default-clause-steps
returns-in-Looking-Client-default-clause-steps c =
    let at = rw c.in-Looking-Client-default.is-1 at (rw c.in-Looking-Client-default.is-0 at c.self.invariant.1) in
    let known = known_open c.args.setup.now _ _ _ at.2 (rw (← c.self.view_is) at c.requires.may) in
    let leads : Leads c.args.setup.now c.args.self.now.aim c.args.self.now.segment (c.args.self.now.answers ++ Decided c.args.item ∷ []) (move_after c.args.setup.now c.args.self.now (Decided c.args.item) []) c.client_of_open.result =
    rw (← c.self.view_is, c.in-Looking-Client-default.is-1) (at_looking_client _ _ _ _ _ _ _ _ _ _ at.0 refl (c.client_of_open.ensures _ c.self.inside.instance [] known)) in
    leads.1

pub returns-in-Looking-Client-default-clause-same : goal.returns-in-Looking-Client-default-clause-same
returns-in-Looking-Client-default-clause-same c =
    let at = rw c.in-Looking-Client-default.is-1 at (rw c.in-Looking-Client-default.is-0 at c.self.invariant.1) in
    let known = known_open c.args.setup.now _ _ _ at.2 (rw (← c.self.view_is) at c.requires.may) in
    let leads : Leads c.args.setup.now c.args.self.now.aim c.args.self.now.segment (c.args.self.now.answers ++ Decided c.args.item ∷ []) (move_after c.args.setup.now c.args.self.now (Decided c.args.item) []) c.client_of_open.result =
    rw (← c.self.view_is, c.in-Looking-Client-default.is-1) (at_looking_client _ _ _ _ _ _ _ _ _ _ at.0 refl (c.client_of_open.ensures _ c.self.inside.instance [] known)) in
    let are = sym (ap (λ (v : JobView). v.answers) c.self.view_is) ∙ at.0.2 in
    same_by_two c.args.setup.now c.args.self.now.instance c.args.self.now.aim c.args.self.now.segment (c.args.self.now.answers ++ Decided c.args.item ∷ []) _ c.args.item c.client_of_open.result
    (ap (λ (l : List Answer). l ++ Decided c.args.item ∷ []) are) leads.0

pub returns-in-Looking-Server-default-clause-moves : goal.returns-in-Looking-Server-default-clause-moves
returns-in-Looking-Server-default-clause-moves c =
    let at = rw c.in-Looking-Server-default.is-1 at (rw c.in-Looking-Server-default.is-0 at c.self.invariant.1) in
    let known = known_open c.args.setup.now _ _ _ at.2 (rw (← c.self.view_is) at c.requires.may) in
    let leads : (held : List ℕ) → Leads c.args.setup.now c.args.self.now.aim c.args.self.now.segment (c.args.self.now.answers ++ Decided c.args.item ∷ []) (move_after c.args.setup.now c.args.self.now (Decided c.args.item) held) c.server_of_open.result =
    λ held. rw (← c.self.view_is, c.in-Looking-Server-default.is-1) (at_looking_server _ _ _ _ _ _ _ _ _ _ _ at.0 refl (c.server_of_open.ensures _ _ _ held known)) in
    λ held. (leads held).0

pub returns-in-Looking-Server-default-clause-steps : goal.returns-in-Looking-Server-default-clause-steps
returns-in-Looking-Server-default-clause-steps c =
    let at = rw c.in-Looking-Server-default.is-1 at (rw c.in-Looking-Server-default.is-0 at c.self.invariant.1) in
    let known = known_open c.args.setup.now _ _ _ at.2 (rw (← c.self.view_is) at c.requires.may) in
    let leads : Leads c.args.setup.now c.args.self.now.aim c.args.self.now.segment (c.args.self.now.answers ++ Decided c.args.item ∷ []) (move_after c.args.setup.now c.args.self.now (Decided c.args.item) []) c.server_of_open.result =
    rw (← c.self.view_is, c.in-Looking-Server-default.is-1) (at_looking_server _ _ _ _ _ _ _ _ _ _ _ at.0 refl (c.server_of_open.ensures _ _ _ [] known)) in
    leads.1

pub returns-in-Looking-Server-default-clause-same : goal.returns-in-Looking-Server-default-clause-same
returns-in-Looking-Server-default-clause-same c =
    let at = rw c.in-Looking-Server-default.is-1 at (rw c.in-Looking-Server-default.is-0 at c.self.invariant.1) in
    let known = known_open c.args.setup.now _ _ _ at.2 (rw (← c.self.view_is) at c.requires.may) in
    let leads : Leads c.args.setup.now c.args.self.now.aim c.args.self.now.segment (c.args.self.now.answers ++ Decided c.args.item ∷ []) (move_after c.args.setup.now c.args.self.now (Decided c.args.item) []) c.server_of_open.result =
    rw (← c.self.view_is, c.in-Looking-Server-default.is-1) (at_looking_server _ _ _ _ _ _ _ _ _ _ _ at.0 refl (c.server_of_open.ensures _ _ _ [] known)) in
    let are = sym (ap (λ (v : JobView). v.answers) c.self.view_is) ∙ at.0.1 in
    let of = sym (ap (λ (v : JobView). v.aim) c.self.view_is) ∙ c.in-Looking-Server-default.is-1 in
    let other = ap (λ (v : JobView). is_syn_ack v.segment.head.flags) (sym c.self.view_is) ∙ at.0.0 in
    same_by_server c.args.setup.now c.args.self.now.instance _ _ c.args.self.now.aim c.args.self.now.segment (c.args.self.now.answers ++ Decided c.args.item ∷ []) _ _ c.args.item c.server_of_open.result
    of other (ap (λ (l : List Answer). l ++ Decided c.args.item ∷ []) are) leads.0
