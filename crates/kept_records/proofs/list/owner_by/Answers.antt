use Rattle.std.proofs.Common.{Some, None, Bool, sym, ◌∙◌, ap}
use Rattle.std.specs.Prelude.{if◌then◌else◌}
use Rattle.std.specs.Option.{option_copied}
use Rattle.kept_records.proofs.Places.{found, told, found_is}
use Rattle.kept_records.proofs.list.owner_by.Goals as goal

pub returns-in_err-flow : goal.returns-in_err-flow
returns-in_err-flow c =
    let es = c.args.cache.now.entries in
    let is = found_is c.args.owners.now.flows.entries es c.args.server c.args.port (c.requires.owners c.if-owners.false) c.requires.distinct in
    c.from_residual.ensures ∙ sym (is ∙ ap (found es c.args.server c.args.port) (sym c.in_err-flow.ensures.value))

pub returns-in-Some : goal.returns-in-Some
returns-in-Some c =
    let es = c.args.cache.now.entries in
    let is = found_is c.args.owners.now.flows.entries es c.args.server c.args.port (c.requires.owners c.if-owners.false) c.requires.distinct in
    sym (is ∙ ap (found es c.args.server c.args.port) (sym c.in_ok-flow.ensures.value) ∙ ap (told es c.args.server c.args.port c.in_ok-flow.flow.now) (sym c.in-Some.ensures)
    ∙ ap (λ (b : Bool). if b then Some c.in_ok-flow.flow.now else None) (sym c.opens_to.ensures ∙ c.if-opens_to.true))

pub returns-in_default : goal.returns-in_default
returns-in_default c =
    let es = c.args.cache.now.entries in
    let is = found_is c.args.owners.now.flows.entries es c.args.server c.args.port (c.requires.owners c.if-owners.false) c.requires.distinct in
    sym (is ∙ ap (found es c.args.server c.args.port) (sym c.in_ok-flow.ensures.value) ∙ ap (told es c.args.server c.args.port c.in_ok-flow.flow.now) (sym c.in-Some.ensures)
    ∙ ap (λ (b : Bool). if b then Some c.in_ok-flow.flow.now else None) (sym c.opens_to.ensures ∙ c.if-opens_to.false))

pub returns-in_default-2 : goal.returns-in_default-2
returns-in_default-2 c =
    let es = c.args.cache.now.entries in
    let is = found_is c.args.owners.now.flows.entries es c.args.server c.args.port (c.requires.owners c.if-owners.false) c.requires.distinct in
    sym (is ∙ ap (found es c.args.server c.args.port) (sym c.in_ok-flow.ensures.value) ∙ ap (told es c.args.server c.args.port c.in_ok-flow.flow.now) (sym c.peek.ensures ∙ ap option_copied c.in_default.is))
