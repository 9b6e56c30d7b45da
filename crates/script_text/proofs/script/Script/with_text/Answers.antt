use Rattle.std.proofs.Common.{◌<◌, ◌^◌, ap, sym, subst, ◌∙◌, Some, Ok}
use Rattle.script_text.specs.Scripts.{ScriptView}
use Rattle.script_text.specs.Reading.{unless_fault}
use Rattle.script_text.proofs.FaultLemmas.{with_text-read, no_fault}
use Rattle.script_text.proofs.script.Script.with_text.Goals as goal

pub returns-in-Some-fault-clause-fault : goal.returns-in-Some-fault-clause-fault
returns-in-Some-fault-clause-fault c = λ named.
    let few : c.args.self.sizes.instances < 2 ^ 16 = subst (λ (v : ScriptView). v.sizes.instances < 2 ^ 16) c.self.view_is c.self.invariant.few in
    let fewer : c.args.self.sizes.replicas < 2 ^ 8 = subst (λ (v : ScriptView). v.sizes.replicas < 2 ^ 8) c.self.view_is c.self.invariant.fewer in
    with_text-read c.args.self.sizes c.args.number c.args.self.lines c.args.text.now (Some c.in-Some.line) few fewer
    (sym c.is_skipped.ensures ∙ c.if-is_skipped.false) (sym c.in-Some.is ∙ c.in_ok-line.ensures)
    ∙ ap (unless_fault c.args.self.lines c.in-Some.line) (sym c.fault.ensures ∙ c.in-Some-fault.is)

pub returns-in_ok-with_line-in-None-clause-lines : goal.returns-in_ok-with_line-in-None-clause-lines
returns-in_ok-with_line-in-None-clause-lines c =
    let few : c.args.self.sizes.instances < 2 ^ 16 = subst (λ (v : ScriptView). v.sizes.instances < 2 ^ 16) c.self.view_is c.self.invariant.few in
    let fewer : c.args.self.sizes.replicas < 2 ^ 8 = subst (λ (v : ScriptView). v.sizes.replicas < 2 ^ 8) c.self.view_is c.self.invariant.fewer in
    with_text-read c.args.self.sizes c.args.number c.args.self.lines c.args.text.now (Some c.in-Some.line) few fewer
    (sym c.is_skipped.ensures ∙ c.if-is_skipped.false) (sym c.in-Some.is ∙ c.in_ok-line.ensures)
    ∙ ap (unless_fault c.args.self.lines c.in-Some.line) (sym c.fault.ensures ∙ c.in-None.is)
    ∙ ap (λ lines. Ok lines) (sym (ap (λ (v : ScriptView). v.lines) c.in_ok-with_line-in-None.ensures))

pub with_line-requires : goal.with_line-requires
with_line-requires c =
    no_fault c.args.number c.args.self.sizes.instances c.args.self.sizes.replicas c.args.self.lines c.in-Some.line
    (sym c.fault.ensures ∙ c.in-None.is)
