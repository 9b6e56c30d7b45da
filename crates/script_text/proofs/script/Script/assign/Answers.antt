use Rattle.std.proofs.Common.{◌≡◌, ◌<◌, ◌+◌, ◌%◌, false, true, find, Some, ap, sym, subst, ◌∙◌, unwrap_or, arith}
use Rattle.script_text.specs.Lives.{living, given, round_from}
use Rattle.script_text.specs.Index.{IsIndex}
use Rattle.script_text.proofs.AssignLemmas.{find-next, find-here, find-end}
use Rattle.script_text.proofs.script.Script.assign.Goals as goal

pub loop-step-init : goal.loop-step-init
loop-step-init c =
    let script = c.args.self.now in
    let is : IsIndex script.lines c.self.inside.index = subst (λ v. IsIndex v.lines c.self.inside.index) c.self.view_is c.self.invariant.indexed in
    let from : c.unwrap_or-first.result ≡ unwrap_or (given script.lines c.args.item) c.args.first =
    c.unwrap_or-first.ensures ∙ ap (λ o. unwrap_or o c.args.first) (c.given.ensures script.lines is) in
    ap (λ f. find (λ i. living script.lines i c.args.item) (round_from script.sizes.instances f)) from

pub loop-step-preserved : goal.loop-step-preserved
loop-step-preserved c =
    let script = c.args.self.now in
    let instances = script.sizes.instances in
    let first = c.unwrap_or-first.result in
    let step = c.loop-step.step in
    let is : IsIndex script.lines c.self.inside.index = subst (λ v. IsIndex v.lines c.self.inside.index) c.self.view_is c.self.invariant.indexed in
    let same : c.self.inside.instances ≡ instances = ap (λ v. v.sizes.instances) c.self.view_is in
    let place : c.round-instance.result ≡ (first + step) % instances = c.round-instance.ensures ∙ ap (λ m. (first + step) % m) same in
    let inside : step < instances = omega (arith, same) in
    let fails : living script.lines ((first + step) % instances) c.args.item ≡ false =
    ap (λ i. living script.lines i c.args.item) (sym place) ∙ sym (c.is_living.ensures script.lines is) ∙ c.if-is_living.false in
    sym (find-next (λ i. living script.lines i c.args.item) instances first step inside fails) ∙ c.loop-step.invariant

pub returns-then-is_living : goal.returns-then-is_living
returns-then-is_living c =
    let script = c.args.self.now in
    let instances = script.sizes.instances in
    let first = c.unwrap_or-first.result in
    let step = c.loop-step.step in
    let is : IsIndex script.lines c.self.inside.index = subst (λ v. IsIndex v.lines c.self.inside.index) c.self.view_is c.self.invariant.indexed in
    let same : c.self.inside.instances ≡ instances = ap (λ v. v.sizes.instances) c.self.view_is in
    let place : c.round-instance.result ≡ (first + step) % instances = c.round-instance.ensures ∙ ap (λ m. (first + step) % m) same in
    let inside : step < instances = omega (arith, same) in
    let passes : living script.lines ((first + step) % instances) c.args.item ≡ true =
    ap (λ i. living script.lines i c.args.item) (sym place) ∙ sym (c.is_living.ensures script.lines is) ∙ c.if-is_living.true in
    ap Some place ∙ sym (find-here (λ i. living script.lines i c.args.item) instances first step inside passes) ∙ c.loop-step.invariant

pub returns : goal.returns
returns c =
    let script = c.args.self.now in
    let same : c.self.inside.instances ≡ script.sizes.instances = ap (λ v. v.sizes.instances) c.self.view_is in
    sym (find-end (λ i. living script.lines i c.args.item) script.sizes.instances c.unwrap_or-first.result c.loop-step.step (omega (arith, same)))
    ∙ c.loop-step.invariant
