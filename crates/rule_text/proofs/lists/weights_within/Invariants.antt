use Rattle.std.proofs.Common.{◌≡◌, ℕ, ◌++◌, drop}
use Rattle.rule_text.specs.Names.{field_name}
use Rattle.rule_text.specs.Steps.{each, answered}
use Rattle.rule_text.specs.Values.{whole_within}
use Rattle.rule_text.proofs.lists.weights_within.Given as goal

abbrev pub invariant-loop-number : goal.invariant-loop-number
invariant-loop-number l =
    let step = λ (k : ℕ). whole_within (field_name l.field.place l.field.key.now) 0 65535 in
    each step 0 l.numbers ≡ answered (λ more. l.weights.items ++ more) (each step l.number-index (drop l.number-index l.numbers))
