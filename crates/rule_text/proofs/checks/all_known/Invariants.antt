use Rattle.std.proofs.Common.{◌≡◌, drop, map}
use Rattle.rule_text.specs.Checks.{every, known}
use Rattle.rule_text.specs.Document.{names_of}
use Rattle.rule_text.specs.WrittenViews.{named, written}
use Rattle.rule_text.proofs.checks.all_known.Given as goal

abbrev pub invariant-loop-rule : goal.invariant-loop-rule
invariant-loop-rule l =
    let check = known (names_of (map named l.servers)) in
    every (λ n. check) 0 (map written l.rules) ≡ every (λ n. check) l.rule-index (map written (drop l.rule-index l.rules))
