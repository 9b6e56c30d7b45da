use Rattle.std.proofs.Common.{◌≡◌, drop, map}
use Rattle.rule_text.specs.Checks.{clashes}
use Rattle.rule_text.specs.WrittenViews.{named}
use Rattle.rule_text.proofs.checks.clashes.Given as goal

abbrev pub invariant-loop-other : goal.invariant-loop-other
invariant-loop-other l =
    clashes l.service (map named l.earlier) (named l.server)
    ≡ clashes l.service (map named (drop l.other-index l.earlier)) (named l.server)
