use Rattle.std.proofs.Common.{◌≡◌, [], drop, map, take}
use Rattle.rule_text.specs.Checks.{clashes, first_clash}
use Rattle.rule_text.specs.WrittenViews.{named}
use Rattle.rule_text.proofs.checks.first_clash.Given as goal

abbrev pub invariant-loop-n : goal.invariant-loop-n
invariant-loop-n l =
    first_clash (clashes l.service) [] (map named l.servers)
    ≡ first_clash (clashes l.service) (map named (take l.n l.servers)) (map named (drop l.n l.servers))
