use Rattle.std.proofs.Common.{◌≡◌, ◌+◌, ◌-◌, option_map, position, drop, length}
use Rattle.http_head.specs.Reading.{reading}
use Rattle.rule_table.specs.Matching.{applies}
use Rattle.rule_table.proofs.matching.first_from.Given as goal

abbrev pub invariant-loop-rule : goal.invariant-loop-rule
invariant-loop-rule l =
    position (applies (reading l.fn.bytes)) l.fn.rules
    ≡ option_map (λ n. l.number + n) (position (applies (reading l.fn.bytes)) (drop l.number l.fn.rules))

abbrev pub decreases-loop-rule : goal.decreases-loop-rule
decreases-loop-rule l = length l.fn.rules - l.number
