use Rattle.std.proofs.Common.{◌≡◌, ◌+◌, option_map, position, drop}
use Rattle.http_head.specs.Reading.{reading}
use Rattle.rule_table.specs.Matching.{applies}
use Rattle.rule_table.proofs.matching.first_match.Given as goal

abbrev pub invariant-loop-number : goal.invariant-loop-number
invariant-loop-number l =
    position (applies (reading l.fn.bytes)) l.fn.rules
    ≡ option_map (λ n. l.number + n) (position (applies (reading l.fn.bytes)) (drop l.number l.fn.rules))
