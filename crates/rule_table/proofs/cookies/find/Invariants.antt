use Rattle.std.proofs.Common.{◌≡◌, drop}
use Rattle.rule_table.specs.Index.{found_in, found_at}
use Rattle.rule_table.proofs.cookies.find.Given as goal

abbrev pub invariant-loop-number : goal.invariant-loop-number
invariant-loop-number l =
    found_at l.fn.rules l.fn.slots l.fn.cookie ≡ found_in l.fn.rules l.fn.cookie (drop l.number-index l.behind)
