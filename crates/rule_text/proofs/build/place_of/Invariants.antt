use Rattle.std.proofs.Common.{◌≡◌, ◌+◌, map, drop}
use Rattle.rule_text.specs.Document.{names_of, place_among}
use Rattle.rule_text.specs.WrittenViews.{named}
use Rattle.rule_text.proofs.build.place_of.Given as goal

abbrev pub invariant-loop-n : goal.invariant-loop-n
invariant-loop-n l =
    place_among (names_of (map named l.servers)) l.name ≡ l.n + place_among (names_of (map named (drop l.n l.servers))) l.name
