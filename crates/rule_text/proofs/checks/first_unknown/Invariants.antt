use Rattle.std.proofs.Common.{◌≡◌, drop, find, map, not}
use Rattle.rule_text.specs.Checks.{is_among}
use Rattle.rule_text.specs.Document.{names_of}
use Rattle.rule_text.specs.WrittenViews.{named}
use Rattle.rule_text.proofs.checks.first_unknown.Given as goal

abbrev pub invariant-loop-name : goal.invariant-loop-name
invariant-loop-name l =
    let names = names_of (map named l.servers) in
    find (λ n. not (is_among names n)) (map (λ n. n.now) l.names)
    ≡ find (λ n. not (is_among names n)) (map (λ n. n.now) (drop l.name-index l.names))
