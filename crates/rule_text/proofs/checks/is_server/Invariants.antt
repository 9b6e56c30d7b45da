use Rattle.std.proofs.Common.{◌≡◌, drop, map}
use Rattle.rule_text.specs.Checks.{is_among}
use Rattle.rule_text.specs.Document.{names_of}
use Rattle.rule_text.specs.WrittenViews.{named}
use Rattle.rule_text.proofs.checks.is_server.Given as goal

abbrev pub invariant-loop-server : goal.invariant-loop-server
invariant-loop-server l =
    is_among (names_of (map named l.servers)) l.name ≡ is_among (names_of (map named (drop l.server-index l.servers))) l.name
