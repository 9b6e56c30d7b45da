use Rattle.std.proofs.Common.{◌≡◌, map, take, vec_len}
use Rattle.rule_text.specs.Document.{names_of, resolved}
use Rattle.rule_text.specs.WrittenViews.{named, written}
use Rattle.rule_text.proofs.build.resolved_rules.Given as goal

abbrev pub invariant-loop-rule : goal.invariant-loop-rule
invariant-loop-rule l = record {
  made : l.resolved.items ≡ map (resolved (names_of (map named l.servers))) (map written (take l.rule-index l.rules));
  count : vec_len l.resolved ≡ l.rule-index;
}
