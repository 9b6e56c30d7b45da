-- What contracts see of servers and rules as the file writes them.
use Rattle.std.specs.Prelude.{map, option_map}
use Rattle.rule_text.specs.declared.written.NamedServer.{NamedServer}
use Rattle.rule_text.specs.declared.written.WrittenRule.{WrittenRule}
use Rattle.rule_text.specs.Written.{Named, Written}

unfoldable pub written : WrittenRule → Written
written rule = record {
  to = map (λ s. s.now) rule.to.items;
  weights = rule.weights.items;
  host = option_map (λ s. s.now) rule.host;
  path = option_map (λ s. s.now) rule.path;
  cookie = option_map (λ s. s.now) rule.cookie;
}

abbrev pub named : NamedServer → Named
named s = (s.name.now, s.server)
