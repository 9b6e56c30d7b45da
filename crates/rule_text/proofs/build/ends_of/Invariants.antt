use Rattle.std.proofs.Common.{◌≡◌, map, take}
use Rattle.rule_text.specs.WrittenViews.{named}
use Rattle.rule_text.proofs.build.ends_of.Given as goal

abbrev pub invariant-loop-server : goal.invariant-loop-server
invariant-loop-server l = l.ends.items ≡ map (λ s. s.1) (map named (take l.server-index l.servers))
