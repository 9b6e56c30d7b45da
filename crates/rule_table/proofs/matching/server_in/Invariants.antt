use Rattle.std.proofs.Common.{◌≡◌, ◌+◌, option_map, drop}
use Rattle.rule_table.specs.Matching.{place_of}
use Rattle.rule_table.proofs.matching.server_in.Given as goal

abbrev pub invariant-loop-index : goal.invariant-loop-index
invariant-loop-index l =
    place_of l.fn.servers l.fn.address l.fn.port
    ≡ option_map (λ n. l.index + n) (place_of (drop l.index l.fn.servers) l.fn.address l.fn.port)
