use Rattle.std.proofs.Common.{◌≡◌, ◌+◌, ◌%◌, ◌<◌, take, drop}
use Rattle.weighted_pick.specs.Pick.{first_above, total_weight}
use Rattle.weighted_pick.proofs.pick.Given as goal

-- what is left of the draw counts from the weight of the choices passed over, and is below that of the choices to come
abbrev pub invariant-loop-server : goal.invariant-loop-server
invariant-loop-server l =
    let n = l.draw % total_weight l.choices in
    let passed = total_weight (take l.server-index l.choices) in
    record {
      counted : passed + l.left ≡ n;
      below : l.left < total_weight (drop l.server-index l.choices);
      same : first_above n 0 l.choices ≡ first_above n passed (drop l.server-index l.choices);
    }
