use Rattle.std.proofs.Common.{◌≡◌, ◌++◌, length, take, drop, reverse}
use Rattle.run_threads.specs.Sent.{numbered_outs}
use Rattle.run_threads.proofs.made.add_turned.Given as goal

abbrev pub invariant-loop-out : goal.invariant-loop-out
invariant-loop-out l = record {
  rest : l.left.items ≡ take (length l.left.items) l.fn.outs.list;
  added : l.sent.items ≡ l.fn.sent.items ++ reverse (numbered_outs l.fn.item (drop (length l.left.items) l.fn.outs.list));
}

abbrev pub decreases-loop-out : goal.decreases-loop-out
decreases-loop-out l = length l.left.items
