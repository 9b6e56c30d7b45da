use Rattle.std.proofs.Common.{◌≡◌, ◌++◌, vec_capacity}
use Rattle.world_model.specs.Placed.{behind_all, laid}
use Rattle.world_model.proofs.laying.add_outs.Given as goal

abbrev pub invariant-loop-segment : goal.invariant-loop-segment
invariant-loop-segment l = record {
  is : l.fn.outs.items ≡ l.yielded ++ l.segment-iterator.rest.items;
  items : l.sent.items ≡ l.fn.sent.items ++ laid l.flow l.fn.first l.yielded;
  place : l.place ≡ behind_all l.fn.first l.yielded;
  room : vec_capacity l.sent ≡ vec_capacity l.fn.sent;
}
