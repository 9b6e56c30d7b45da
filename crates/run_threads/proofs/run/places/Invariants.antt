use Rattle.std.proofs.Common.{◌≡◌, length, All}
use Rattle.run_threads.specs.declared.handle.Handle.TheVariants.{NoMemory}
use Rattle.run_threads.proofs.run.places.Given as goal

abbrev pub invariant-loop : goal.invariant-loop
invariant-loop l = record {
  many : length l.handles.items ≡ l.counter;
  none : All (λ h. h ≡ NoMemory) l.handles.items;
}
