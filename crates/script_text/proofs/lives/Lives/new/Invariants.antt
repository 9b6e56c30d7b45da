use Rattle.std.proofs.Common.{◌≡◌, [], length, All}
use Rattle.script_text.proofs.lives.Lives.new.Given as goal

abbrev pub invariant-loop : goal.invariant-loop
invariant-loop l = record {
  none : All (λ changes. changes.items ≡ []) l.changes.items;
  room : length l.changes.items ≡ l.counter;
}
