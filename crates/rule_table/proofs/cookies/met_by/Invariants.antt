use Rattle.std.proofs.Common.{◌≡◌, ℕ, ◌<◌, ◌||◌, false, get_or, length}
use Rattle.rule_table.specs.Index.{is_met}
use Rattle.rule_table.proofs.cookies.met_by.Given as goal

abbrev pub invariant-loop-piece : goal.invariant-loop-piece
invariant-loop-piece l = record {
  places : length l.met ≡ 256;
  met : (number : ℕ) → number < 256
      → is_met l.fn.rules l.fn.slots l.fn.pieces number
      ≡ (get_or l.met number false || is_met l.fn.rules l.fn.slots l.left number);
}

abbrev pub decreases-loop-piece : goal.decreases-loop-piece
decreases-loop-piece l = length l.left
