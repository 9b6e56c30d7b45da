-- The generator of a run: a linear congruential generator modulo 2 ^ 64, with the multiplier and the increment that
-- Knuth gives for MMIX (The Art of Computer Programming, volume 2, 3.3.4), and the turns that are drawn from it.
use Rattle.std.specs.Prelude.{ℕ, ◌+◌, ◌*◌, ◌/◌, ◌%◌, ◌^◌}
use Rattle.drive_plan.specs.declared.generator.Turn.{Turn}

abbrev pub next_state : ℕ → ℕ
next_state x = (x * 6364136223846793005 + 1442695040888963407) % 2 ^ 64

-- the draw that the move to this state hands out
abbrev pub drawn : ℕ → ℕ
drawn x = x / 2 ^ 32

-- the state after the four draws of a turn
abbrev pub after_turn : ℕ → ℕ
after_turn x = next_state (next_state (next_state (next_state x)))

-- the turn from a state, in a run of so many flows
abbrev pub turn_of : ℕ → ℕ → Turn
turn_of x flows = record {
  a = drawn (next_state x) % flows;
  b = drawn (next_state (next_state x)) % 16;
  c = drawn (next_state (next_state (next_state x)));
  d = drawn (next_state (next_state (next_state (next_state x))));
}
