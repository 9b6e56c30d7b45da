use Rattle.std.proofs.Common.{◌≡◌, ◌≤◌, vec_len}
use Rattle.bench.specs.Passing.{AreReady}
use Rattle.bench.proofs.rooms.add_rooms.Given as goal

abbrev pub invariant-loop-room : goal.invariant-loop-room
invariant-loop-room l = AreReady l.rooms.items × (vec_len l.rooms ≡ l._room) × (l.before ≡ vec_len l.fn.rooms) × (l.count ≤ l.before → l._room ≡ l.before)
