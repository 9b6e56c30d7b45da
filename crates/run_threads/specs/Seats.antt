-- What a seat of a bench's lock has done.
use Rattle.std.specs.Prelude.{◌≡◌, List, ◌++◌}
use Rattle.seen_lock.specs.Histories.{calls_by, Begins}
use Rattle.seen_lock.specs.Seats.{LockView, SeatView, IsSeatOf, SameSeat, seen, own_calls}
use Rattle.bench.specs.Bench.{BenchState}
use Rattle.bench.specs.declared.call.Call.{Call}
use Rattle.run_threads.specs.Answered.{Answer, answered}

abbrev pub BenchLock : Type 0
BenchLock = LockView BenchState

abbrev pub BenchSeat : Type 0
BenchSeat = SeatView BenchState Call

-- the seat is one of the lock, and its calls are its entries in the history that it has seen
pub record IsAt (lock : BenchLock) (s : BenchSeat) : Type 0 where
  pub of : IsSeatOf lock s
  pub fits : calls_by s.number (seen s) ≡ own_calls s

-- what the seat's calls were answered, by the history that it has seen
abbrev pub answers : BenchLock → BenchSeat → List Answer
answers lock s = answered s.number lock.first (seen s)

-- the seat has made these calls, with these replies, behind all that it had made
pub record Adds (lock : BenchLock) (old new : BenchSeat) (more : List Answer) : Type 0 where
  pub at : IsAt lock new
  pub same : SameSeat old new
  pub grown : Begins (seen new) (seen old)
  pub answered : answers lock new ≡ answers lock old ++ more
