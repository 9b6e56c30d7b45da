-- What a seat's calls were answered, by the replay of the history in which they stand.
use Rattle.std.specs.Prelude.{ℕ, List, [], ◌∷◌, map, nat_eq, if◌then◌else◌}
use Rattle.seen_lock.specs.declared.object.Entry.{Entry}
use Rattle.seen_lock.specs.Histories.{state_after}
use Rattle.bench.specs.Bench.{BenchState, served}
use Rattle.bench.specs.declared.call.Call.{Call}
use Rattle.bench.specs.declared.call.Reply.{Reply}

-- the bench after a history
abbrev pub bench_now : BenchState → List (Entry Call) → BenchState
bench_now b history = state_after (λ b c. (served b c).0) b history

-- a call, and what it was answered
abbrev pub Answer : Type 0
Answer = Call × Reply

abbrev pub calls_in : List Answer → List Call
calls_in answers = map (λ a. a.0) answers

abbrev pub replies_in : List Answer → List Reply
replies_in answers = map (λ a. a.1) answers

-- the calls of one seat in a history from this bench on, in their order, each with the reply that the calls before it in
-- the history lead to
abbrev pub answered : ℕ → BenchState → List (Entry Call) → List Answer
answered seat b [] = []
answered seat b (e ∷ history) =
    if nat_eq e.seat seat then (e.call, (served b e.call).1) ∷ answered seat (served b e.call).0 history
    else answered seat (served b e.call).0 history
