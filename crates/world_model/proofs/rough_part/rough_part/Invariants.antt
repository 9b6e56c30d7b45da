use Rattle.std.proofs.Common.{◌≡◌, ℕ}
use Rattle.std.specs.List.{fold, range_with_len}
use Rattle.world_model.specs.Schedule.{Moment, moment, turn_made}
use Rattle.world_model.proofs.rough_part.rough_part.Given as goal

abbrev pub invariant-loop-turn : goal.invariant-loop-turn
invariant-loop-turn l = moment l.world l.plan ≡ fold (λ (m : Moment) (turn : ℕ). turn_made l.flows l.bytes m) (moment l.fn.world l.fn.plan) (range_with_len 0 l._turn)
