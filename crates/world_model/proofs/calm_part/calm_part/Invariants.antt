use Rattle.std.proofs.Common.{◌≡◌, ℕ}
use Rattle.std.specs.List.{fold, range_with_len}
use Rattle.world_model.specs.Schedule.{Moment, moment, round_made}
use Rattle.world_model.proofs.calm_part.calm_part.Given as goal

abbrev pub invariant-loop-round : goal.invariant-loop-round
invariant-loop-round l = moment l.world l.plan ≡ fold (λ (m : Moment) (round : ℕ). round_made l.flows l.bytes m) (moment l.fn.world l.fn.plan) (range_with_len 0 l._round)
