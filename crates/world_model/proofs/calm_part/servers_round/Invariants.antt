use Rattle.std.proofs.Common.{◌≡◌, ℕ}
use Rattle.std.specs.List.{fold, range_with_len}
use Rattle.world_model.specs.Schedule.{Moment, moment, exchanged_by, server_named}
use Rattle.world_model.proofs.calm_part.servers_round.Given as goal

abbrev pub invariant-loop-place : goal.invariant-loop-place
invariant-loop-place l = moment l.world l.plan ≡ fold (λ (m : Moment) (place : ℕ). exchanged_by l.bytes place m (server_named m.world place)) (moment l.fn.world l.fn.plan) (range_with_len 0 l.place)
