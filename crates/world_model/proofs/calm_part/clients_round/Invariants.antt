use Rattle.std.proofs.Common.{◌≡◌, ℕ, ◌%◌}
use Rattle.std.specs.List.{fold, range_with_len}
use Rattle.world_model.specs.Schedule.{Moment, moment, exchanged}
use Rattle.world_model.specs.declared.at.At.TheVariants.{Client}
use Rattle.world_model.proofs.calm_part.clients_round.Given as goal

abbrev pub invariant-loop-client : goal.invariant-loop-client
invariant-loop-client l = moment l.world l.plan ≡ fold (λ (m : Moment) (k : ℕ). exchanged l.bytes (Client k) (k % 4) m) (moment l.fn.world l.fn.plan) (range_with_len 0 l.client)
