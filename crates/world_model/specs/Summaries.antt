-- What a generated run has come to.
use Rattle.std.specs.Prelude.{ℕ, ◌-◌, ◌^◌, min, not, Option, Some, None, length, count_by}
use Rattle.std.specs.List.{range_with_len, sum_by}
use Rattle.tcp_end.specs.EndState.{EndState}
use Rattle.world_model.specs.declared.summary.Summary.{Summary}
use Rattle.world_model.specs.Schedule.{is_closed, is_reset, is_finished}
use Rattle.world_model.specs.World.{World, ServerEnd, end_of_client}

-- as many as a number of 64 bits can tell
abbrev pub told : ℕ → ℕ
told n = min n (2 ^ 64 - 1)

abbrev pub received_by : Option EndState → ℕ
received_by None = 0
received_by (Some e) = length e.received

-- the ends of so many clients: how many saw the peer's close and had their own acknowledged, how many are dead, and the rest;
-- and what all servers' and all clients' ends have received
unfoldable pub summary_of : ℕ → World → Summary
summary_of flows w = record {
  flows = flows;
  closed = count_by (λ k. is_closed (end_of_client w k)) (range_with_len 0 flows);
  «open» = count_by (λ k. not (is_finished (end_of_client w k))) (range_with_len 0 flows);
  reset = count_by (λ k. is_reset (end_of_client w k)) (range_with_len 0 flows);
  to_servers = told (sum_by (λ (s : ServerEnd). length s.state.received) w.servers);
  to_clients = told (sum_by (λ k. received_by (end_of_client w k)) (range_with_len 0 flows));
}
