-- What the balancer sends when it has handled a segment, and where these segments stand. An answered SYN and the SYN to a
-- server stand at position 0, the opening's acknowledgment and pieces one behind the other from position 1 on; a segment
-- that is passed on stands where the taken one stood. All others are resets. These, and all that is sent of a flow that is no
-- honest client's, stand nowhere.
use Rattle.std.specs.Prelude.{ℕ, ◌+◌, Option, Some, None, List, [], ◌∷◌, map, length, slice_get, option_and_then}
use Rattle.flow_id.specs.declared.key.Flow.{Flow}
use Rattle.tcp_segment.specs.declared.segment.Segment.{Segment}
use Rattle.job_core.specs.declared.verdict.Verdict.{Verdict}
use Rattle.job_core.specs.declared.verdict.Verdict.TheVariants as verdict
use Rattle.bench.specs.declared.call.Call.{Call}
use Rattle.bench.specs.declared.call.Call.TheVariants.{Take, Step}
use Rattle.bench.specs.declared.call.Reply.{Reply}
use Rattle.bench.specs.declared.call.Reply.TheVariants as reply
use Rattle.world_model.specs.declared.client.ClientSpec.{ClientSpec}
use Rattle.world_model.specs.Openings.{opening_of}
use Rattle.world_model.specs.Posted.{Posted, balancer, nowhere}
use Rattle.world_model.specs.World.{World}

abbrev pub out_at : Option Flow → Option ℕ → Option ℕ → Segment → Posted
out_at flow position acknowledged s = record { segment = s; by = balancer flow; position = position; acknowledged = acknowledged }

-- from this place behind the SYN on, each behind the data of those before it
abbrev pub shown_from : Option Flow → ℕ → List Segment → List Posted
shown_from flow place [] = []
shown_from flow place (s ∷ outs) = out_at flow (Some (1 + place)) (Some 1) s ∷ shown_from flow (place + length s.body) outs

-- the outs of a handling that ended with this verdict, by the segment that it took
abbrev pub placed : Verdict → Option Posted → Option Flow → List Segment → List Posted
placed verdict.Answered taken flow outs = map (out_at flow (Some 0) (Some 1)) outs
placed (verdict.Asked server port) taken flow outs = map (out_at flow (Some 0) None) outs
placed verdict.Opened taken flow outs = shown_from flow 0 outs
placed verdict.Forwarded taken flow outs = map (out_at flow (option_and_then (λ x. x.position) taken) (option_and_then (λ x. x.acknowledged) taken)) outs
placed _ taken flow outs = map (nowhere (balancer flow)) outs

-- the same where the flow is this client's, or nobody's
abbrev pub placed_for : Option ClientSpec → Verdict → Option Posted → Option Flow → List Segment → List Posted
placed_for (Some client) v taken flow outs = placed v taken flow outs
placed_for None v taken flow outs = map (nowhere (balancer flow)) outs

-- ---- the segment that an instance handles
-- the segment that the instance took last, where each took that with this index
abbrev pub entry_taken : World → List (Option ℕ) → ℕ → Option Posted
entry_taken w taken i = option_and_then (slice_get w.sent) (option_and_then (λ n. n) (slice_get taken i))

-- what the instance sends with this reply in a handling that is known to be of this flow
abbrev pub reply_sends : World → List (Option ℕ) → Option Flow → ℕ → Reply → List Posted
reply_sends w taken flow i (reply.Done v outs) = placed_for (option_and_then (opening_of w) flow) v (entry_taken w taken i) flow outs.list
reply_sends w taken flow i _ = []

-- what a call sends that was replied so, where the call's job is of this flow
abbrev pub call_sends : World → List (Option ℕ) → Option Flow → Call → Reply → List Posted
call_sends w taken flow (Take i item a s) r = reply_sends w taken flow i r
call_sends w taken flow (Step i) r = reply_sends w taken flow i r
call_sends w taken flow _ r = []

-- ---- words for parts of these, for the code and the proofs
abbrev pub handled_sends : World → Option Flow → Option Posted → Verdict → List Segment → List Posted
handled_sends w flow taken v outs = placed_for (option_and_then (opening_of w) flow) v taken flow outs

abbrev pub index_taken : List (Option ℕ) → ℕ → Option ℕ
index_taken taken i = option_and_then (λ n. n) (slice_get taken i)
