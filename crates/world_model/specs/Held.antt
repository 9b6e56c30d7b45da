-- What is held of an honest client's flow, and what the client sent before its connection was opened.
use Rattle.std.specs.Prelude.{◌≡◌, ◌⊎◌, ◌<◌, ◌≤◌, ◌^◌, ◌-◌, ℕ, ◌+◌, Option, Some, false, List, [], ◌∷◌, ◌++◌, slice_get, length}
use Rattle.flow_id.specs.Ports.{shard_of}
use Rattle.flow_id.specs.declared.key.Flow.{Flow}
use Rattle.flow_id.specs.declared.key.Key.{Key}
use Rattle.flow_id.specs.declared.key.Key.TheVariants as key
use Rattle.flow_record.specs.Records.{syn_number}
use Rattle.flow_record.specs.declared.record.Record.{Record}
use Rattle.job_core.specs.Held.{offset_of}
use Rattle.bench.specs.declared.call.Call.{Call}
use Rattle.bench.specs.Bench.{desk_at, held_of}
use Rattle.bench.specs.Histories.{bench_after, log_after, Decides}
use Rattle.seq_space.specs.declared.Num.{Num}
use Rattle.tcp_end.specs.EndState.{EndState}
use Rattle.tcp_end.specs.Streams.{IsPrefix}
use Rattle.tcp_segment.specs.Flags.{has_syn}
use Rattle.world_model.specs.declared.at.At.TheVariants.{Client}
use Rattle.world_model.specs.Openings.{IsOpening}
use Rattle.world_model.specs.Posted.{Posted, end}
use Rattle.world_model.specs.Streams.{written_by}
use Rattle.world_model.specs.World.{World, bench_at}

-- what any desk holds of the flow is a prefix of what the client has written
abbrev pub HeldIsPrefix : World → Type 0
HeldIsPrefix w =
    (g i k : ℕ) (flow : Flow) (first : Num) (state : Option EndState) → g < w.setup.shards → IsOpening w k flow first state
    → IsPrefix (held_of (desk_at (bench_at w g).desks i).held flow) (written_by state)

-- ---- before the connection is opened
-- no record was decided under this key of the flow's
abbrev pub IsUndecided : World → (ℕ → List Call) → Flow → Key → Type 0
IsUndecided w histories flow k = (r : Record) → let g = shard_of flow w.setup.shards in Decides (log_after w.setup g (histories g)) k r → ⊥

-- At most the client's SYN was acknowledged to it. So it has sent nothing past position 2 ^ 31, and the offset of its data
-- behind its SYN's number is that in its stream.
pub record BeforeOpen (w : World) (k : ℕ) (first : Num) (state : Option EndState) : Type 0 where
  pub acked : (e : EndState) → state ≡ Some e → e.acked ≤ 1
  pub reach : (n p : ℕ) (x : Posted) → slice_get w.sent n ≡ Some x → x.by ≡ end (Client k) → x.position ≡ Some p → p + length x.segment.body ≤ 2 ^ 31
  pub offset : (n p : ℕ) (x : Posted) (syn : Record) → slice_get w.sent n ≡ Some x → x.by ≡ end (Client k) → x.position ≡ Some p → has_syn x.segment.head.flags ≡ false → syn_number syn ≡ first.0
      → offset_of syn x.segment ≡ p - 1

-- so it is as long as the flow's Open is not decided
abbrev pub OffsetsAreExact : World → (ℕ → List Call) → Type 0
OffsetsAreExact w histories =
    (k : ℕ) (flow : Flow) (first : Num) (state : Option EndState) → IsOpening w k flow first state
    → IsUndecided w histories flow (key.Open flow) → BeforeOpen w k first state

-- ---- after it
-- Once a flow's Open is decided no call adds data of its client's to what an instance holds of it, so that no offset of such
-- data counts any more: what is held stays as it is, or is dropped.
abbrev pub NothingIsAdded : World → (ℕ → List Call) → Type 0
NothingIsAdded w histories =
    (g i : ℕ) (flow : Flow) (r : Record) (before later : List Call) (c : Call) → g < w.setup.shards → histories g ≡ before ++ c ∷ later
    → Decides (log_after w.setup g (before ++ c ∷ [])) (key.Open flow) r
    → let was = held_of (desk_at (bench_after w.setup g before).desks i).held flow in
    let now = held_of (desk_at (bench_after w.setup g (before ++ c ∷ [])).desks i).held flow in
    (now ≡ was) ⊎ (now ≡ [])
