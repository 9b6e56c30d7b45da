-- A segment that was sent: by whom, and which positions it truly stands at and acknowledges, where a stream tells it.
use Rattle.std.specs.Prelude.{None}
use Rattle.tcp_segment.specs.declared.segment.Segment.{Segment}
pub use Rattle.world_model.specs.declared.posted.Posted.{Posted}
pub use Rattle.world_model.specs.declared.posted.Sender.{Sender}
pub use Rattle.world_model.specs.declared.posted.Sender.TheVariants.{End as end, Balancer as balancer, Stranger as stranger}

-- a segment that stands nowhere: a reset, or one of a flow that is no honest client's
abbrev pub nowhere : Sender → Segment → Posted
nowhere by segment = record { segment = segment; by = by; position = None; acknowledged = None }
