-- Segments to send, and the room for more of them.
use Rattle.std.specs.Prelude.{ℕ, List}
use Rattle.tcp_segment.specs.declared.segment.Segment.{Segment}

-- the segments in the order in which they are sent, and for how many more there is room
pub record OutsView : Type 0 where
  pub list : List Segment
  pub spare : ℕ

-- these segments, and no room for more
abbrev pub outs_of : List Segment → OutsView
outs_of segments = record { list = segments; spare = 0 }
