-- What one end of a connection has (RFC 9293, 3.3.1 has the like in its send and receive variables). Positions are
-- counted without end: the SYN stands at 0, the byte at offset o of a stream at o + 1, the close behind the last byte.
use Rattle.std.specs.Prelude.{ℕ, ◌+◌, ◌==◌, ◌&&◌, Bool, true, false, if◌then◌else◌, List, [], ◌++◌, length, Option, Some, None}
use Rattle.seq_space.specs.declared.Num.{Num}

pub record EndState : Type 0 where
  -- the first number of its own stream (ISS)
  pub first : Num
  -- the bytes of its own stream, and whether there are no more
  pub written : List ℕ
  pub closed : Bool
  -- the highest acknowledged position, which is the lowest one that is not acknowledged (SND.UNA)
  pub acked : ℕ
  -- the first number of the peer's stream, once it is known (IRS)
  pub peer : Option Num
  -- the bytes of the peer's stream, and whether its close was seen
  pub received : List ℕ
  pub saw_close : Bool
  -- it was aborted, or the peer reset the connection
  pub dead : Bool

-- an end that opens a connection
abbrev pub client_end : Num → EndState
client_end first = record { first = first; written = []; closed = false; acked = 0; peer = None; received = []; saw_close = false; dead = false }

-- an end that has taken the peer's SYN
abbrev pub server_end : Num → Num → EndState
server_end first peer = record { first = first; written = []; closed = false; acked = 0; peer = Some peer; received = []; saw_close = false; dead = false }

-- the position behind a stream: behind its last byte, or behind its close
abbrev pub stream_end : List ℕ → Bool → ℕ
stream_end written closed = length written + (if closed then 2 else 1)

-- the position that is expected next of the peer whose SYN was taken
abbrev pub expected : EndState → ℕ
expected e = stream_end e.received e.saw_close

abbrev pub next_expected_of : Option Num → EndState → ℕ
next_expected_of None e = 0
next_expected_of (Some peer) e = expected e

-- the position that is expected next (RCV.NXT), which is that of the peer's SYN while the peer is not known
abbrev pub next_expected : EndState → ℕ
next_expected e = next_expected_of e.peer e

abbrev pub written_more : EndState → List ℕ → EndState
written_more e bytes = record e { written = e.written ++ bytes }

abbrev pub closed_end : EndState → EndState
closed_end e = record e { closed = true }

abbrev pub dead_end : EndState → EndState
dead_end e = record e { dead = true }

-- the close of its own stream is acknowledged
abbrev pub is_close_acknowledged : EndState → Bool
is_close_acknowledged e = e.closed && e.acked == length e.written + 2
