-- Parts of a stream, and what it means that an end has received a stream.
use Rattle.std.specs.Prelude.{◌≡◌, ◌≤◌, ℕ, ◌+◌, ◌-◌, Bool, true, List, length, take, drop}
use Rattle.seq_space.specs.declared.Num.{Num}
use Rattle.seq_space.specs.Positions.{number_of}
use Rattle.tcp_segment.specs.Flags.{has_fin}
use Rattle.tcp_end.specs.EndState.{EndState}

-- the bytes are those of the stream from an offset on; there are none behind its end
abbrev pub IsSliceAt : List ℕ → ℕ → List ℕ → Type 0
IsSliceAt stream offset bytes = bytes ≡ take (length bytes) (drop offset stream)

abbrev pub IsPrefix : List ℕ → List ℕ → Type 0
IsPrefix bytes stream = bytes ≡ take (length bytes) stream

-- A segment with this number, these flags and this data shows a part of a stream from a position on, with a FIN only
-- where it reaches the stream's close.
pub record ShowsStream (first : Num) (stream : List ℕ) (closed : Bool) (position : ℕ) (seq : Num) (flags : ℕ) (body : List ℕ) : Type 0 where
  pub behind_syn : 1 ≤ position
  pub numbered : seq ≡ record { 0 = number_of first.0 position }
  pub bytes : IsSliceAt stream (position - 1) body
  pub fin : has_fin flags ≡ true → (closed ≡ true) × (position - 1 + length body ≡ length stream)

-- the end has received a prefix of the stream, and all of it where it saw the close, which then stands
pub record HasReceived (stream : List ℕ) (closed : Bool) (e : EndState) : Type 0 where
  pub bytes : IsPrefix e.received stream
  pub close : e.saw_close ≡ true → (closed ≡ true) × (e.received ≡ stream)
