-- What SHA-256 (FIPS 180-4) gives for a flow, all numbers in network byte order.
use Rattle.std.specs.Prelude.{ℕ, List, ◌++◌}
use Rattle.byteorder.specs.Endian.{big_bytes}
use Rattle.sha2.specs.Sha256.{sha256}
use Rattle.common.specs.Fields.{field}
use Rattle.flow_id.specs.Flows.{flow_bytes}
use Rattle.flow_id.specs.declared.hash.Marks.{Marks}
use Rattle.flow_id.specs.declared.key.Flow.{Flow}

-- what is hashed for a flow
abbrev pub message : List ℕ → Flow → List ℕ
message secret flow = secret ++ flow_bytes flow

-- the marks of a flow
abbrev pub marked : List ℕ → Flow → Marks
marked secret flow = record { forged = field 0 4 (sha256 (message secret flow)); first = field 4 4 (sha256 (message secret flow)) }

-- the draw of an instance for a flow
abbrev pub drawn : List ℕ → Flow → ℕ → ℕ
drawn secret flow instance = field 0 8 (sha256 (message secret flow ++ big_bytes 2 instance))
