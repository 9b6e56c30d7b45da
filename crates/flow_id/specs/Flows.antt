-- A flow as bytes: its service, address, port and life, in network byte order.
use Rattle.std.specs.Prelude.{ℕ, List, ◌++◌}
use Rattle.byteorder.specs.Endian.{big_bytes}
use Rattle.common.specs.Fields.{field}
use Rattle.flow_id.specs.declared.key.Flow.{Flow}

-- the ten bytes of a flow
abbrev pub flow_bytes : Flow → List ℕ
flow_bytes flow = big_bytes 2 flow.service ++ big_bytes 4 flow.address ++ big_bytes 2 flow.port ++ big_bytes 2 flow.life

-- the flow whose bytes these begin with
abbrev pub flow_of : List ℕ → Flow
flow_of bytes = record { service = field 0 2 bytes; address = field 2 4 bytes; port = field 6 2 bytes; life = field 8 2 bytes }
