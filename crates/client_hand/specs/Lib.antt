pub mod SynAck
