use Rattle.ipv4.proofs.Again.{packet-again}
use Rattle.ipv4.proofs.writing.written_packet_is_read.Goals as goal

pub returns : goal.returns
returns c = packet-again
