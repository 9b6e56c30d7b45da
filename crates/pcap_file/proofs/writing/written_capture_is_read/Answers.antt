use Rattle.pcap_file.proofs.Again.{capture-again}
use Rattle.pcap_file.proofs.writing.written_capture_is_read.Goals as goal

pub returns : goal.returns
returns c = capture-again
