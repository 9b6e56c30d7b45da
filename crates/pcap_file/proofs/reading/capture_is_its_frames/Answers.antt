use Rattle.std.proofs.Common.{refl}
use Rattle.common.specs.Faults.{first}
use Rattle.pcap_file.specs.Capture.{header_faults}
use Rattle.pcap_file.proofs.Walks.{opened-spelled, opened-only}
use Rattle.pcap_file.proofs.reading.capture_is_its_frames.Goals as goal

pub returns-clause-spelled : goal.returns-clause-spelled
returns-clause-spelled c = λ bytes. opened-spelled (first (header_faults bytes)) bytes refl

pub returns-clause-only : goal.returns-clause-only
returns-clause-only c = λ bytes c' is. opened-only (first (header_faults bytes)) bytes c' is
