use Rattle.std.proofs.Common.{ℕ, List, ap}
use Rattle.pcap_file.specs.Frames.{Capture, capture_of}
use Rattle.yoda_app.proofs.texts.add_run.Goals as goal

pub returns-in-Err : goal.returns-in-Err
returns-in-Err c =
    let refused = ap (λ (x : Capture). x.fault) c.in-Err.ensures.refused in
    let same = ap (λ (bytes : List ℕ). (capture_of bytes).fault) c.as_slice.ensures in
    absurd cc
