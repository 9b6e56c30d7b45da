use Rattle.std.proofs.Common.{ℕ, List, sym, subst, ◌∙◌}
use Rattle.std.specs.List.{AllByRecursion}
use Rattle.pcap_file.specs.Frames.{capture_of}
use Rattle.pcap_file.specs.declared.capture.Frame.{Frame}
use Rattle.tcp_segment.specs.declared.segment.Segment.{Segment}
use Rattle.yoda_app.specs.Outs.{IsSentFrom, outs_text}
use Rattle.yoda_app.specs.Parts.{AreSpliced, parts_text}
use Rattle.yoda_app.proofs.run_texts.texts_left.Goals as goal

pub texts_of-requires-clause-sent : goal.texts_of-requires-clause-sent
texts_of-requires-clause-sent g c =
    let inputs = c.args.inputs.now in
    let frames = c.args.frames.now in
    let sent = c.as_slice-sent.result.now in
    λ lives within. subst (λ (trace : List ℕ). AllByRecursion (IsSentFrom trace frames) sent) (sym c.as_slice-trace.ensures)
    (subst (λ (fs : List Frame). AllByRecursion (IsSentFrom inputs.trace fs) sent) (sym c.requires.frames)
    (subst (λ (outs : List (ℕ × Segment)). AllByRecursion (IsSentFrom inputs.trace (capture_of inputs.trace).frames) outs) (sym c.as_slice-sent.ensures) c.requires.sent))

pub returns-clause-out : goal.returns-clause-out
returns-clause-out g c =
    (λ i. parts_text (sym c.as_slice-trace.ensures i) c.in_ok-texts.texts.out.items)
    ∙ c.in_ok-texts.ensures.out
    ∙ (λ i. outs_text (c.requires.frames i) (c.as_slice-sent.ensures i))

pub returns-clause-spliced : goal.returns-clause-spliced
returns-clause-spliced g c =
    subst (λ (trace : List ℕ). AreSpliced trace c.in_ok-texts.texts.out.items) c.as_slice-trace.ensures c.in_ok-texts.ensures.spliced
