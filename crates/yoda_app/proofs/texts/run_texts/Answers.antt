use Rattle.std.proofs.Common.{◌≡◌, ℕ, List, [], ◌∷◌, ◌++◌, length, sym, ap, ◌∙◌}
use Rattle.std.specs.String.{string_bytes}
use Rattle.bench.specs.Blocks.{history}
use Rattle.pcap_file.specs.Frames.{capture_of}
use Rattle.plain_run.specs.Fold.{run_calls}
use Rattle.report_text.specs.Reports.{last_text}
use Rattle.yoda_app.specs.Outs.{sent_records, outs_text}
use Rattle.yoda_app.specs.Reports.{report_lines, report_text}
use Rattle.pcap_file.specs.Written.{header_bytes}
use Rattle.yoda_app.specs.Spliced.{text_from, text_of}
use Rattle.yoda_app.specs.declared.spliced.Splice.{Splice}
use Rattle.yoda_app.specs.Texts.{AddsRun}
use Rattle.yoda_app.proofs.texts.run_texts.Goals as goal

pub returns-clause-plain : goal.returns-clause-plain
returns-clause-plain c =
    let inputs = c.args.inputs.now in
    let frames = (capture_of inputs.trace).frames in
    let texts = c.add_run.new.texts in
    let sent = c.in_ok-sent.sent in
    let a : AddsRun inputs c.in_ok-texts.texts texts sent = c.in_ok-sent.ensures.adds in
    let begun = c.in_ok-texts.texts.out in
    let first : text_of inputs.trace begun ≡ header_bytes =
    ap (λ (splices : List Splice). text_from inputs.trace begun.own.items 0 splices) c.in_ok-texts.ensures.none ∙ c.in_ok-texts.ensures.own in
    let out : text_of inputs.trace texts.out ≡ outs_text frames a.outs = a.out ∙ ap (λ (x : List ℕ). x ++ sent_records frames a.outs) first in
    let told : string_bytes texts.report ≡ report_lines 0 a.lines = a.report ∙ ap (λ (x : List ℕ). x ++ report_lines 0 a.lines) c.in_ok-texts.ensures.report in
    let counts : last_text (length a.lines) (length a.outs) ≡ last_text inputs.records sent = λ i. last_text (a.records i) (a.sent i) in
    let report : string_bytes c.add_end.new.report ≡ report_text a.lines a.outs =
    c.in_ok-add_end.ensures ∙ ap (λ (x : List ℕ). x ++ last_text inputs.records sent) told ∙ ap (λ (x : List ℕ). report_lines 0 a.lines ++ x) (sym counts) in record {
      lines = a.lines;
      outs = a.outs;
      run = a.run;
      are = λ i. out i ∷ report i ∷ [];
      laws = c.plain_laws.ensures inputs c.requires c.known.ensures c.known-2.ensures a.lines;
      headline = c.headline.ensures inputs.setup (λ shard. history shard (run_calls inputs a.lines)) c.known.ensures;
    }
