use Rattle.std.proofs.Common.{ap, sym, ◌∙◌}
use Rattle.std.proofs.lemmas.Bool.{both_ways}
use Rattle.http_head.specs.Fields.{is_complete}
use Rattle.http_head.specs.Lines.{lines_of}
use Rattle.http_head.proofs.ReadingLemmas.{without_head_is_incomplete}
use Rattle.http_head.proofs.cookie.fields_of.Goals as goal

pub unreachable-requires : goal.unreachable-requires
unreachable-requires c =
    both_ways _ (without_head_is_incomplete (lines_of c.args.bytes.now)) (ap is_complete (sym c.in-None.ensures.none) ∙ c.requires.reads)
