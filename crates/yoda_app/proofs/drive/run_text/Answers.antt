use Rattle.std.proofs.Common.{ℕ, List, [], ◌∷◌, ◌∙◌, ap}
use Rattle.yoda_app.specs.DriveCommand.{summary_text}
use Rattle.yoda_app.proofs.drive.run_text.Goals as goal

pub returns : goal.returns
returns c = record {
  are = ap (λ (t : List ℕ). t ∷ []) (c.in_ok-text.ensures ∙ ap summary_text c.in_ok-summary.ensures.summary);
  reached = c.in_ok-summary.ensures.reached;
  agree = c.in_ok-summary.ensures.agree;
  backed = c.in_ok-summary.ensures.backed;
}
