-- What is sent for records, each segment with the number of its record.
use Rattle.std.specs.Prelude.{◌≡◌, ℕ, ◌≤◌, List, ◌∷◌, [], ◌++◌, length, map, reverse}
use Rattle.bench.specs.declared.input.line.Line.{Line}
use Rattle.tcp_segment.specs.declared.segment.Segment.{Segment}
use Rattle.run_threads.specs.Outcomes.{OutcomeView}

-- what is sent for a record, each segment with the record's number
abbrev pub numbered_outs : ℕ → List Segment → List (ℕ × Segment)
numbered_outs item outs = map (λ out. (item, out)) outs

abbrev pub sent_of : ℕ × OutcomeView → List (ℕ × Segment)
sent_of made = numbered_outs made.0 made.1.outs

-- The last record was taken out of what was made of some: this is its line, and what is sent for it was added to a list, the
-- last segment first.
pub record TakesLast (old new : List (ℕ × OutcomeView)) (before after : List (ℕ × Segment)) (line : Line) : Type 0 where
  pub last : ℕ × OutcomeView
  pub split : old ≡ new ++ last ∷ []
  pub line_is : line ≡ last.1.line
  pub added : after ≡ before ++ reverse (sent_of last)
  pub few : length last.1.outs ≤ 11
