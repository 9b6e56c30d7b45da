-- A shift as it is read is a scale.
use Rattle.std.proofs.Common.{◌≡◌, ℕ, min, true, Option, Some, None, refl, arith}
use Rattle.std.proofs.lemmas.Bool.{le-leb}
use Rattle.flow_record.specs.Records.{is_scale}
use Rattle.tcp_segment.specs.OptionArea.{shift_of}

pub shift-is-scale : (scale : Option ℕ) → is_scale (shift_of scale) ≡ true
shift-is-scale None = refl
shift-is-scale (Some n) = le-leb (min n 14) 14 (omega arith)

pub ruleset scales = (shift-is-scale)
