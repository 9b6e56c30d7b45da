use Rattle.std.proofs.Common.{◌≡◌, ◌<◌, ◌^◌, drop}
use Rattle.script_text.specs.Words.{cut, number_from}
use Rattle.script_text.proofs.words.value.Given as goal

abbrev pub invariant-loop-digit : goal.invariant-loop-digit
invariant-loop-digit l = record {
  counted : cut 32 (number_from l.value (drop l.digit-index l.digits)) ≡ cut 32 (number_from 0 l.digits);
  fits : l.value < 2 ^ 32;
}
