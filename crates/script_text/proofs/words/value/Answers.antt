use Rattle.std.proofs.Common.{◌+◌, ◌*◌, ◌-◌, ◌<◌, ◌≤◌, ◌≡◌, ◌∙◌, length, drop, get_or, arith, length-drop, sym}
use Rattle.script_text.specs.Words.{cut}
use Rattle.script_text.proofs.WordLemmas.{number-step, number-end}
use Rattle.script_text.proofs.words.value.Goals as goal

pub loop-digit-preserved : goal.loop-digit-preserved
loop-digit-preserved c =
    let digits = c.args.digits.now in
    let i = c.loop-digit.digit-index in
    let inside : i < length digits = omega arith in
    let same : cut 32 c.saturating_add-value.result ≡ cut 32 (c.loop-digit.value * 10 + (get_or digits i 0 - 48)) = omega arith in
    record {
      counted = number-step c.loop-digit.value c.saturating_add-value.result digits i inside same ∙ c.loop-digit.invariant.counted;
      fits = omega arith;
    }

pub returns : goal.returns
returns c =
    let i = c.loop-digit.digit-index in
    let none : length (drop i c.args.digits.now) ≤ 0 = omega (arith, length-drop i c.args.digits.now) in
    sym (number-end c.loop-digit.value (drop i c.args.digits.now) none c.loop-digit.invariant.fits)
    ∙ c.loop-digit.invariant.counted
