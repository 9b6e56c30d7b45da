use Rattle.std.proofs.Common.{◌+◌, ◌*◌, ◌-◌, ◌<◌, ◌≤◌, ◌^◌, length, drop, get_or, refl, ◌∙◌, arith}
use Rattle.yoda_app.proofs.Numbers.{number_least, number_step}
use Rattle.yoda_app.proofs.drive_words.value.Goals as goal

pub returns-in_err-number-clause-none : goal.returns-in_err-number-clause-none
returns-in_err-number-clause-none c _ =
    let digits = c.args.digits.now in
    let i = c.loop-digit.digit-index in
    let v = c.loop-digit.number in
    let inside : i < length digits = omega arith in
    let large : 2 ^ 64 ≤ v * 10 + (get_or digits i 0 - 48) = c.in_err-number.ensures.none refl in
    omega (arith, large, number_least (v * 10 + (get_or digits i 0 - 48)) (drop (i + 1) digits), number_step v digits i inside ∙ c.loop-digit.invariant)
