use Rattle.std.proofs.Common.{◌≡◌, arith, sym, ◌∙◌, Some}
use Rattle.http_head.specs.Reading.{reading}
use Rattle.http_head.specs.Fields.{fields_of, cookies_of}
use Rattle.http_head.proofs.PieceLemmas.{pair_is_piece}
use Rattle.rule_table.specs.Index.{found_at}
use Rattle.rule_table.proofs.IndexLemmas.{met_is_cookie}
use Rattle.rule_table.proofs.cookies.Cookies.has.Goals as goal

pub returns-in-Some : goal.returns-in-Some
returns-in-Some c =
    let rules = c.args.rules.now in
    let slots = c.args.self.now.slots in
    let cookie = c.args.cookie.now in
    let number = c.in-Some.number in
    let found : found_at rules slots cookie ≡ Some number =
    rw (← c.as_slice.ensures) (sym c.in-Some.ensures.found) in
    c.requires.cookies.met number (omega (arith, c.in-Some.ensures.rule, c.requires.few))
    ∙ met_is_cookie rules slots cookie number found (cookies_of (reading c.args.bytes.now))
    ∙ sym (pair_is_piece cookie (fields_of (reading c.args.bytes.now)))
