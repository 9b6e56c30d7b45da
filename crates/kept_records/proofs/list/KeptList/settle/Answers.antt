use Rattle.std.proofs.Common.{◌≡◌, ◌≤◌, length, sym, ◌∙◌, arith}
use Rattle.std.proofs.lemmas.List.{take_all}
use Rattle.kept_records.proofs.Distinct.{settled, none_last}
use Rattle.kept_records.proofs.list.KeptList.settle.Goals as goal

pub returns-in-Some : goal.returns-in-Some
returns-in-Some c =
    let es = c.self.inside.cache.entries in
    let len = c.len.ensures.len in
    let most = c.len.ensures.valid.1 in
    let cap = c.self.invariant.0 in
    let above = c.if-len-le-ENTRY_LIMIT.false in
    let long : length es ≡ 257 = omega (arith, len, most, cap, above) in
    c.forget.ensures ∙ rw (← c.self.view_is) (settled es 256 c.in-Some.flow c.len.ensures.valid.0 long (sym c.last_flow.ensures ∙ c.in-Some.is))

pub returns-then-len-le-ENTRY_LIMIT : goal.returns-then-len-le-ENTRY_LIMIT
returns-then-len-le-ENTRY_LIMIT c =
    let es = c.self.inside.cache.entries in
    let len = c.len.ensures.len in
    let few = c.if-len-le-ENTRY_LIMIT.true in
    let short : length es ≤ 256 = omega (arith, len, few) in
    rw (← c.self.view_is) (sym (take_all 256 es short))

pub returns-in-None : goal.returns-in-None
returns-in-None c = rw (← c.self.view_is) (none_last c.self.inside.cache.entries 256 (sym c.last_flow.ensures ∙ c.in-None.is))
