use Rattle.std.proofs.Common.{◌≡◌, ◌≤◌, ◌∙◌, ℕ, ap, arith, max}
use Rattle.bench.proofs.rooms.add_rooms.Goals as goal

-- where a count from here on to there ends
counted : (before at count : ℕ) → before ≤ at → (before ≤ count → at ≤ count) → count ≤ at → (count ≤ before → at ≡ before) → at ≡ max before count
counted before at count from until past alone = grind arith

pub returns-clause-count : goal.returns-clause-count
returns-clause-count c =
    let kept = c.loop-room.invariant in
    kept.1 ∙ counted c.len-before.result c.loop-room._room c.args.count c.loop-room.auto._room c.loop-room.auto._room-end c.loop-room-test.false kept.3
    ∙ ap (λ n. max n c.args.count) kept.2
