use Rattle.std.proofs.Common.{◌≡◌, ℕ, ◌+◌, ◌-◌, ◌≤◌, min, length, arith, rules}
use Rattle.std.proofs.lemmas.Slice.{take-put_mid_below}
use borrow.Rule.Slice.PartMut.{put_mid, post_of}
use Rattle.yoda_app.proofs.Filled.{refilled}
use Rattle.yoda_app.proofs.filling.refill.Goals as goal

pub returns-in_err-filled-clause-head : goal.returns-in_err-filled-clause-head
returns-in_err-filled-clause-head g c =
    take-put_mid_below 24 (c.min-room.result - 24) c.args.window.now c.fill.new.room 24 (omega arith) (omega arith)

pub returns-clause-head : goal.returns-clause-head
returns-clause-head g c =
    take-put_mid_below 24 (c.min-room.result - 24) c.args.window.now c.fill.new.room 24 (omega arith) (omega arith)

pub returns-clause-bytes : goal.returns-clause-bytes
returns-clause-bytes g c = λ content told sized.
    let room = c.min-room.result in
    let is = c.in_ok-filled.ensures.bytes content told in
    let all = is.all in
    let whole : length (put_mid 24 (room - 24) c.args.window.now c.fill.new.room) ≡ length c.args.window.now = search rules in
    record {
      body = refilled content c.args.window.now c.fill.new.room (post_of 24 (room - 24) c.args.window.now) c.args.by c.in_ok-filled.filled (omega arith) (omega arith) is.bytes;
      all = omega arith;
    }
