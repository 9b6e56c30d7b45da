use Rattle.std.proofs.Common.{◌+◌, arith}
use Rattle.yoda_app.proofs.Places.{some_place}
use Rattle.yoda_app.proofs.outs_text.packet_at.Goals as goal

pub returns-in-Some-clause-is : goal.returns-in-Some-clause-is
returns-in-Some-clause-is c =
    let frame = c.args.frame.now in
    some_place c.args.trace.now frame.at (frame.at + frame.kept) (omega arith) c.requires frame.link c.in-Some.packet.now c.in-Some.ensures
