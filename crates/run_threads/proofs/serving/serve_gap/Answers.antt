use Rattle.std.proofs.Common.{◌+◌, []}
use Rattle.run_threads.proofs.Served.{goes_both}
use Rattle.run_threads.proofs.serving.serve_gap.Goals as goal

pub loop-item-preserved : goal.loop-item-preserved
loop-item-preserved g c = record {
  crew = c.serve_record.ensures.crew;
  named = λ base so. c.serve_record.ensures.named base (c.loop-item.invariant.named base so);
  goes = goes_both c.args.inputs.now c.args.worker c.args.locks.now c.args.from c.loop-item.item (c.loop-item.item + 1) [] [] c.args.seats.now c.loop-item.seats c.serve_record.new.seats
      c.args.made.now c.loop-item.made c.serve_record.new.made c.loop-item.invariant.goes c.in_ok-serve_record.ensures.goes_on;
}
