use Rattle.std.proofs.Common.{◌≡◌, ◌++◌, ◌∷◌, [], List}
use Rattle.tcp_segment.specs.declared.segment.Segment.{Segment}
use Rattle.run_threads.proofs.Taken.{popped_rest}
use Rattle.run_threads.proofs.Turned.{turned_more}
use Rattle.run_threads.proofs.made.add_turned.Goals as goal

pub loop-out-preserved : goal.loop-out-preserved
loop-out-preserved c =
    let all : List Segment = c.args.outs.list in
    let rest : List Segment = c.loop-out.left.items in
    let now : List Segment = c.pop.new.self.items in
    let popped : rest ≡ now ++ c.in-Some.out ∷ [] = c.in-Some.ensures.items in
    let inv = c.loop-out.invariant in record {
      rest = popped_rest all rest now c.in-Some.out inv.rest popped;
      added = turned_more c.args.item all rest now c.in-Some.out c.args.sent.now.items c.loop-out.sent.items c.push.new.self.items inv.rest popped inv.added c.in_ok-push.ensures.items;
    }
