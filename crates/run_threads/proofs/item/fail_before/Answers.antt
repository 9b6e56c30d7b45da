use Rattle.std.proofs.Common.{◌+◌, List, take, get_or, subst}
use Rattle.std.specs.List.{flat_map}
use Rattle.script_text.specs.declared.line.Line.{Line as ScriptLine}
use Rattle.bench.specs.Blocks.{CallAt}
use Rattle.run_threads.specs.Crews.{CrewMakes}
use Rattle.run_threads.specs.Items.{failing, fails_of}
use Rattle.run_threads.proofs.Crews.{made_more, flat_take}
use Rattle.run_threads.proofs.item.fail_before.Goals as goal

pub loop-line-preserved : goal.loop-line-preserved
loop-line-preserved g c =
    let calls : ScriptLine → List CallAt = λ line. fails_of c.args.setup.now (failing c.args.setup.now c.args.worker c.args.item line) in
    let lines = c.args.lines.now in
    let n = c.loop-line.line-index in record {
      made = made_more c.args.setup.now c.args.locks.now c.args.seats.now c.loop-line.seats c.fail_if.new.seats (flat_map calls (take n lines)) (calls (get_or lines n _)) (flat_map calls (take (n + 1) lines))
          c.loop-line.invariant.made (subst (λ r. CrewMakes c.args.locks.now c.loop-line.seats c.fail_if.new.seats (fails_of c.args.setup.now r)) c.failing.ensures c.in_ok-fail_if.ensures.made) (flat_take calls lines n _ c.loop-line-test.true);
      crew = c.fail_if.ensures.crew;
      named = λ i base so. c.fail_if.ensures.named i base (c.loop-line.invariant.named i base so);
    }

pub returns-in_err-fail_if-clause-named : goal.returns-in_err-fail_if-clause-named
returns-in_err-fail_if-clause-named g c i base so = c.fail_if.ensures.named i base (c.loop-line.invariant.named i base so)
