use Rattle.std.proofs.Common.{◌≡◌, ◌<◌, ◌+◌, ◌≢◌, ℕ, false, length, sym, ◌∙◌, ap, subst, arith, refl, eq-eqb, ne_eqb}
use Rattle.run_threads.specs.Handles.{AreHandles, AreOpen, IsHandle, IsOpen}
use Rattle.run_threads.specs.Owners.{IsOneOf}
use Rattle.run_threads.specs.Served.{is_record}
use Rattle.run_threads.proofs.Feeding.{worker_owns, nobody_owns}
use Rattle.run_threads.proofs.Handles.{handles_set, handles_fed, handles_passed, open_set}
use Rattle.run_threads.proofs.run.feed_all.Goals.{in-Worker, in-Nobody}
use Rattle.run_threads.proofs.run.feed_all.Goals as goal

pub feed-fed-requires-clause-own : goal.feed-fed-requires-clause-own
feed-fed-requires-clause-own g c =
    let inputs = c.args.inputs.now in
    let item = c.loop-item.item in
    let t = c.loop-item-test.true in
    let whole = c.requires.inputs.records ∙ sym (ap length c.requires.inputs.frames) in
    let worker = c.in-Worker.worker in
    worker_owns inputs c.args.owners.now c.requires.owners item (omega (arith, t, whole)) worker worker _ (sym c.in-Worker.is) ∙ eq-eqb worker worker refl

pub loop-item-preserved : goal.loop-item-preserved
loop-item-preserved g c =
    let inputs = c.args.inputs.now in
    let locks = c.args.locks.now in
    let owners = c.args.owners.now in
    let are = c.requires.owners in
    let item = c.loop-item.item in
    let old = c.loop-item.handles in
    let inv = c.loop-item.invariant in
    let t = c.loop-item-test.true in
    let whole = c.requires.inputs.records ∙ sym (ap length c.requires.inputs.frames) in
    let inside : item < length inputs.frames = omega (arith, t, whole) in
    elim c.match-owners-item.branch [
      | in-Worker w ↦
          let worker = w.in-Worker.worker in
          let is = w.in-Worker.is in
          let within : worker < inputs.setup.instances = subst (IsOneOf inputs.setup.instances) is (are.there item _ inside) in
          let others : (v : ℕ) → worker ≢ v → is_record inputs v item ≡ false = λ v apart. worker_owns inputs owners are item inside v worker _ (sym is) ∙ ne_eqb worker v apart in
          let none = w.replace-handle.ensures.after in
          let left = handles_set inputs locks item worker old w.replace-handle.new.dest inv.handles within (subst (IsHandle inputs worker item locks) (sym none) tt) in
          let open_left = open_set worker old w.replace-handle.new.dest inv.open_ones (subst IsOpen (sym none) tt) in
          let put = w.handles-is ∙ w.put.ensures in record {
            handles = subst (AreHandles inputs (item + 1) locks) (sym put) (handles_fed inputs locks item worker _ _ left inside within others w.feed-fed.ensures.handle);
            open_ones = subst AreOpen (sym put) (open_set worker _ _ open_left w.feed-fed.ensures.open);
          }
      | in-Nobody w ↦
          let others : (v : ℕ) → is_record inputs v item ≡ false = λ v. nobody_owns inputs owners are item inside v w.in-Nobody.field-0 _ (sym w.in-Nobody.is) in record {
            handles = subst (AreHandles inputs (item + 1) locks) (sym w.handles-is) (handles_passed inputs locks item old inv.handles inside others);
            open_ones = subst AreOpen (sym w.handles-is) inv.open_ones;
          }
    ]
