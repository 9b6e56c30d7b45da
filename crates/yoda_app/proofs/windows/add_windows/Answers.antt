use Rattle.std.proofs.Common.{◌≡◌, ℕ, ◌+◌, ◌-◌, ◌≤◌, ◌<◌, Bool, List, take, length, sym, ◌∙◌, subst, arith, rules, length-take}
use Rattle.std.proofs.lemmas.List.{length-take-le}
use Rattle.std.specs.String.{string_bytes}
use Rattle.plain_run.specs.Judgement.{trace_refusal}
use Rattle.plain_run.specs.declared.fault.LoadFault.{LoadFault}
use Rattle.std.specs.Prelude.{Some}
use Rattle.yoda_app.specs.Walks.{IsUpTo, IsTurn, Holds}
use Rattle.yoda_app.specs.Windows.{IsShown}
use Rattle.yoda_app.proofs.Judged.{found_then}
use Rattle.yoda_app.proofs.Lines.{up_to_first}
use Rattle.yoda_app.proofs.Turns.{shown_first, shown_next, turn_of}
use Rattle.yoda_app.proofs.windows.add_windows.Goals as goal

pub loop-more-init : goal.loop-more-init
loop-more-init g c = record {
  sized = search rules;
  within = search rules;
  inside = omega (arith, c.in_ok-filled.ensures.within);
  few = omega arith;
  shown = λ trace holds. shown_first trace c.fill.new.room c.in_ok-filled.filled (omega (arith, holds.sized)) (c.in_ok-filled.ensures.bytes trace holds.told);
  lines = λ trace holds. subst (λ (t : List ℕ). IsUpTo trace t 0 24) (sym c.requires.empty) (up_to_first trace);
  same = search rules;
  counts = search rules;
  stays = search rules;
}

pub add_window-requires-clause-full : goal.add_window-requires-clause-full
add_window-requires-clause-full g c = λ more.
    let now = c.loop-more in
    let tells = c.is_last-is_last.ensures in
    let not_last = tells.more more in
    let all = not_last.0 in
    let before = not_last.1 in
    let long = length-take-le now.filled now.window now.invariant.within in
    omega arith

pub loop-more-preserved : goal.loop-more-preserved
loop-more-preserved g c =
    let now = c.loop-more in
    let held = g.H.Shelf.content c.args.shelf.now c.args.name.now in
    let is_last = c.is_last-is_last.result in
    let tells = c.is_last-is_last.ensures in
    let turn : (trace : List ℕ) → Holds trace held c.args.size → IsTurn trace now.by (take now.filled now.window) is_last (string_bytes now.text) now.frames =
    λ trace holds. turn_of trace now.window (string_bytes now.text) held c.args.size now.by now.filled now.frames is_last holds c.requires.fits now.invariant.inside
    now.invariant.within (now.invariant.shown trace holds) (now.invariant.lines trace holds) tells.last in
    let given = (rw c.in-Next.is at c.in_ok-more.ensures) in
    let few : c.in-Next.more ≤ 262144 = given.0 in
    let past : 24 < c.in-Next.place = given.1 in
    let inside : c.in-Next.place ≤ length (take now.filled now.window) = given.2 in
    let long = length-take-le now.filled now.window now.invariant.within in
    let next = c.in_ok-filled-in-Next in
    let by : ℕ = now.by + (c.in-Next.place - 24) in
    let before_end : by + next.filled ≤ c.args.size = next.ensures.inside in
    record {
      sized = search rules;
      within = omega (arith, next.ensures.within);
      inside = before_end;
      few = few;
      shown = λ trace holds. shown_next trace now.by by now.window c.refill.new.window now.filled next.filled (now.invariant.shown trace holds).shows (omega arith) now.invariant.within
          next.ensures.begins (omega (arith, next.ensures.within)) c.refill.ensures.head (omega (arith, holds.sized))
          (next.ensures.bytes trace (now.invariant.same c.args.name.now ∙ holds.told) holds.sized);
      lines = λ trace holds. subst (λ (p : ℕ). IsUpTo trace (string_bytes c.add_window.new.text) c.in-Next.more p) (omega arith) (given.3 trace (turn trace holds));
      same = search rules;
      counts = search rules;
      stays = search rules;
    }

pub returns-in-Accepted-clause-dumped : goal.returns-in-Accepted-clause-dumped
returns-in-Accepted-clause-dumped g c =
    let now = c.loop-more in
    let held = g.H.Shelf.content c.args.shelf.now c.args.name.now in
    let is_last = c.is_last-is_last.result in
    let tells = c.is_last-is_last.ensures in
    λ trace holds. (rw c.in-Accepted.is at c.in_ok-more.ensures) trace
    (turn_of trace now.window (string_bytes now.text) held c.args.size now.by now.filled now.frames is_last holds c.requires.fits now.invariant.inside
    now.invariant.within (now.invariant.shown trace holds) (now.invariant.lines trace holds) tells.last)

pub returns-in-Refused-clause-dumped : goal.returns-in-Refused-clause-dumped
returns-in-Refused-clause-dumped g c =
    let now = c.loop-more in
    let held = g.H.Shelf.content c.args.shelf.now c.args.name.now in
    let is_last = c.is_last-is_last.result in
    let tells = c.is_last-is_last.ensures in
    found_then (λ f. (trace : List ℕ) → IsTurn trace now.by (take now.filled now.window) is_last (string_bytes now.text) now.frames → trace_refusal trace ≡ Some f)
    (λ f. (trace : List ℕ) → Holds trace held c.args.size → trace_refusal trace ≡ Some f)
    (λ f is trace holds. is trace (turn_of trace now.window (string_bytes now.text) held c.args.size now.by now.filled now.frames is_last holds c.requires.fits now.invariant.inside
    now.invariant.within (now.invariant.shown trace holds) (now.invariant.lines trace holds) tells.last))
    c.in-Refused.fault (rw c.in-Refused.is at c.in_ok-more.ensures)
