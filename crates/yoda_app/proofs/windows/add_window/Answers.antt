use Rattle.std.proofs.Common.{◌≡◌, ℕ, ◌+◌, ◌<◌, ◌≤◌, ◌⊎◌, inl, inr, Bool, true, false, not, List, length, sym, ap, subst, ◌∙◌, Some, arith, rules}
use Rattle.std.proofs.lemmas.Grind.{common_steps}
use Rattle.std.specs.String.{string_bytes}
use Rattle.pcap_file.specs.Capture.{settings_of}
use Rattle.pcap_file.specs.declared.capture.PcapFault.{PcapFault}
use Rattle.plain_run.specs.declared.fault.LoadFault.TheVariants.{Trace}
use Rattle.yoda_app.specs.Walks.{EndsAt}
use Rattle.yoda_app.specs.Windows.{placed, is_cut}
use Rattle.yoda_app.specs.declared.windows.End.TheVariants.{Whole, Stopped}
use Rattle.yoda_app.proofs.Judged.{whole_judged, stopped_judged}
use Rattle.yoda_app.proofs.Windowed.{cut_short}
use Rattle.yoda_app.proofs.windows.add_window.Goals as goal
use Rattle.yoda_app.proofs.windows.add_window.Goals.{then-is_last-2-via-then-is_last-2, then-is_last-2-via-else-is_last-2+then-not-is_cut, in-Whole+else-is_last, in-Stopped+else-is_last-2+else-not-is_cut}

pub returns-then-is_last : goal.returns-then-is_last
returns-then-is_last c = λ trace turn.
    let walk = c.in_ok-walk.walk in
    whole_judged trace c.args.by c.args.window.now c.args.is_last (string_bytes c.args.text.now) (string_bytes c.add_frames.new.text) c.args.first walk.frames walk.place turn
    c.in-Ok.ensures.fault c.in_ok-walk.ensures.past (c.in_ok-walk.ensures.lines trace c.args.by turn.shows turn.before) (rw c.in-Whole.is at c.in_ok-walk.ensures.end) c.if-is_last.true

pub returns-then-is_last-2 : goal.returns-then-is_last-2
returns-then-is_last-2 c = λ trace turn.
    let walk = c.in_ok-walk.walk in
    let fault = c.in-Stopped.fault in
    let final : (c.args.is_last ≡ true) ⊎ (is_cut fault ≡ false) = elim c.then-is_last-2.branch [
      | then-is_last-2-via-then-is_last-2 w ↦ inl w.if-is_last-2.true
      | then-is_last-2-via-else-is_last-2+then-not-is_cut w ↦ inr (sym w.is_cut.ensures ∙ w.if-not-is_cut.true)
    ] in
    stopped_judged trace c.args.by c.args.window.now c.args.is_last (string_bytes c.args.text.now) (string_bytes c.add_frames.new.text) c.args.first walk.frames walk.place turn
    c.in-Ok.ensures.fault c.in_ok-walk.ensures.past (c.in_ok-walk.ensures.lines trace c.args.by turn.shows turn.before) fault (rw c.in-Stopped.is at c.in_ok-walk.ensures.end) final
    ∙ ap (λ (f : PcapFault). Some (Trace f)) (sym c.placed-fault.ensures)

pub returns : goal.returns
returns c =
    let walk = c.in_ok-walk.walk in
    let window = c.args.window.now in
    let ends : (walk.frames ≤ 262144) × (24 < walk.place) = elim c.match-walk.branch [
      | in-Whole+else-is_last w ↦
          (let end : EndsAt window walk.frames walk.place Whole = (rw w.in-Whole.is at c.in_ok-walk.ensures.end) in
          let long = c.requires.full w.if-is_last.false in
          let few : walk.frames ≤ 262144 = end.0 in
          let all : walk.place ≡ length window = end.1 in
          (few, omega arith))
      | in-Stopped+else-is_last-2+else-not-is_cut w ↦
          (let end : EndsAt window walk.frames walk.place (Stopped w.in-Stopped.fault) = (rw w.in-Stopped.is at c.in_ok-walk.ensures.end) in
          let long = c.requires.full w.if-is_last-2.false in
          let few : walk.frames ≤ 262144 = end.0 in
          let cut : is_cut w.in-Stopped.fault ≡ true = sym w.is_cut.ensures ∙ w.if-not-is_cut.false in
          let short : length window < walk.place + 16 + 262144 = cut_short (settings_of window) walk.place window w.in-Stopped.fault end.1 cut in
          (few, omega arith))
    ] in
    (ends.0, ends.1, c.in_ok-walk.ensures.inside, λ trace turn. c.in_ok-walk.ensures.lines trace c.args.by turn.shows turn.before)
