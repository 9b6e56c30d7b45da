use Rattle.std.proofs.Common.{◌≤◌, ◌+◌, ◌∙◌, List, length, subst, sym, ap, arith}
use Rattle.seq_space.specs.declared.Num.{Num}
use Rattle.tcp_segment.specs.Written.{sack_length}
use Rattle.tcp_segment.specs.declared.options.Options.{Options}
use Rattle.tcp_segment.proofs.Lists.{list-found}
use Rattle.tcp_segment.proofs.Rooms.{area-room}
use Rattle.tcp_segment.proofs.options.options_among.Goals as goal
use Rattle.tcp_segment.proofs.options.options_among.Goals.{then-flags-eq1, else-flags-eq1}

pub returns-clause-room : goal.returns-clause-room
returns-clause-room c =
    let room = area-room c.args.area.now c.in_ok-found.found (list-found c.args.area.now c.in_ok-found.found (sym c.in_ok-found.ensures)) in
    elim c.if-flags-eq1.branch [
      | then-flags-eq1 w ↦ subst (λ (blocks : List (Num × Num)). sack_length blocks ≤ length c.args.area.now + 2) (sym (ap (λ (o : Options). o.sack) w.result-is ∙ w.none-then-flags-eq1.ensures)) (omega arith)
      | else-flags-eq1 w ↦ subst (λ (o : Options). sack_length o.sack ≤ length c.args.area.now + 2) (sym w.result-is) room
    ]
