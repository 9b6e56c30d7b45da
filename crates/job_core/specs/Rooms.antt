-- Room that is lent for what is sent, and what a move leaves of it.
use Rattle.std.specs.Prelude.{◌≡◌, ◌≤◌, []}
use Rattle.tcp_segment.specs.Sending.{OutsView, outs_of}
use Rattle.job_core.specs.declared.moves.HeldChange.{HeldChange}
use Rattle.job_core.specs.declared.moves.HeldChange.TheVariants as change
use Rattle.job_core.specs.declared.moves.Move.{Move}
use Rattle.job_core.specs.declared.moves.Next.{Next}
use Rattle.job_core.specs.declared.moves.Next.TheVariants as next
use Rattle.job_core.specs.declared.step.Step.{Step}
use Rattle.job_core.specs.declared.step.Step.TheVariants as step
use Rattle.job_core.specs.declared.verdict.Verdict.TheVariants.{Forwarded}

-- nothing stands there, and there is room for one segment
abbrev pub IsReady : OutsView → Type 0
IsReady room = (room.list ≡ []) × (1 ≤ room.spare)

-- a segment is passed on
abbrev pub IsPassed : Next → Type 0
IsPassed (next.Ask ask) = ⊥
IsPassed (next.End verdict outs) = verdict ≡ Forwarded

-- a segment that is passed on takes the room, and each other move leaves it as it was
pub record Leaves (n : Next) (old new : OutsView) : Type 0 where
  pub passed : IsPassed n → new ≡ outs_of []
  pub other : (IsPassed n → ⊥) → new ≡ old

-- what becomes of the held bytes by a step
abbrev pub held_by_step : Step → HeldChange
held_by_step (step.Asks ask phase held) = held
held_by_step (step.Ends verdict outs held) = held
held_by_step (step.ToServer flow syn opened) = change.Same
held_by_step (step.ToClient flow syn opened) = change.Same

-- it is an ask that leaves what is held, or the end of a segment that is passed on
abbrev pub AsksOrPassesBy : Next → HeldChange → Type 0
AsksOrPassesBy (next.Ask ask) held = held ≡ change.Same
AsksOrPassesBy (next.End verdict outs) held = verdict ≡ Forwarded

abbrev pub AsksOrPasses : Move → Type 0
AsksOrPasses m = AsksOrPassesBy m.next m.held

-- any other move may need memory, even where room is lent for a segment
abbrev pub MayNeedMemory : Move → Type 0
MayNeedMemory m = AsksOrPasses m → ⊥
