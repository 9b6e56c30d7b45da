-- A known record leaves what is held.
use Rattle.std.proofs.Common.{◌≡◌, ℕ, false, List, [], ◌∷◌, refl, sym, ◌∙◌, ap, subst}
use Rattle.std.proofs.lemmas.Bool.{false≢true}
use Rattle.flow_record.specs.declared.record.Record.{Record}
use Rattle.rule_table.specs.Setups.{SetupView}
use Rattle.tcp_segment.specs.declared.segment.Segment.{Segment}
use Rattle.job_core.specs.Aims.{is_syn_ack}
use Rattle.job_core.specs.Phases.{step_move}
use Rattle.job_core.specs.Rooms.{held_by_step}
use Rattle.job_core.specs.Table.{next_move}
use Rattle.job_core.specs.TableLaws.{IsHeldSo}
use Rattle.job_core.specs.TableLaws.IsHeldSo.{stays, drops_opened}
use Rattle.job_core.specs.declared.aim.Aim.{Aim}
use Rattle.job_core.specs.declared.aim.Aim.TheVariants as aim
use Rattle.job_core.specs.declared.moves.Answer.{Answer}
use Rattle.job_core.specs.declared.moves.Answer.TheVariants.{Decided}
use Rattle.job_core.specs.declared.moves.HeldChange.{HeldChange}
use Rattle.job_core.specs.declared.moves.HeldChange.TheVariants as change
use Rattle.job_core.specs.declared.moves.Move.{Move}
use Rattle.job_core.specs.declared.step.Step.{Step}
use Rattle.job_core.specs.declared.step.Step.TheVariants as step
use Rattle.job_core.proofs.Changes.{change_is}

held_is : (setup : SetupView) (seg : Segment) (taken : Step) → held_by_step taken ≡ (step_move setup seg taken).held
held_is setup seg (step.Asks ask phase held) = refl
held_is setup seg (step.Ends verdict outs held) = refl
held_is setup seg (step.ToServer flow syn opened) = refl
held_is setup seg (step.ToClient flow syn opened) = refl

two_same : (seg : Segment) (held : List ℕ) (a : Aim) (x y : Record) (m : HeldChange) → IsHeldSo seg held a (Decided x ∷ Decided y ∷ []) m → m ≡ change.Same
two_same seg held a x y m (stays b others) = refl

three_same : (seg : Segment) (held : List ℕ) (server port : ℕ) (x y z : Record) (m : HeldChange) → is_syn_ack seg.head.flags ≡ false
    → IsHeldSo seg held (aim.Server server port) (Decided x ∷ Decided y ∷ Decided z ∷ []) m → m ≡ change.Same
three_same seg held server port x y z m other (stays b others) = refl
three_same seg held server port x y z m other (drops_opened v p owner syn r others ack same) = absurd (false≢true (sym other ∙ ack))

pub same_by_two : (setup : SetupView) (i : ℕ) (a : Aim) (seg : Segment) (answers : List Answer) (x y : Record) (taken : Step) → answers ≡ Decided x ∷ Decided y ∷ []
    → step_move setup seg taken ≡ next_move setup i a seg answers [] → held_by_step taken ≡ change.Same
same_by_two setup i a seg answers x y taken are is =
    held_is setup seg taken ∙ ap (λ (m : Move). m.held) is
    ∙ two_same seg [] a x y _ (subst (λ (l : List Answer). IsHeldSo seg [] a l (next_move setup i a seg answers []).held) are (change_is setup i a seg answers []))

pub same_by_three : (setup : SetupView) (i server port : ℕ) (seg : Segment) (answers : List Answer) (x y z : Record) (taken : Step) → is_syn_ack seg.head.flags ≡ false → answers ≡ Decided x ∷ Decided y ∷ Decided z ∷ []
    → step_move setup seg taken ≡ next_move setup i (aim.Server server port) seg answers [] → held_by_step taken ≡ change.Same
same_by_three setup i server port seg answers x y z taken other are is =
    held_is setup seg taken ∙ ap (λ (m : Move). m.held) is
    ∙ three_same seg [] server port x y z _ other (subst (λ (l : List Answer). IsHeldSo seg [] (aim.Server server port) l (next_move setup i (aim.Server server port) seg answers []).held) are (change_is setup i (aim.Server server port) seg answers []))

pub same_by_server : (setup : SetupView) (i server port : ℕ) (a : Aim) (seg : Segment) (answers : List Answer) (x y z : Record) (taken : Step) → a ≡ aim.Server server port → is_syn_ack seg.head.flags ≡ false → answers ≡ Decided x ∷ Decided y ∷ Decided z ∷ []
    → step_move setup seg taken ≡ next_move setup i a seg answers [] → held_by_step taken ≡ change.Same
same_by_server setup i server port a seg answers x y z taken of other are is =
    same_by_three setup i server port seg answers x y z taken other are (subst (λ (b : Aim). step_move setup seg taken ≡ next_move setup i b seg answers []) of is)
