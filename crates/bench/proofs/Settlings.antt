-- A work that is being settled, after so many turns.
use Rattle.std.proofs.Common.{◌≡◌, ◌+◌, ◌-◌, ◌≤◌, ◌<◌, ℕ, suc, Option, Some, None, refl, sym, ◌∙◌, ap, subst, arith}
use Rattle.std.specs.Prelude.{option_map, false}
use Rattle.std.specs.Option.{is_some}
use Rattle.std.proofs.lemmas.Bool.{false≢true}
use Rattle.flow_record.specs.declared.record.Ask.{Ask}
use Rattle.kept_records.specs.Entries.{Entries}
use Rattle.rule_table.specs.Setups.{SetupView}
use Rattle.tcp_segment.specs.Sending.{OutsView}
use Rattle.bench.specs.declared.call.Reply.{Reply}
use Rattle.bench.specs.declared.call.Reply.TheVariants as reply
use Rattle.bench.specs.declared.desk.Work.{Work}
use Rattle.bench.specs.Bench.{JobState, Held, Desk, Known, known, settle, settled, turn_of}
use Rattle.bench.specs.Desks.{IsTurn, KeptFit, desk_of, left, shown_work}
use Rattle.bench.specs.Laws.{Asks}
use Rattle.bench.proofs.Keepings.{settled_one, settled_rests}

pub settle_is : (setup : SetupView) (i : ℕ) (at : Desk × Reply) → settled 11 setup i at ≡ settle setup i at
unfolding settle
settle_is setup i at = refl

pub record Settling (setup : SetupView) (first : Work) (firsts : Entries) (room : OutsView) (n : ℕ) (work : Work) (kept : Entries) (now : OutsView) : Type 0 where
  pub within : n ≤ 11
  pub same : (held : Held) → settled (11 - n) setup first.job.instance (desk_of work held kept, reply.Going) ≡ settle setup first.job.instance (desk_of first held firsts, reply.Going)
  pub stands : work.job.ask ≡ work.walk.ask
  pub asks : Asks setup first.job.instance work.job.aim work.job.segment work.job.answers work.job.ask
  pub instance : work.job.instance ≡ first.job.instance
  pub fits : KeptFit setup kept
  pub room_is : now ≡ room

module _ (setup : SetupView) (first : Work) (firsts : Entries) (room : OutsView) (n : ℕ) (work : Work) (kept : Entries) (now : OutsView) (s : Settling setup first firsts room n work kept now) (less : n < 11) where
  -- one turn more
  pub turned_same : (work_after : Work) (kept_after : Entries) (r : Reply)
      → ((held : Held) → settled 1 setup work.job.instance (desk_of work held kept, reply.Going) ≡ left r work_after held kept_after)
      → (held : Held) → settled (11 - suc n) setup first.job.instance (left r work_after held kept_after) ≡ settle setup first.job.instance (desk_of first held firsts, reply.Going)
  turned_same work_after kept_after r one held =
      let count : 11 - n ≡ suc (11 - suc n) = omega arith in
      let at : Desk × Reply = (desk_of work held kept, reply.Going) in
      ap (settled (11 - suc n) setup first.job.instance) (sym (subst (λ i. settled 1 setup i at ≡ left r work_after held kept_after) s.instance (one held)))
      ∙ sym (settled_one setup first.job.instance (11 - suc n) at)
      ∙ ap (λ m. settled m setup first.job.instance at) (sym count)
      ∙ s.same held

  pub settling_more : (work_after : Work) (kept_after : Entries) (now_after : OutsView)
      → ((held : Held) → settled 1 setup work.job.instance (desk_of work held kept, reply.Going) ≡ left reply.Going work_after held kept_after)
      → work_after.job.ask ≡ work_after.walk.ask → Asks setup work.job.instance work_after.job.aim work_after.job.segment work_after.job.answers work_after.job.ask
      → work_after.job.instance ≡ work.job.instance → KeptFit setup kept_after → now_after ≡ now → Settling setup first firsts room (n + 1) work_after kept_after now_after
  settling_more work_after kept_after now_after one stands asks instance fits same_room =
      let count : suc n ≡ n + 1 = omega arith in
      subst (λ m. Settling setup first firsts room m work_after kept_after now_after) count (record {
        within = omega arith;
        same = λ held. turned_same work_after kept_after reply.Going one held;
        stands = stands;
        asks = subst (λ i. Asks setup i work_after.job.aim work_after.job.segment work_after.job.answers work_after.job.ask) s.instance asks;
        instance = instance ∙ s.instance;
        fits = fits;
        room_is = same_room ∙ s.room_is;
      })

  -- its ask is not known: it rests
  pub rests_same : (work_after : Work) (kept_after : Entries)
      → ((held : Held) → settled 1 setup work.job.instance (desk_of work held kept, reply.Going) ≡ left reply.Going work_after held kept_after)
      → is_some (known setup kept work.job.ask) ≡ false
      → (held : Held) → settle setup first.job.instance (desk_of first held firsts, reply.Going) ≡ left reply.Going work_after held kept_after
  rests_same work_after kept_after one unknown held =
      let at : Desk × Reply = (desk_of work held kept, reply.Going) in
      let none : turn_of setup at.0 ≡ None = ap (λ o. option_map {T = Known} {U = JobState × Known} (λ k. (shown_work work, k)) o) (no_known (known setup kept work.walk.ask) (subst (λ (q : Ask). is_some (known setup kept q) ≡ false) s.stands unknown)) in
      sym (s.same held) ∙ settled_rests setup first.job.instance (11 - n) at none ∙ sym (settled_rests setup work.job.instance 1 at none) ∙ one held
    where
      no_known : (o : Option Known) → is_some o ≡ false → o ≡ None
      no_known None is = refl
      no_known (Some k) is = absurd (false≢true (sym is))

  -- it is done
  pub done_same : (work_after : Work) (kept_after : Entries) (r : Reply)
      → ((held : Held) → settled 1 setup work.job.instance (desk_of work held kept, reply.Going) ≡ left r work_after held kept_after)
      → ((held : Held) → turn_of setup (left r work_after held kept_after).0 ≡ None)
      → (held : Held) → settle setup first.job.instance (desk_of first held firsts, reply.Going) ≡ left r work_after held kept_after
  done_same work_after kept_after r one none held =
      sym (turned_same work_after kept_after r one held) ∙ settled_rests setup first.job.instance (11 - suc n) (left r work_after held kept_after) (none held)

-- ---- before the first turn, and after the last one
pub settling_first : (setup : SetupView) (work : Work) (kept : Entries) (room : OutsView) → work.job.ask ≡ work.walk.ask
    → Asks setup work.job.instance work.job.aim work.job.segment work.job.answers work.job.ask → KeptFit setup kept → Settling setup work kept room 0 work kept room
settling_first setup work kept room stands asks fits = record {
  within = omega arith;
  same = λ held. settle_is setup work.job.instance (desk_of work held kept, reply.Going);
  stands = stands;
  asks = asks;
  instance = refl;
  fits = fits;
  room_is = refl;
}

pub settling_last : (setup : SetupView) (first : Work) (firsts : Entries) (room : OutsView) (n : ℕ) (work : Work) (kept : Entries) (now : OutsView) → Settling setup first firsts room n work kept now → 11 ≤ n
    → (held : Held) → settle setup first.job.instance (desk_of first held firsts, reply.Going) ≡ left reply.Going work held kept
settling_last setup first firsts room n work kept now s past held =
    let within = s.within in
    let none : 11 - n ≡ 0 = omega arith in
    sym (s.same held) ∙ ap (λ m. settled m setup first.job.instance (desk_of work held kept, reply.Going)) none

-- where the handling has ended nothing is settled
pub settle_stays : (setup : SetupView) (i : ℕ) (at : Desk × Reply) → turn_of setup at.0 ≡ None → settle setup i at ≡ at
unfolding settle
settle_stays setup i at none = settled_rests setup i 11 at none

-- a desk after another reply than Going has no job
pub no_turn : (setup : SetupView) (r : Reply) (w : Work) (held : Held) (kept : Entries) → IsTurn r → (r ≡ reply.Going → ⊥) → turn_of setup (left r w held kept).0 ≡ None
no_turn setup reply.Going w held kept turn other = absurd (other refl)
no_turn setup (reply.Done verdict outs) w held kept turn other = refl
no_turn setup reply.Idle w held kept turn other = absurd turn
no_turn setup reply.Noted w held kept turn other = absurd turn
