-- The rooms that are left after a call.
use Rattle.std.proofs.Common.{◌≡◌, ◌⊎◌, inl, inr, ◌-◌, ◌<◌, ℕ, Some, refl, ap, arith}
use Rattle.job_core.specs.declared.aim.Aim.{Aim}
use Rattle.job_core.specs.declared.verdict.Verdict.{Verdict}
use Rattle.job_core.specs.declared.verdict.Verdict.TheVariants as verdict
use Rattle.tcp_segment.specs.declared.segment.Segment.{Segment}
use Rattle.bench.specs.declared.call.Call.TheVariants.{Take}
use Rattle.bench.specs.declared.call.Reply.{Reply}
use Rattle.bench.specs.declared.call.Reply.TheVariants as reply
use Rattle.bench.specs.Bench.{IsPassedAtOnce, spare_after}
use Rattle.bench.specs.Passing.{rooms_after}

-- with this reply none is used
abbrev Unused : Reply → Type 0
Unused r = ((n : ℕ) → rooms_after n r ≡ n) × ((n i item : ℕ) (a : Aim) (seg : Segment) → spare_after n (Take i item a seg) r ≡ n)

passed_or : (r : Reply) → IsPassedAtOnce (Some r) ⊎ Unused r
passed_or reply.Going = inr (λ n. refl, λ n i item a seg. refl)
passed_or reply.Idle = inr (λ n. refl, λ n i item a seg. refl)
passed_or reply.Noted = inr (λ n. refl, λ n i item a seg. refl)
passed_or (reply.Done verdict.Answered outs) = inr (λ n. refl, λ n i item a seg. refl)
passed_or (reply.Done (verdict.Held n) outs) = inr (λ n. refl, λ n i item a seg. refl)
passed_or (reply.Done (verdict.Ahead end offset) outs) = inr (λ n. refl, λ n i item a seg. refl)
passed_or (reply.Done verdict.Waiting outs) = inr (λ n. refl, λ n i item a seg. refl)
passed_or (reply.Done verdict.LetGo outs) = inr (λ n. refl, λ n i item a seg. refl)
passed_or (reply.Done (verdict.Asked server port) outs) = inr (λ n. refl, λ n i item a seg. refl)
passed_or (reply.Done verdict.Opened outs) = inr (λ n. refl, λ n i item a seg. refl)
passed_or (reply.Done verdict.Forwarded outs) = inl refl
passed_or (reply.Done (verdict.Refused why) outs) = inr (λ n. refl, λ n i item a seg. refl)
passed_or (reply.Done verdict.TurnedAway outs) = inr (λ n. refl, λ n i item a seg. refl)
passed_or (reply.Done verdict.Unknown outs) = inr (λ n. refl, λ n i item a seg. refl)
passed_or (reply.Done (verdict.OtherNumber number) outs) = inr (λ n. refl, λ n i item a seg. refl)
passed_or (reply.Done (verdict.BadAck number) outs) = inr (λ n. refl, λ n i item a seg. refl)
passed_or (reply.Done (verdict.OtherOpen number) outs) = inr (λ n. refl, λ n i item a seg. refl)
passed_or (reply.Done (verdict.PortsTaken flows) outs) = inr (λ n. refl, λ n i item a seg. refl)
passed_or (reply.Done verdict.Early outs) = inr (λ n. refl, λ n i item a seg. refl)
passed_or (reply.Done (verdict.Odd flags) outs) = inr (λ n. refl, λ n i item a seg. refl)
passed_or (reply.Done verdict.NotOurs outs) = inr (λ n. refl, λ n i item a seg. refl)
passed_or (reply.Done verdict.NotIpv4 outs) = inr (λ n. refl, λ n i item a seg. refl)
passed_or (reply.Done verdict.SnapCut outs) = inr (λ n. refl, λ n i item a seg. refl)
passed_or (reply.Done (verdict.BadIp fault) outs) = inr (λ n. refl, λ n i item a seg. refl)
passed_or (reply.Done (verdict.BadTcp fault) outs) = inr (λ n. refl, λ n i item a seg. refl)
passed_or (reply.Done verdict.StoreDown outs) = inr (λ n. refl, λ n i item a seg. refl)
passed_or (reply.Done verdict.Crashed outs) = inr (λ n. refl, λ n i item a seg. refl)
passed_or (reply.Done verdict.NoInstance outs) = inr (λ n. refl, λ n i item a seg. refl)
passed_or (reply.Done (verdict.NoMemory calls) outs) = inr (λ n. refl, λ n i item a seg. refl)

-- with this one, one is
used : (r : Reply) → IsPassedAtOnce (Some r) → ((n : ℕ) → rooms_after n r ≡ n - 1) × ((n i item : ℕ) (a : Aim) (seg : Segment) → spare_after n (Take i item a seg) r ≡ n - 1)
used reply.Going passed = absurd passed
used reply.Idle passed = absurd passed
used reply.Noted passed = absurd passed
used (reply.Done v outs) passed = (
  λ n. ap (λ (x : Verdict). rooms_after n (reply.Done x outs)) passed,
  λ n i item a seg. ap (λ (x : Verdict). spare_after n (Take i item a seg) (reply.Done x outs)) passed,
)

-- no more are left than there were
pub rooms_few : (n m : ℕ) (r : Reply) → n < m → rooms_after n r < m
rooms_few n m r few = elim (passed_or r) [
  | inl passed ↦ let left = (used r passed).0 n in omega (arith, left)
  | inr other ↦ let left = other.0 n in omega (arith, left)
]
