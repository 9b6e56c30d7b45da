-- Whom the calls of a crew name.
use Rattle.std.proofs.Common.{◌≡◌, ℕ, zero, suc, ◌<◌, List, [], ◌∷◌, ◌++◌, replicate, subst, sym, refl}
use Rattle.std.specs.Prelude.{slice_index_or, slice_set}
use Rattle.std.specs.List.{AllByRecursion}
use Rattle.bench.specs.Blocks.{handling_calls}
use Rattle.bench.specs.declared.call.Call.{Call}
use Rattle.bench.specs.declared.call.Call.TheVariants.{Step}
use Rattle.bench.specs.declared.call.Reply.{Reply}
use Rattle.bench.specs.declared.call.Reply.TheVariants as reply
use Rattle.job_core.specs.declared.aim.Aim.{Aim}
use Rattle.rule_table.specs.Setups.{SetupView}
use Rattle.tcp_segment.specs.declared.segment.Segment.{Segment}
use Rattle.run_threads.specs.Answered.{Answer}
use Rattle.run_threads.specs.Crews.{IsCrew}
use Rattle.run_threads.specs.Handling.{AreMade, MatchGoing}
use Rattle.run_threads.specs.Named.{Names, CrewNames, GoesOnNaming}
use Rattle.run_threads.specs.Seats.{BenchLock, BenchSeat, Adds}
use Rattle.run_threads.proofs.Crews.{one_does, none_does, both_do}

abbrev pub AllName : ℕ → List Answer → Type 0
AllName i answers = AllByRecursion (λ (a : Answer). Names i a.0) answers

all_more : (i : ℕ) (xs ys : List Answer) → AllName i xs → AllName i ys → AllName i (xs ++ ys)
all_more i [] ys p q = q
all_more i (x ∷ xs) ys p q = (p.0, all_more i xs ys p.1 q)

-- the calls of a handling, as far as they were made
abbrev pub NameAll : ℕ → List Call → Type 0
NameAll i calls = AllByRecursion (Names i) calls

steps_name : (i n : ℕ) → NameAll i (replicate n (Step i))
steps_name i zero = tt
steps_name i (suc n) = (refl, steps_name i n)

calls_name : (i item : ℕ) (a : Aim) (segment : Segment) (n : ℕ) → NameAll i (handling_calls i item a segment n)
calls_name i item a segment zero = tt
calls_name i item a segment (suc n) = (refl, steps_name i n)

either : (r : Reply) (goes ends : Type 0) (P : Type 0) → (goes → P) → (ends → P) → MatchGoing r goes ends → P
either reply.Going goes ends P f g m = f m
either (reply.Done verdict outs) goes ends P f g m = g m
either reply.Idle goes ends P f g m = g m
either reply.Noted goes ends P f g m = g m

made_name : (i : ℕ) (calls : List Call) (answers : List Answer) → NameAll i calls → AreMade calls answers → AllName i answers
made_name i [] answers names made = subst (AllName i) (sym made) tt
made_name i (c ∷ calls) [] names made = absurd made
made_name i (c ∷ calls) (a ∷ answers) names made = (
  subst (Names i) (sym made.0) names.0,
  either a.1 (AreMade calls answers) (answers ≡ []) (AllName i answers) (made_name i calls answers names.1) (λ (e : answers ≡ []). subst (AllName i) (sym e) tt) made.1,
)

pub handling_names : (i item : ℕ) (a : Aim) (segment : Segment) (n : ℕ) (answers : List Answer) → AreMade (handling_calls i item a segment n) answers → AllName i answers
handling_names i item a segment n answers made = made_name i (handling_calls i item a segment n) answers (calls_name i item a segment n) made

module _ (setup : SetupView) (locks : List BenchLock) (i : ℕ) where
  -- what was made names the instance
  pub naming : (old new : List BenchSeat) → CrewNames i locks old new → GoesOnNaming i locks old new
  naming old new names base so =
      both_do setup locks base old new (λ k l. AllName i l) (λ k l. AllName i l) (λ k l. AllName i l) so names (λ k xs ys p q. all_more i xs ys p q)

  -- .. from the beginning on
  pub named : (old new : List BenchSeat) → IsCrew setup locks old → GoesOnNaming i locks old new → CrewNames i locks old new
  named old new crew goes = goes old (none_does setup locks old (λ k l. AllName i l) crew (λ k. tt))

  pub seat_names : (old new : List BenchSeat) (g : ℕ) (l : BenchLock) (s t : BenchSeat) (answers : List Answer)
      → IsCrew setup locks old → g < setup.shards → l ≡ slice_index_or locks g l → s ≡ slice_index_or old g s → new ≡ slice_set old g t → Adds l s t answers → AllName i answers
      → GoesOnNaming i locks old new
  seat_names old new g l s t answers crew within l_is s_is new_is adds names =
      naming old new (one_does setup locks old new g l s t answers (λ k xs. AllName i xs) crew within l_is s_is new_is adds names (λ k apart. tt))
