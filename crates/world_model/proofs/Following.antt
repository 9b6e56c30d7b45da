-- What is kept by each event that a generated run makes is kept by the run. The only failures that it makes are those of
-- replica 0.
use Rattle.std.proofs.Common.{◌≡◌, ℕ, Bool, true, false, Option, Some, None, List, [], ◌∷◌, length, refl}
use Rattle.std.specs.Prelude.{◌-◌, ◌%◌, ◌*◌, ◌/◌, ◌+◌, ◌==◌, nat_lt, is_some, if◌then◌else◌}
use Rattle.std.specs.List.{fold, range_with_len}
use Rattle.bench.specs.Bench.{job_at}
use Rattle.bench.specs.Blocks.{budget}
use Rattle.drive_plan.specs.Generator.{next_state, drawn, turn_of}
use Rattle.drive_plan.specs.declared.generator.Turn.{Turn}
use Rattle.world_model.specs.declared.at.At.{At}
use Rattle.world_model.specs.declared.at.At.TheVariants.{Client, Server}
use Rattle.world_model.specs.declared.event.Event.{Event}
use Rattle.world_model.specs.declared.event.Event.TheVariants as event
use Rattle.world_model.specs.DrivenSetup.{driven_setup, driven_clients, after_draws}
use Rattle.world_model.specs.Enabled.{is_living}
use Rattle.world_model.specs.Schedule.{Moment, moment, made, began, all_began, answered, is_half_closed, closed_back, followed, delivered, end_for, server_named, sent_by_any, sent_by_drawn, taken_by, taken_drawn, turned, turn_made, roughened, shard_for, stepped_on, stepped_out, handled, out_by, out_taken, outs_taken, sent_and_handled, exchanged, clients_exchanged, exchanged_by, servers_exchanged, is_over, round_made, calmed, driven}
use Rattle.world_model.specs.Steps.{is_enabled}
use Rattle.world_model.specs.World.{World, start, end_at, bench_at}

-- no failure but one of replica 0
abbrev pub IsMild : Event → Type 0
IsMild (event.Fail replica) = replica ≡ 0
IsMild _ = Unit {0}

fold_keeps : {A B : Type 0} (P : A → Type 0) (f : A → B → A) → ((a : A) (b : B) → P a → P (f a b)) → (bs : List B) (a : A) → P a → P (fold f a bs)
fold_keeps P f each [] a p = p
fold_keeps P f each (b ∷ bs) a p = fold_keeps P f each bs (f a b) (each a b p)

if_keeps : {A : Type 0} (P : A → Type 0) (b : Bool) (x y : A) → P x → P y → P (if b then x else y)
if_keeps P true x y p q = p
if_keeps P false x y p q = q

module _ (P : World → Type 0) (keeps : (w : World) (e : Event) → IsMild e → P w → P (made w e)) where
  -- ---- the start
  began_keeps : (bytes : ℕ) (w : World) (k : ℕ) → P w → P (began bytes w k)
  unfolding began
  began_keeps bytes w k p = keeps _ _ tt (keeps _ _ tt (keeps w (event.Open k) tt p))

  all_began_keeps : (flows bytes : ℕ) (w : World) → P w → P (all_began flows bytes w)
  unfolding all_began
  all_began_keeps flows bytes w p = fold_keeps P (began bytes) (began_keeps bytes) (range_with_len 0 flows) w p

  -- ---- an end takes a segment
  answered_keeps : (bytes : ℕ) (w : World) (at : At) → P w → P (answered bytes w at)
  answered_keeps bytes w at p = if_keeps P (is_some (end_at w at)) _ w (keeps w (event.Write at _) tt p) p

  closed_back_keeps : (w : World) (at : At) → P w → P (closed_back w at)
  closed_back_keeps w at p = if_keeps P (is_half_closed (end_at w at)) _ w (keeps w (event.Close at) tt p) p

  followed_keeps : (bytes : ℕ) (was_there : Bool) (w : World) (at : At) → P w → P (followed bytes was_there w at)
  unfolding followed
  followed_keeps bytes was_there w (Client k) p = p
  followed_keeps bytes true w (Server server port) p = closed_back_keeps w (Server server port) p
  followed_keeps bytes false w (Server server port) p = closed_back_keeps _ (Server server port) (answered_keeps bytes w (Server server port) p)

  delivered_keeps : (bytes : ℕ) (w : World) (at : At) (n draw : ℕ) → P w → P (delivered bytes w at n draw)
  unfolding delivered
  delivered_keeps bytes w at n draw p = followed_keeps bytes (is_some (end_at w at)) _ at (keeps w (event.TakeAt at n _) tt p)

  -- ---- the rough part
  sent_by_any_keeps : (w : World) (o : Option At) → P w → P (sent_by_any w o)
  sent_by_any_keeps w None p = p
  sent_by_any_keeps w (Some at) p = keeps w (event.Send at 1460) tt p

  sent_by_drawn_keeps : (w : World) (a : ℕ) → P w → P (sent_by_drawn w a)
  unfolding sent_by_drawn
  sent_by_drawn_keeps w a p = if_keeps P (length w.servers == 0) w _ p (sent_by_any_keeps w (server_named w (a % length w.servers)) p)

  taken_by_keeps : (bytes : ℕ) (w : World) (n d : ℕ) (o : Option At) → P w → P (taken_by bytes w n d o)
  taken_by_keeps bytes w n d None p = keeps w (event.Take (d % 4) n) tt p
  taken_by_keeps bytes w n d (Some at) p = delivered_keeps bytes w at n d p

  taken_drawn_keeps : (bytes : ℕ) (w : World) (c d : ℕ) → P w → P (taken_drawn bytes w c d)
  unfolding taken_drawn
  taken_drawn_keeps bytes w c d p = if_keeps P (length w.sent == 0) w _ p (taken_by_keeps bytes w (c % length w.sent) d (end_for w (c % length w.sent)) p)

  turned_keeps : (bytes : ℕ) (w : World) (t : Turn) → P w → P (turned bytes w t)
  unfolding turned
  turned_keeps bytes w t p =
      if_keeps P (nat_lt t.b 4) _ _ (keeps w (event.Send (Client t.a) 1460) tt p)
      (if_keeps P (nat_lt t.b 7) _ _ (sent_by_drawn_keeps w t.a p)
      (if_keeps P (nat_lt t.b 11) _ _ (taken_drawn_keeps bytes w t.c t.d p)
      (if_keeps P (nat_lt t.b 14) _ _ (keeps w (event.Step (t.c % 4) (t.d % 4)) tt p)
      (if_keeps P (t.b == 14) _ _ (keeps w (event.Crash (t.c % 4)) tt p) (keeps w (event.Fail 0) refl p)))))

  roughened_keeps : (flows bytes : ℕ) (m : Moment) → P m.world → P (roughened flows bytes m).world
  unfolding roughened turn_made
  roughened_keeps flows bytes m p =
      fold_keeps (λ (m : Moment). P m.world) (λ (m : Moment) (turn : ℕ). turn_made flows bytes m)
      (λ m turn p. turned_keeps bytes m.world (turn_of m.draws flows) p) (range_with_len 0 (40 * flows)) m p

  -- ---- a handling of the calm part
  stepped_on_keeps : (i g : ℕ) (w : World) → P w → P (stepped_on i g w)
  unfolding stepped_on
  stepped_on_keeps i g w p = if_keeps P (is_some (job_at (bench_at w g).desks i)) _ w (keeps w (event.Step i g) tt p) p

  stepped_out_keeps : (most i g : ℕ) (w : World) → P w → P (stepped_out most i g w)
  unfolding stepped_out
  stepped_out_keeps most i g w p = fold_keeps P (λ (w : World) (step : ℕ). stepped_on i g w) (λ w step p. stepped_on_keeps i g w p) (range_with_len 0 most) w p

  handled_keeps : (w : World) (i n : ℕ) → P w → P (handled w i n)
  unfolding handled
  handled_keeps w i n p = if_keeps P (is_enabled w (event.Take i n)) _ w (stepped_out_keeps (budget w.setup) i (shard_for w n) _ (keeps w (event.Take i n) tt p)) p

  out_by_keeps : (bytes : ℕ) (w : World) (n draw : ℕ) (o : Option At) → P w → P (out_by bytes w n draw o)
  out_by_keeps bytes w n draw None p = p
  out_by_keeps bytes w n draw (Some at) p = delivered_keeps bytes w at n draw p

  outs_taken_keeps : (bytes from : ℕ) (m : Moment) → P m.world → P (outs_taken bytes from m).world
  unfolding outs_taken out_taken
  outs_taken_keeps bytes from m p =
      fold_keeps (λ (m : Moment). P m.world) (out_taken bytes)
      (λ m n p. out_by_keeps bytes m.world n (drawn (next_state m.draws)) (end_for m.world n) p) (range_with_len from (length m.world.sent - from)) m p

  -- ---- the rounds of the calm part
  sent_and_handled_keeps : (bytes : ℕ) (at : At) (i n : ℕ) (w : World) (x : ℕ) → P w → P (sent_and_handled bytes at i n w x).world
  sent_and_handled_keeps bytes at i n w x p = outs_taken_keeps bytes (length w.sent) (moment (handled w i n) x) (handled_keeps w i n p)

  exchanged_keeps : (bytes : ℕ) (at : At) (i : ℕ) (m : Moment) → P m.world → P (exchanged bytes at i m).world
  unfolding exchanged
  exchanged_keeps bytes at i m p =
      if_keeps (λ (m : Moment). P m.world) (is_living (end_at m.world at)) _ m
      (sent_and_handled_keeps bytes at i (length m.world.sent) _ m.draws (keeps m.world (event.Send at 1460) tt p)) p

  clients_exchanged_keeps : (flows bytes : ℕ) (m : Moment) → P m.world → P (clients_exchanged flows bytes m).world
  unfolding clients_exchanged
  clients_exchanged_keeps flows bytes m p =
      fold_keeps (λ (m : Moment). P m.world) (λ (m : Moment) (k : ℕ). exchanged bytes (Client k) (k % 4) m)
      (λ m k p. exchanged_keeps bytes (Client k) (k % 4) m p) (range_with_len 0 flows) m p

  exchanged_by_keeps : (bytes place : ℕ) (m : Moment) (o : Option At) → P m.world → P (exchanged_by bytes place m o).world
  exchanged_by_keeps bytes place m None p = p
  exchanged_by_keeps bytes place m (Some at) p = exchanged_keeps bytes at (place % 4) m p

  servers_exchanged_keeps : (bytes : ℕ) (m : Moment) → P m.world → P (servers_exchanged bytes m).world
  unfolding servers_exchanged
  servers_exchanged_keeps bytes m p =
      fold_keeps (λ (m : Moment). P m.world) (λ (m : Moment) (place : ℕ). exchanged_by bytes place m (server_named m.world place))
      (λ m place p. exchanged_by_keeps bytes place m (server_named m.world place) p) (range_with_len 0 (length m.world.servers)) m p

  round_keeps : (flows bytes : ℕ) (m : Moment) → P m.world → P (round_made flows bytes m).world
  unfolding round_made
  round_keeps flows bytes m p =
      if_keeps (λ (m : Moment). P m.world) (is_over flows m.world) m _ p
      (servers_exchanged_keeps bytes (clients_exchanged flows bytes m) (clients_exchanged_keeps flows bytes m p))

  calmed_keeps : (flows bytes : ℕ) (m : Moment) → P m.world → P (calmed flows bytes m).world
  unfolding calmed
  calmed_keeps flows bytes m p =
      fold_keeps (λ (m : Moment). P m.world) (λ (m : Moment) (round : ℕ). round_made flows bytes m)
      (λ m round p. round_keeps flows bytes m p) (range_with_len 0 (20 + 2 * (bytes / 1460 + 2))) m p

  -- ---- together
  pub driven_keeps : (flows bytes number : ℕ) → P (start driven_setup (driven_clients number flows)) → P (driven flows bytes number)
  unfolding driven
  driven_keeps flows bytes number p =
      calmed_keeps flows bytes _ (roughened_keeps flows bytes (moment _ (after_draws number flows)) (all_began_keeps flows bytes _ p))
