-- A move by what is known leaves the entries: the flow of an open connection that is known has one.
use Rattle.std.proofs.Common.{◌≡◌, ℕ, zero, suc, Bool, true, false, Option, Some, None, List, [], ◌∷◌, ◌++◌, refl, sym, ◌∙◌, ap, subst}
use Rattle.std.specs.Prelude.{option_map, take, if◌then◌else◌}
use Rattle.std.specs.Option.{is_some}
use Rattle.std.proofs.lemmas.Option.{none-some, same_Some}
use Rattle.flow_id.specs.declared.key.Flow.{Flow}
use Rattle.flow_id.specs.declared.key.Key.TheVariants as key
use Rattle.flow_record.specs.declared.record.Record.{Record}
use Rattle.flow_record.specs.declared.record.Ask.{Ask}
use Rattle.flow_record.specs.declared.record.Ask.TheVariants.{Get, Add}
use Rattle.kept_records.specs.declared.entry.Kept.{Kept}
use Rattle.kept_records.specs.Entries.{Entries, kept_of, in_front}
use Rattle.job_core.specs.declared.aim.Aim.{Aim}
use Rattle.job_core.specs.declared.moves.Answer.{Answer}
use Rattle.job_core.specs.declared.moves.Answer.TheVariants.{Decided}
use Rattle.job_core.specs.declared.moves.Next.{Next}
use Rattle.job_core.specs.declared.moves.Next.TheVariants as next
use Rattle.rule_table.specs.Setups.{SetupView}
use Rattle.tcp_segment.specs.Sending.{OutsView}
use Rattle.tcp_segment.specs.declared.segment.Segment.{Segment}
use Rattle.job_core.specs.TableLaws.{IsAsked}
use Rattle.job_core.proofs.Asks.{asked_is}
use Rattle.job_core.specs.declared.moves.HeldChange.{HeldChange}
use Rattle.job_core.specs.Table.{next_move}
use Rattle.job_core.specs.Jobs.{MayAnswer, flow_by}
use Rattle.job_core.specs.declared.moves.HeldChange.TheVariants as change
use Rattle.job_core.specs.declared.moves.Move.{Move}
use Rattle.job_core.specs.declared.verdict.Verdict.{Verdict}
use Rattle.bench.specs.declared.call.Reply.{Reply}
use Rattle.bench.specs.declared.call.Reply.TheVariants as reply
use Rattle.bench.specs.Bench.{JobState, Desk, Held, Known, known, entry_limit, entry_by, is_kept, kept_by, kept_after, job_by, reply_by, move_of, moved, used, held_after, turn_of, settled, settled_by}
use Rattle.bench.specs.Laws.{Asks}
use Rattle.bench.proofs.Entries.{found_in_front, all_in_front}
use Rattle.bench.proofs.Knowns.{Says, known_says}
use Rattle.bench.proofs.Stands.{after_same}
use Rattle.bench.specs.Desks.{KeptFit}
use Rattle.bench.specs.JobLaws.{IsRecordOf}
use Rattle.job_core.specs.TableLaws.IsAsked.{adds_syn, gets_syn, gets_open, client_resets, client_closes, refuses, adds_choice, adds_port, gets_port, gets_owner, adds_open, gets_owners_open, server_resets, server_closes}

-- where there is no entry to add, or its flow has one
none_kept : (a : Aim) (answers : List Answer) (n : Next) (kept : Entries) → entry_by a answers ≡ None → kept_after a answers n kept ≡ kept
none_kept a answers (next.Ask q) kept none = refl
none_kept a answers (next.End v outs) kept none = by (is_kept v)
  where
    by : (b : Bool) → (if b then kept_by (entry_by a answers) kept else kept) ≡ kept
    by true = ap (λ o. kept_by o kept) none
    by false = refl

some_kept : (a : Aim) (answers : List Answer) (n : Next) (kept : Entries) (e : Flow × Kept) → entry_by a answers ≡ Some e → is_some (kept_of kept e.0) ≡ true → kept_after a answers n kept ≡ kept
some_kept a answers (next.Ask q) kept e is has = refl
some_kept a answers (next.End v outs) kept e is has = by (is_kept v)
  where
    by : (b : Bool) → (if b then kept_by (entry_by a answers) kept else kept) ≡ kept
    by true = ap (λ o. kept_by o kept) is ∙ ap (λ b. if b then kept else take entry_limit ((e.0, e.1) ∷ kept)) has
    by false = refl

-- a known Open's flow has an entry
open_has : (setup : SetupView) (kept : Entries) (flow : Flow) (k : Known) → known setup kept (Get (key.Open flow)) ≡ Some k → is_some (kept_of (in_front kept k.flow) flow) ≡ true
open_has setup kept flow k is = by (kept_of kept flow) refl is
  where
    by : (o : Option Kept) → kept_of kept flow ≡ o → option_map (λ (x : Kept). record { flow = flow; item = x.opened }) o ≡ Some k → is_some (kept_of (in_front kept k.flow) flow) ≡ true
    by None has is = absurd (none-some k is)
    by (Some x) has is = subst (λ (y : Known). is_some (kept_of (in_front kept y.flow) flow) ≡ true) (same_Some _ _ is) (found_in_front kept flow x has)

pub kept_turned : (setup : SetupView) (i : ℕ) (seg : Segment) (was : List ℕ) (a : Aim) (answers : List Answer) (m : HeldChange) (q : Ask) → IsAsked setup i seg was a answers m q
    → (kept : Entries) (k : Known) → known setup kept q ≡ Some k → (n : Next) → kept_after a (answers ++ Decided k.item ∷ []) n (in_front kept k.flow) ≡ in_front kept k.flow
kept_turned setup i seg was a answers m q (gets_syn f other) kept k is n = none_kept a (Decided k.item ∷ []) n (in_front kept k.flow) refl
kept_turned setup i seg was a answers m q (gets_open f syn other) kept k is n = some_kept a (Decided syn ∷ Decided k.item ∷ []) n (in_front kept k.flow) (f, record { syn = syn; opened = k.item }) refl (open_has setup kept f k is)
kept_turned setup i seg was a answers m q (gets_port server port) kept k is n = none_kept a (Decided k.item ∷ []) n (in_front kept k.flow) refl
kept_turned setup i seg was a answers m q (gets_owner server port r) kept k is n = none_kept a (Decided r ∷ Decided k.item ∷ []) n (in_front kept k.flow) refl
kept_turned setup i seg was a answers m q (gets_owners_open server port r syn other) kept k is n =
    some_kept a (Decided r ∷ Decided syn ∷ Decided k.item ∷ []) n (in_front kept k.flow) (_, record { syn = syn; opened = k.item }) refl (open_has setup kept _ k is)
kept_turned setup i seg was a answers m q (adds_syn f x is_syn kind number) kept k is n = absurd (none-some k is)
kept_turned setup i seg was a answers m q (client_resets f syn x got other reset kind) kept k is n = absurd (none-some k is)
kept_turned setup i seg was a answers m q (client_closes f syn opened x other still fin kind) kept k is n = absurd (none-some k is)
kept_turned setup i seg was a answers m q (refuses f syn x more other still reached is_more kind) kept k is n = absurd (none-some k is)
kept_turned setup i seg was a answers m q (adds_choice f syn x more other still reached is_more whole chosen) kept k is n = absurd (none-some k is)
kept_turned setup i seg was a answers m q (adds_port f syn choice x taken other still chosen others left kind owns) kept k is n = absurd (none-some k is)
kept_turned setup i seg was a answers m q (adds_open server port r syn x ack acks kind of_server of_port number) kept k is n = absurd (none-some k is)
kept_turned setup i seg was a answers m q (server_resets server port r syn x got other reset kind) kept k is n = absurd (none-some k is)
kept_turned setup i seg was a answers m q (server_closes server port r syn opened x other still fin kind) kept k is n = absurd (none-some k is)

-- what a pair says of what is known
pub known_some : (o : Option Known) (flow : Flow) (r : Record) → option_map {T = Known} {U = Flow × Record} (λ k. (k.flow, k.item)) o ≡ Some (flow, r) → o ≡ Some (record { flow = flow; item = r })
known_some None flow r is = absurd (none-some _ is)
known_some (Some k) flow r is =
    let one : Flow × Record = (k.flow, k.item) in
    let two : Flow × Record = (flow, r) in
    let same : one ≡ two = same_Some one two is in
    ap (λ (p : Flow × Record). some_known p) same
  where
    some_known : Flow × Record → Option Known
    some_known p = Some (record { flow = p.0; item = p.1 })

-- a turn by which the handling ends
module _ (setup : SetupView) (i : ℕ) (job : JobState) (desk : Desk) (k : Known) where
  abbrev a : Answer
  a = Decided k.item

  abbrev shape : Next → Held → Entries → Desk × Reply
  shape n held kept = (record { job = job_by job.item job.aim job.segment (job.answers ++ a ∷ []) n; held = held; kept = kept }, reply_by n)

  pub ended_turn : Asks setup i job.aim job.segment job.answers job.walk.ask → known setup desk.kept job.walk.ask ≡ Some k
      → (m : Move) → m ≡ move_of setup i job a desk.held → (v : Verdict) (outs : OutsView) → m.next ≡ next.End v outs → m.held ≡ change.Same
      → moved setup i job a (used desk k.flow) ≡ (record { job = None; held = desk.held; kept = in_front desk.kept k.flow }, reply.Done v outs)
  ended_turn asks is m same v outs ends stays =
      let made : Move = move_of setup i job a desk.held in
      ap (λ (x : Entries). shape made.next (held_after (flow_by job.aim job.answers) made.held desk.held) x)
      (kept_turned setup i job.segment asks.0 job.aim job.answers (next_move setup i job.aim job.segment job.answers asks.0).held job.walk.ask (asked_is setup i job.aim job.segment job.answers asks.0 job.walk.ask asks.1) desk.kept k is made.next)
      ∙ ap (λ (h : Held). shape made.next h (in_front desk.kept k.flow)) (after_same (flow_by job.aim job.answers) made.held desk.held (sym (ap (λ (x : Move). x.held) same) ∙ stays))
      ∙ ap (λ (n : Next). shape n desk.held (in_front desk.kept k.flow)) (sym (ap (λ (x : Move). x.next) same) ∙ ends)

-- ---- what an entry answers may answer
abbrev Fit : SetupView → Flow × Kept → Type 0
Fit setup e = IsRecordOf setup (key.Syn e.0) e.1.syn × IsRecordOf setup (key.Open e.0) e.1.opened

pub may_be_known : (setup : SetupView) (kept : Entries) (q : Ask) (k : Known) → KeptFit setup kept → known setup kept q ≡ Some k → MayAnswer setup q (Decided k.item)
may_be_known setup kept q k fits is = by q k.item (known_says (Fit setup) setup kept q k fits is)
  where
    by : (q : Ask) (r : Record) → Says (Fit setup) setup q r → MayAnswer setup q (Decided r)
    by (Get (key.Syn flow)) r (x, has, same) = subst (λ y. MayAnswer setup (Get (key.Syn flow)) (Decided y)) same has.0
    by (Get (key.Open flow)) r (x, has, same) = subst (λ y. MayAnswer setup (Get (key.Open flow)) (Decided y)) same has.1
    by (Get (key.Port service server port)) r (flow, x, has, of_service, server_is, port_is, same) = subst (λ y. MayAnswer setup (Get (key.Port service server port)) (Decided y)) same (refl, refl)
    by (Get (key.Choice flow)) r says = absurd says
    by (Get (key.Fin flow side)) r says = absurd says
    by (Get (key.Gone flow)) r says = absurd says
    by (Add x y) r says = absurd says

pub fit_in_front : (setup : SetupView) (kept : Entries) (flow : Flow) → KeptFit setup kept → KeptFit setup (in_front kept flow)
fit_in_front setup kept flow fits = all_in_front (Fit setup) kept flow fits

-- ---- turns, one after the other
turn_none : (setup : SetupView) (i : ℕ) (m : ℕ) (at : Desk × Reply) → turn_of setup at.0 ≡ None → settled m setup i at ≡ at
turn_none setup i zero at none = refl
turn_none setup i (suc m) at none = ap (settled_by (settled m setup i) setup i at) none

pub settled_one : (setup : SetupView) (i : ℕ) (m : ℕ) (at : Desk × Reply) → settled (suc m) setup i at ≡ settled m setup i (settled 1 setup i at)
settled_one setup i m at = by (turn_of setup at.0) refl
  where
    by : (o : Option (JobState × Known)) → turn_of setup at.0 ≡ o → settled (suc m) setup i at ≡ settled m setup i (settled 1 setup i at)
    by None is = ap (settled_by (settled m setup i) setup i at) is ∙ sym (turn_none setup i m at is) ∙ ap (settled m setup i) (sym (ap (settled_by (λ x. x) setup i at) is))
    by (Some turn) is = ap (settled_by (settled m setup i) setup i at) is ∙ ap (settled m setup i) (sym (ap (settled_by (λ x. x) setup i at) is))

pub settled_rests : (setup : SetupView) (i : ℕ) (m : ℕ) (at : Desk × Reply) → turn_of setup at.0 ≡ None → settled m setup i at ≡ at
settled_rests setup i m at none = turn_none setup i m at none
