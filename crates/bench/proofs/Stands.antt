-- What is known of a desk between the moves of a call of a history: of its job and its entries, and that a move by what is
-- known leaves what is held.
use Rattle.std.proofs.Common.{◌≡◌, ℕ, false, Option, Some, None, List, [], ◌∷◌, ◌++◌, refl, sym, ◌∙◌, ap, subst}
use Rattle.std.proofs.lemmas.Bool.{false≢true}
use Rattle.std.proofs.lemmas.Option.{none-some}
use Rattle.flow_id.specs.declared.key.Flow.{Flow}
use Rattle.flow_record.specs.declared.record.Record.{Record}
use Rattle.flow_record.specs.declared.record.Ask.{Ask}
use Rattle.kept_records.specs.declared.entry.Kept.{Kept}
use Rattle.job_core.specs.Aims.{is_syn_ack}
use Rattle.job_core.specs.Jobs.{flow_by}
use Rattle.job_core.specs.Table.{next_move}
use Rattle.job_core.specs.TableLaws.{IsAsked, IsHeldSo}
use Rattle.job_core.specs.TableLaws.IsAsked.{adds_syn, gets_syn, gets_open, client_resets, client_closes, refuses, adds_choice, adds_port, gets_port, gets_owner, adds_open, gets_owners_open, server_resets, server_closes}
use Rattle.job_core.specs.TableLaws.IsHeldSo.{stays as stays_so, drops_opened}
use Rattle.job_core.specs.declared.aim.Aim.{Aim}
use Rattle.job_core.specs.declared.aim.Aim.TheVariants as aim
use Rattle.job_core.specs.declared.moves.Answer.{Answer}
use Rattle.job_core.specs.declared.moves.Answer.TheVariants.{Decided}
use Rattle.job_core.specs.declared.moves.HeldChange.{HeldChange}
use Rattle.job_core.specs.declared.moves.HeldChange.TheVariants as change
use Rattle.job_core.specs.declared.moves.Next.{Next}
use Rattle.job_core.specs.declared.moves.Next.TheVariants as next
use Rattle.job_core.proofs.Asks as table
use Rattle.job_core.proofs.Changes.{change_is}
use Rattle.rule_table.specs.Setups.{SetupView}
use Rattle.tcp_segment.specs.declared.segment.Segment.{Segment}
use Rattle.bench.specs.declared.call.Call.{Call}
use Rattle.bench.specs.declared.call.Reply.{Reply}
use Rattle.bench.specs.declared.call.Call.TheVariants.{Take}
use Rattle.bench.specs.Bench.{JobState, Desk, Held, Known, BenchState, desk_at, job_at, held_by, held_after, job_by, begun, turn_of, turned, move_of, moved}
use Rattle.bench.specs.Calls.{IsCall, AreCalls}
use Rattle.bench.specs.Histories.{Mark, bench_after, log_after}
use Rattle.bench.proofs.Begun.{KnownAnswer, known_kept, jobs_known, old_known, Known as KnownJob}
use Rattle.bench.proofs.Causes.{Entry, old_kept, same_setup, sure_after}
use Rattle.bench.proofs.Counts.{turn_is, turn_known}
use Rattle.bench.proofs.Knowns.{Says, known_says}
use Rattle.bench.proofs.Steps.{At, Keeps, moved_at, turned_at, begun_at}

-- ---- a known ask is a Get: what is held stays by it, and by the move behind it
module _ (K : Flow × Kept → Type 0) (setup : SetupView) where
  pub get_same : (i : ℕ) (seg : Segment) (was : List ℕ) (a : Aim) (answers : List Answer) (m : HeldChange) (q : Ask) (r : Record)
      → IsAsked setup i seg was a answers m q → Says K setup q r → m ≡ change.Same
  get_same i seg was a answers m q r (gets_syn f other) says = refl
  get_same i seg was a answers m q r (gets_open f syn other) says = refl
  get_same i seg was a answers m q r (gets_port server port) says = refl
  get_same i seg was a answers m q r (gets_owner server port owner) says = refl
  get_same i seg was a answers m q r (gets_owners_open server port owner syn other) says = refl
  get_same i seg was a answers m q r (adds_syn f x is_syn kind number) says = absurd says
  get_same i seg was a answers m q r (client_resets f syn x got other reset kind) says = absurd says
  get_same i seg was a answers m q r (client_closes f syn opened x other still fin kind) says = absurd says
  get_same i seg was a answers m q r (refuses f syn x more other still reached is kind) says = absurd says
  get_same i seg was a answers m q r (adds_choice f syn x more other still reached is whole chosen) says = absurd says
  get_same i seg was a answers m q r (adds_port f syn choice x taken other still chosen others left kind owns) says = absurd says
  get_same i seg was a answers m q r (adds_open server port owner syn x ack acks kind of_server of_port number) says = absurd says
  get_same i seg was a answers m q r (server_resets server port owner syn x got other reset kind) says = absurd says
  get_same i seg was a answers m q r (server_closes server port owner syn opened x other still fin kind) says = absurd says

  one_same : (seg : Segment) (held : List ℕ) (a : Aim) (x : Record) (m : HeldChange) → IsHeldSo seg held a (Decided x ∷ []) m → m ≡ change.Same
  one_same seg held a x m (stays_so b others) = refl

  two_same : (seg : Segment) (held : List ℕ) (a : Aim) (x y : Record) (m : HeldChange) → IsHeldSo seg held a (Decided x ∷ Decided y ∷ []) m → m ≡ change.Same
  two_same seg held a x y m (stays_so b others) = refl

  three_same : (seg : Segment) (held : List ℕ) (server port : ℕ) (x y z : Record) (m : HeldChange) → is_syn_ack seg.head.flags ≡ false
      → IsHeldSo seg held (aim.Server server port) (Decided x ∷ Decided y ∷ Decided z ∷ []) m → m ≡ change.Same
  three_same seg held server port x y z m other (stays_so b others) = refl
  three_same seg held server port x y z m other (drops_opened v p owner syn r others ack same) = absurd (false≢true (sym other ∙ ack))

  pub then_same : (i : ℕ) (seg : Segment) (was : List ℕ) (a : Aim) (answers : List Answer) (changed : HeldChange) (q : Ask) (r : Record)
      → IsAsked setup i seg was a answers changed q → Says K setup q r → (held : List ℕ) (m : HeldChange) → IsHeldSo seg held a (answers ++ Decided r ∷ []) m → m ≡ change.Same
  then_same i seg was a answers changed q r (gets_syn f other) says held m so = one_same seg held a r m so
  then_same i seg was a answers changed q r (gets_open f syn other) says held m so = two_same seg held a syn r m so
  then_same i seg was a answers changed q r (gets_port server port) says held m so = one_same seg held a r m so
  then_same i seg was a answers changed q r (gets_owner server port owner) says held m so = two_same seg held a owner r m so
  then_same i seg was a answers changed q r (gets_owners_open server port owner syn other) says held m so = three_same seg held server port owner syn r m other so
  then_same i seg was a answers changed q r (adds_syn f x is_syn kind number) says held m so = absurd says
  then_same i seg was a answers changed q r (client_resets f syn x got other reset kind) says held m so = absurd says
  then_same i seg was a answers changed q r (client_closes f syn opened x other still fin kind) says held m so = absurd says
  then_same i seg was a answers changed q r (refuses f syn x more other still reached is kind) says held m so = absurd says
  then_same i seg was a answers changed q r (adds_choice f syn x more other still reached is whole chosen) says held m so = absurd says
  then_same i seg was a answers changed q r (adds_port f syn choice x taken other still chosen others left kind owns) says held m so = absurd says
  then_same i seg was a answers changed q r (adds_open server port owner syn x ack acks kind of_server of_port number) says held m so = absurd says
  then_same i seg was a answers changed q r (server_resets server port owner syn x got other reset kind) says held m so = absurd says
  then_same i seg was a answers changed q r (server_closes server port owner syn opened x other still fin kind) says held m so = absurd says

pub after_same : (o : Option Flow) (m : HeldChange) (held : Held) → m ≡ change.Same → held_after o m held ≡ held
after_same None m held is = refl
after_same (Some flow) m held is = ap (λ x. held_after (Some flow) x held) is

-- ---- a desk of a call
module _ (setup : SetupView) (shard : ℕ) (calls : List Call) (c : Call) (call : IsCall setup shard c) (i : ℕ) where
  abbrev b : BenchState
  b = bench_after setup shard calls

  abbrev news : List Mark
  news = log_after setup shard (calls ++ c ∷ [])

  abbrev K : ℕ → JobState → Type 0
  K = KnownJob news setup shard

  abbrev T : ℕ → JobState → Answer → Type 0
  T = KnownAnswer news setup shard

  abbrev pub Knows : Desk → Type 0
  Knows desk = At (Entry news setup) K i desk

  abbrev same : b.setup ≡ setup
  same = same_setup setup shard calls c (sure_after setup shard calls)

  -- what stands, by the table
  turn_says : (desk : Desk) → Knows desk → (turn : JobState × Known) → turn_of b.setup desk ≡ Some turn → Says (Entry news setup) setup turn.0.walk.ask turn.1.item
  turn_says desk at turn is =
      subst (λ (s : SetupView). Says (Entry news setup) s turn.0.walk.ask turn.1.item) same
      (known_says (Entry news setup) b.setup desk.kept turn.0.walk.ask turn.1 at.kept (turn_known b.setup desk turn is))

  -- a move by what is known
  pub record Turned (desk : Desk) (turn : JobState × Known) : Type 0 where
    pub allows : T i turn.0 (Decided turn.1.item)
    pub after : Knows (turned b.setup i desk turn).0
    pub change : (move_of b.setup i turn.0 (Decided turn.1.item) desk.held).held ≡ change.Same
    pub held : (turned b.setup i desk turn).0.held ≡ desk.held
    pub says : Says (Entry news setup) setup turn.0.walk.ask turn.1.item

  pub turn_made : (desk : Desk) → Knows desk → (turn : JobState × Known) → turn_of b.setup desk ≡ Some turn → Turned desk turn
  turn_made desk at turn is =
      let t = turned_at (Entry news setup) K K K T b c (known_kept setup shard calls c call) i desk at turn is in
      let asks = t.0.0.law.asks in
      let says = turn_says desk at turn is in
      let stays : (move_of b.setup i turn.0 (Decided turn.1.item) desk.held).held ≡ change.Same =
      then_same (Entry news setup) setup i turn.0.segment asks.0 turn.0.aim turn.0.answers (next_move setup i turn.0.aim turn.0.segment turn.0.answers asks.0).held turn.0.walk.ask turn.1.item
      (table.asked_is setup i turn.0.aim turn.0.segment turn.0.answers asks.0 turn.0.walk.ask asks.1) says
      (held_by (flow_by turn.0.aim turn.0.answers) desk.held) (move_of b.setup i turn.0 (Decided turn.1.item) desk.held).held
      (subst (λ (s : SetupView). IsHeldSo turn.0.segment (held_by (flow_by turn.0.aim turn.0.answers) desk.held) turn.0.aim (turn.0.answers ++ Decided turn.1.item ∷ []) (move_of s i turn.0 (Decided turn.1.item) desk.held).held)
      (sym same) (change_is setup i turn.0.aim turn.0.segment (turn.0.answers ++ Decided turn.1.item ∷ []) (held_by (flow_by turn.0.aim turn.0.answers) desk.held))) in
      record {
        allows = t.0;
        after = t.1;
        change = stays;
        held = after_same (flow_by turn.0.aim turn.0.answers) _ desk.held stays;
        says = says;
      }

  -- ---- a desk that holds this
  pub record Stands (held : Held) (at : Desk × Reply) : Type 0 where
    pub knows : Knows at.0
    pub holds : at.0.held ≡ held

  pub stands_on : (held : Held) (at : Desk × Reply) (turn : JobState × Known) → turn_of b.setup at.0 ≡ Some turn → Stands held at → Stands held (turned b.setup i at.0 turn)
  stands_on held at turn is has = let t = turn_made at.0 has.knows turn is in record { knows = t.after; holds = t.held ∙ has.holds }

  -- ---- the first desk of a call
  pub known_before : AreCalls setup shard calls → (job : JobState) → job_at b.desks i ≡ Some job → KnownJob news setup shard i job
  known_before are job here = old_known setup shard calls c (jobs_known setup shard calls are) i job here

  pub moved_knows : (job : JobState) (a : Answer) → T i job a → Knows (moved b.setup i job a (desk_at b.desks i)).0
  moved_knows job a has =
      moved_at (Entry news setup) K K K T b c (known_kept setup shard calls c call) i job a (desk_at b.desks i) has (old_kept setup shard calls c (sure_after setup shard calls) i)

  -- where its ask is known, its first move has left what was held
  pub moved_held : (job : JobState) (a : Answer) (has : T i job a) (turn : JobState × Known) → turn_of b.setup (moved b.setup i job a (desk_at b.desks i)).0 ≡ Some turn
      → (moved b.setup i job a (desk_at b.desks i)).0.held ≡ (desk_at b.desks i).held
  moved_held job a has turn is = by (move_of b.setup i job a held).next refl (turn_is b.setup desk turn is)
    where
      desk : Desk
      desk = (moved b.setup i job a (desk_at b.desks i)).0

      held : Held
      held = (desk_at b.desks i).held

      by : (n : Next) → (move_of b.setup i job a held).next ≡ n → job_by job.item job.aim job.segment (job.answers ++ a ∷ []) (move_of b.setup i job a held).next ≡ Some turn.0 → desk.held ≡ held
      by (next.End v outs) ends job_is = absurd (none-some turn.0 (sym (ap (job_by job.item job.aim job.segment (job.answers ++ a ∷ [])) ends) ∙ job_is))
      by (next.Ask q) asks job_is =
          let was : List ℕ = held_by (flow_by job.aim job.answers) held in
          let own : (next_move setup i job.aim job.segment (job.answers ++ a ∷ []) was).next ≡ next.Ask q = subst (λ (s : SetupView). (move_of s i job a held).next ≡ next.Ask q) same asks in
          let q_is : q ≡ turn.0.walk.ask = ask_of turn.0 q (sym (ap (job_by job.item job.aim job.segment (job.answers ++ a ∷ [])) asks) ∙ job_is) in
          let says : Says (Entry news setup) setup q turn.1.item = subst (λ x. Says (Entry news setup) setup x turn.1.item) (sym q_is) (turn_says desk (moved_knows job a has) turn is) in
          let stays : (next_move setup i job.aim job.segment (job.answers ++ a ∷ []) was).held ≡ change.Same =
          get_same (Entry news setup) setup i job.segment was job.aim (job.answers ++ a ∷ []) _ q turn.1.item (table.asked_is setup i job.aim job.segment (job.answers ++ a ∷ []) was q own) says in
          after_same (flow_by job.aim job.answers) _ held (subst (λ (s : SetupView). (move_of s i job a held).held ≡ change.Same) (sym same) stays)
        where
          ask_of : (j : JobState) (q : Ask) → job_by job.item job.aim job.segment (job.answers ++ a ∷ []) (next.Ask q) ≡ Some j → q ≡ j.walk.ask
          ask_of j q is = ap (λ (o : Option JobState). ask_in o) is
            where
              ask_in : Option JobState → Ask
              ask_in None = q
              ask_in (Some x) = x.walk.ask

  -- a Take's
  pub begun_knows : (item : ℕ) (a : Aim) (segment : Segment) → c ≡ Take i item a segment → Knows (begun b.setup i item a segment (desk_at b.desks i)).0
  begun_knows item a segment is =
      begun_at (Entry news setup) K K K T b i item a segment (subst (Keeps (Entry news setup) K K K T b) is (known_kept setup shard calls c call)) (old_kept setup shard calls c (sure_after setup shard calls) i)
