-- What a call sends that ends a handling.
use Rattle.std.proofs.Common.{◌≡◌, ℕ, suc, ◌+◌, true, Option, Some, None, List, [], ◌∷◌, ◌++◌, length, zero-add, inl, inr, append_assoc, refl, sym, ◌∙◌, ap, subst, arith}
use Rattle.std.specs.List.{AllByRecursion}
use Rattle.std.proofs.lemmas.Option.{same_Some}
use Rattle.flow_id.specs.declared.key.Flow.{Flow}
use Rattle.flow_id.specs.declared.key.Key.TheVariants as key
use Rattle.flow_record.specs.Records.{asked_key, choice_server, port_owner, fits_key}
use Rattle.flow_record.specs.declared.record.Record.{Record}
use Rattle.flow_record.specs.declared.record.Ask.{Ask}
use Rattle.server_hand.specs.Opening.{AnswersServer, piece_size}
use Rattle.job_core.specs.Jobs.{flow_by, first_ask}
use Rattle.job_core.specs.Table.{next_move, candidate_of}
use Rattle.job_core.specs.TableLaws.{IsAsked, IsEnded}
use Rattle.job_core.specs.TableLaws.IsAsked.{gets_port, gets_owner, adds_open, gets_owners_open, server_resets, server_closes}
use Rattle.job_core.specs.declared.moves.HeldChange.{HeldChange}
use Rattle.job_core.proofs.Asks.{asked_is}
use Rattle.job_core.specs.TableLaws.IsEnded.{silent as silent_end, answered as answered_end, asked as asked_end, opened as opened_end, to_server as to_server_end, to_client as to_client_end, refused as refused_end, unknown_client as unknown_client_end, unknown_port as unknown_port_end, unknown_owner as unknown_owner_end, turned_away as turned_away_end}
use Rattle.job_core.specs.declared.aim.Aim.{Aim}
use Rattle.job_core.specs.declared.aim.Aim.TheVariants as aim
use Rattle.job_core.specs.declared.moves.Answer.{Answer}
use Rattle.job_core.specs.declared.moves.Answer.TheVariants.{Decided, Absent, Down}
use Rattle.job_core.specs.declared.moves.Next.{Next}
use Rattle.job_core.specs.declared.moves.Next.TheVariants as next
use Rattle.job_core.specs.declared.verdict.Verdict.{Verdict}
use Rattle.job_core.proofs.Ends.{ended_is}
use Rattle.replica_cell.specs.Walks.{walk_after}
use Rattle.rule_table.specs.Setups.{SetupView, IsSetup}
use Rattle.tcp_segment.specs.Sending.{OutsView}
use Rattle.tcp_segment.specs.declared.segment.Segment.{Segment}
use Rattle.bench.specs.declared.call.Call.{Call}
use Rattle.bench.specs.declared.call.Call.TheVariants.{Take, Step, Crash, Fail}
use Rattle.bench.specs.declared.call.Reply.TheVariants as reply
use Rattle.bench.specs.declared.call.Reply.{Reply}
use Rattle.bench.specs.Bench.{JobState, Desk, Held, Known, BenchState, desk_at, job_at, held_of, held_by, reply_by, begun, turn_of, turned, settle, moved, move_of, answer_of, says, stepped_by, step_at}
use Rattle.bench.specs.Calls.{AreCalls, IsCall, IsOnShard}
use Rattle.bench.specs.Histories.{Ended, Mark, JobMove, opening, bench_after, log_after, mark_of, ended_at, ended_by, step_ends, EndedSo, known_move, settle_moves, moves_at, step_moves, move_by, Ends, Decides}
use Rattle.bench.specs.JobLaws.{PortsAnswered, Supported}
use Rattle.bench.specs.Laws.{Asks, EachAnswered}
use Rattle.bench.specs.MoveLaws.{Handles, Sent, IsDone, DoneLaw, move_made}
use Rattle.bench.specs.MoveLaws.Sent.{silent as silent_sent, answered as answered_sent, asked as asked_sent, opened as opened_sent, to_server as to_server_sent, to_client as to_client_sent, refused as refused_sent, unknown_client as unknown_client_sent, unknown_server as unknown_server_sent, turned_away as turned_away_sent}
use Rattle.bench.proofs.Begun.{jobs_known, KnownAnswer}
use Rattle.bench.proofs.Causes.{each_push, setup_all}
use Rattle.bench.proofs.Chains.{owners_syn_law}
use Rattle.bench.proofs.Firsts.{first_is}
use Rattle.bench.proofs.Fits.{decided_fit}
use Rattle.bench.proofs.Growths.{log_more, are_first, are_last}
use Rattle.bench.proofs.Logs.{ends_last}
use Rattle.bench.proofs.Stands.{Knows, known_before, turn_made, moved_knows, moved_held, begun_knows}
use Rattle.bench.proofs.Supports.{supported, server_second}
use Rattle.bench.proofs.Takings.{handles_own, moves_law}
use Rattle.bench.proofs.Turns.{Last, last_of, settle_turns}

-- the last of a list
all_last : {X : Type 0} (P : X → Type 0) (xs : List X) (x : X) → AllByRecursion P (xs ++ x ∷ []) → P x
all_last P [] x all = all.0
all_last P (y ∷ xs) x all = all_last P xs x all.1

-- ---- the answers of a job with one more
-- an answer among those for candidate ports
pub port_at : (log : List Mark) (setup : SetupView) (flow : Flow) (choice : Record) (n : ℕ) (taken : List Answer) (a : Answer) (answers : List Answer)
    → PortsAnswered log setup flow choice n (taken ++ a ∷ answers) → Ends log (key.Port setup.service.number (choice_server choice) (candidate_of setup flow (n + length taken))) a
port_at log setup flow choice n [] a answers ports =
    subst (λ m. Ends log (key.Port setup.service.number (choice_server choice) (candidate_of setup flow m)) a) (omega arith) ports.0
port_at log setup flow choice n (b ∷ taken) a answers ports =
    subst (λ m. Ends log (key.Port setup.service.number (choice_server choice) (candidate_of setup flow m)) a) (omega arith) (port_at log setup flow choice (suc n) taken a answers ports.1)

pub port_after : (log : List Mark) (setup : SetupView) (flow : Flow) (choice : Record) (taken : List Answer) (a : Answer) (answers : List Answer)
    → PortsAnswered log setup flow choice 0 (taken ++ a ∷ answers) → Ends log (key.Port setup.service.number (choice_server choice) (candidate_of setup flow (length taken))) a
port_after log setup flow choice taken a answers ports =
    subst (λ m. Ends log (key.Port setup.service.number (choice_server choice) (candidate_of setup flow m)) a) (zero-add (length taken)) (port_at log setup flow choice 0 taken a answers ports)

-- the flow of a server's segment, by the first answer, where there were two
owner_by : (server port : ℕ) (owner : Record) (x : Answer) (answers before : List Answer) (a : Answer) → Decided owner ∷ x ∷ answers ≡ before ++ a ∷ []
    → flow_by (aim.Server server port) before ≡ Some (port_owner owner)
owner_by server port owner x answers [] a is = absurd (cc)
owner_by server port owner x answers (y ∷ before) a is =
    let first : Decided owner ≡ y = cc in
    subst (λ (z : Answer). flow_by (aim.Server server port) (z ∷ before) ≡ Some (port_owner owner)) first refl

nobody_by : (server port : ℕ) (answers before : List Answer) (a : Answer) → Absent ∷ answers ≡ before ++ a ∷ [] → flow_by (aim.Server server port) before ≡ None
nobody_by server port answers [] a is = refl
nobody_by server port answers (y ∷ before) a is =
    let first : Absent ≡ y = cc in
    subst (λ (z : Answer). flow_by (aim.Server server port) (z ∷ before) ≡ None) first refl

-- ---- what is sent, by the log
module _ (log : List Mark) (setup : SetupView) (seg : Segment) (desk : Held) (before : List Answer) (a : Answer) where
  abbrev held : Flow → List ℕ
  held flow = held_of desk flow

  -- an owner's Syn was not found absent
  abbrev NoOrphan : Aim → List Answer → Type 0
  NoOrphan x answers = (server port : ℕ) (owner : Record) (rest : List Answer) → x ≡ aim.Server server port → answers ≡ Decided owner ∷ Absent ∷ rest → ⊥

  sent_by : (x : Aim) (answers : List Answer) (v : Verdict) (outs : List Segment) → IsEnded setup seg (held_by (flow_by x before) desk) x answers v outs
      → answers ≡ before ++ a ∷ [] → Supported log setup x seg answers → NoOrphan x answers → Sent log setup seg held x (flow_by x before) v outs
  sent_by x answers v outs (silent_end y others verdict silent) is all none = silent_sent x (flow_by x before) v silent
  sent_by x answers v outs (answered_end flow syn others s is_syn same numbers) is all none = answered_sent flow syn s is_syn all.0 same numbers
  sent_by x answers v outs (asked_end flow syn choice owner taken others s no_syn no_reset chosen other own numbers) is all none =
      let chose = all.1.1 no_reset chosen in
      asked_sent flow (choice_server choice) (candidate_of setup flow (length taken)) syn choice owner s no_syn no_reset all.0 chose.0 refl
      (port_after log setup flow choice taken (Decided owner) others chose.1) own numbers
  sent_by x answers v outs (opened_end server port owner syn r others xs syn_ack same numbers) is all none =
      let known : flow_by (aim.Server server port) before ≡ Some (port_owner owner) = owner_by server port owner (Decided syn) (Decided r ∷ others) before a is in
      subst (λ (o : Option Flow). Sent log setup seg held (aim.Server server port) o v outs) (sym known)
      (opened_sent server port owner syn r outs syn_ack all.0 all.1.0 all.1.1 same
      (subst (λ (o : Option Flow). AnswersServer setup syn r (piece_size seg.head.options.mss) (held_by o desk) outs) known numbers))
  sent_by x answers v outs (to_server_end flow syn r others s no_syn numbers) is all none = to_server_sent flow syn r s no_syn all.0 all.1 numbers
  sent_by x answers v outs (to_client_end server port owner syn r others s no_ack numbers) is all none =
      let known : flow_by (aim.Server server port) before ≡ Some (port_owner owner) = owner_by server port owner (Decided syn) (Decided r ∷ others) before a is in
      subst (λ (o : Option Flow). Sent log setup seg held (aim.Server server port) o v outs) (sym known)
      (to_client_sent server port owner syn r s no_ack all.0 all.1.0 all.1.1 numbers)
  sent_by x answers v outs (refused_end flow syn r others why xs no_syn no_reset other back) is all none = refused_sent flow syn why outs no_syn no_reset all.0 back
  sent_by x answers v outs (unknown_client_end flow others xs no_syn back) is all none = unknown_client_sent flow outs no_syn all.0 back
  sent_by x answers v outs (unknown_port_end server port others xs back) is all none =
      subst (λ (o : Option Flow). Sent log setup seg held (aim.Server server port) o v outs) (sym (nobody_by server port others before a is))
      (unknown_server_sent server port outs all back)
  sent_by x answers v outs (unknown_owner_end server port owner others xs back) is all none = absurd (none server port owner others refl refl)
  sent_by x answers v outs (turned_away_end server port owner syn b others s no_ack reset numbers) is all none =
      let known : flow_by (aim.Server server port) before ≡ Some (port_owner owner) = owner_by server port owner (Decided syn) (Absent ∷ b ∷ others) before a is in
      subst (λ (o : Option Flow). Sent log setup seg held (aim.Server server port) o v outs) (sym known)
      (turned_away_sent server port owner syn s no_ack reset all.0 all.1.0 numbers)

-- ---- an owner's Syn is not found absent
abbrev IsOwned : List Answer → Type 0
IsOwned [] = Unit {0}
IsOwned (x ∷ []) = Unit {0}
IsOwned (x ∷ Decided r ∷ answers) = Unit {0}
IsOwned (x ∷ Absent ∷ answers) = ⊥
IsOwned (x ∷ Down ∷ answers) = ⊥

asks_owned : (setup : SetupView) (i : ℕ) (seg : Segment) (held : List ℕ) (server port : ℕ) (answers : List Answer) (x : HeldChange) (q : Ask) → IsAsked setup i seg held (aim.Server server port) answers x q → IsOwned answers
asks_owned setup i seg held server port answers x q (gets_port v p) = tt
asks_owned setup i seg held server port answers x q (gets_owner v p r) = tt
asks_owned setup i seg held server port answers x q (adds_open v p r syn opened ack acks kind of_server of_port number) = tt
asks_owned setup i seg held server port answers x q (gets_owners_open v p r syn other) = tt
asks_owned setup i seg held server port answers x q (server_resets v p r syn g b other reset kind) = tt
asks_owned setup i seg held server port answers x q (server_closes v p r syn opened g other still fin kind) = tt

module _ (setup : SetupView) (shard : ℕ) (good : IsSetup setup) (calls : List Call) (c : Call) (are : AreCalls setup shard (calls ++ c ∷ [])) where
  abbrev b : BenchState
  b = bench_after setup shard calls

  abbrev log : List Mark
  log = log_after setup shard calls

  abbrev news : List Mark
  news = log_after setup shard (calls ++ c ∷ [])

  pub are_before : AreCalls setup shard calls
  are_before = are_first (IsCall setup shard) calls (c ∷ []) are

  pub fit_more : (k : _) (r : Record) → Decides news k r → fits_key k r ≡ true
  fit_more k r decides = (decided_fit setup shard good (calls ++ c ∷ []) are k r decides).0

  -- ---- a job that may move by an answer
  pub each_allowed : (i : ℕ) (job : JobState) (got : Answer) → KnownAnswer news setup shard i job got → EachAnswered news setup i job.aim job.segment [] (job.answers ++ got ∷ [])
  each_allowed i job got has = each_push news setup i job.aim job.segment [] job.answers got has.0.law.answered (job.walk.ask, has.0.law.asks, has.1)

  pub supported_allowed : (i : ℕ) (job : JobState) (got : Answer) → KnownAnswer news setup shard i job got → Supported news setup job.aim job.segment (job.answers ++ got ∷ [])
  supported_allowed i job got has = supported news setup fit_more i job.segment job.aim (job.answers ++ got ∷ []) (each_allowed i job got has)

  -- ---- a job that is given an answer
  module _ (i : ℕ) (job : JobState) (here : job_at b.desks i ≡ Some job) (got : Answer) (ended_so : ended_at b c ≡ Some (record { instance = i; ask = job.walk.ask; answer = got })) where
    pub now_ends : Ends news (asked_key job.walk.ask) got
    now_ends =
        subst (λ (l : List Mark). Ends l (asked_key job.walk.ask) got) (sym (log_more setup shard calls c))
        (ends_last log (mark_of b c) (asked_key job.walk.ask) got (subst (λ (o : Option Ended). EndedSo o (asked_key job.walk.ask) got) (sym ended_so) (refl, refl)))

    pub allowed_now : KnownAnswer news setup shard i job got
    allowed_now = (known_before setup shard calls c (are_last (IsCall setup shard) calls c are) i are_before job here, now_ends)

    pub supported_more : Supported news setup job.aim job.segment (job.answers ++ got ∷ [])
    supported_more = supported_allowed i job got allowed_now

    orphan_by : (server port : ℕ) (owner : Record) (rest before : List Answer) (x : Answer) → job.aim ≡ aim.Server server port → job.answers ≡ before → got ≡ x
        → before ++ x ∷ [] ≡ Decided owner ∷ Absent ∷ rest → ⊥
    orphan_by server port owner rest [] x of same last is = absurd (cc)
    orphan_by server port owner rest (y ∷ []) x of same last is =
        let known = jobs_known setup shard calls are_before i job here in
        let first : y ≡ Decided owner = cc in
        let absent : x ≡ Absent = cc in
        let had : job.answers ≡ Decided owner ∷ [] = same ∙ ap (λ (z : Answer). z ∷ []) first in
        let asks : Asks setup i (aim.Server server port) job.segment (Decided owner ∷ []) job.walk.ask =
        subst (λ (z : Aim). Asks setup i z job.segment (Decided owner ∷ []) job.walk.ask) of (subst (λ (zs : List Answer). Asks setup i job.aim job.segment zs job.walk.ask) had known.law.asks) in
        let each : EachAnswered log setup i (aim.Server server port) job.segment [] (Decided owner ∷ []) =
        subst (λ (z : Aim). EachAnswered log setup i z job.segment [] (Decided owner ∷ [])) of (subst (λ (zs : List Answer). EachAnswered log setup i job.aim job.segment [] zs) had known.law.answered) in
        let all : Supported log setup (aim.Server server port) job.segment (Decided owner ∷ []) =
        supported log setup (λ k r decides. (decided_fit setup shard good calls are_before k r decides).0) i job.segment (aim.Server server port) (Decided owner ∷ []) each in
        let named : asked_key job.walk.ask ≡ key.Syn (port_owner owner) =
        server_second setup i job.segment asks.0 server port owner _ job.walk.ask (asked_is setup i (aim.Server server port) job.segment (Decided owner ∷ []) asks.0 job.walk.ask asks.1) in
        owners_syn_law setup shard good calls are_before setup.service.number server port owner all.0 c (record { instance = i; ask = job.walk.ask; answer = got }) ended_so named (last ∙ absent)
    orphan_by server port owner rest (y ∷ z ∷ before) x of same last is =
        let known = jobs_known setup shard calls are_before i job here in
        let second : z ≡ Absent = cc in
        let asks : Asks setup i (aim.Server server port) job.segment (y ∷ Absent ∷ before) job.walk.ask =
        subst (λ (w : Aim). Asks setup i w job.segment (y ∷ Absent ∷ before) job.walk.ask) of
        (subst (λ (zs : List Answer). Asks setup i job.aim job.segment zs job.walk.ask) (same ∙ ap (λ (w : Answer). y ∷ w ∷ before) second) known.law.asks) in
        asks_owned setup i job.segment asks.0 server port (y ∷ Absent ∷ before) _ job.walk.ask (asked_is setup i (aim.Server server port) job.segment (y ∷ Absent ∷ before) asks.0 job.walk.ask asks.1)

    no_orphan : NoOrphan news setup job.segment (desk_at b.desks i).held job.answers got job.aim (job.answers ++ got ∷ [])
    no_orphan server port owner rest of is = orphan_by server port owner rest job.answers got of refl refl is

  -- nor where a known record is the answer
  no_orphan_known : (desk : Held) (i : ℕ) (job : JobState) (r : Record) → KnownAnswer news setup shard i job (Decided r) → NoOrphan news setup job.segment desk job.answers (Decided r) job.aim (job.answers ++ Decided r ∷ [])
  no_orphan_known desk i job r has server port owner rest of is = by job.answers refl is
    where
      by : (before : List Answer) → job.answers ≡ before → before ++ Decided r ∷ [] ≡ Decided owner ∷ Absent ∷ rest → ⊥
      by [] same is = absurd (cc)
      by (y ∷ []) same is = let second : Decided r ≡ Absent = cc in absurd (cc)
      by (y ∷ z ∷ before) same is =
          let second : z ≡ Absent = cc in
          let asks : Asks setup i (aim.Server server port) job.segment (y ∷ Absent ∷ before) job.walk.ask =
          subst (λ (w : Aim). Asks setup i w job.segment (y ∷ Absent ∷ before) job.walk.ask) of
          (subst (λ (zs : List Answer). Asks setup i job.aim job.segment zs job.walk.ask) (same ∙ ap (λ (w : Answer). y ∷ w ∷ before) second) has.0.law.asks) in
          asks_owned setup i job.segment asks.0 server port (y ∷ Absent ∷ before) _ job.walk.ask (asked_is setup i (aim.Server server port) job.segment (y ∷ Absent ∷ before) asks.0 job.walk.ask asks.1)

-- ---- a call that ends a handling
done_is : (v w : Verdict) (xs ys : OutsView) → reply.Done v xs ≡ reply.Done w ys → (v ≡ w) × (xs ≡ ys)
done_is v w xs ys is = (cc, cc)

ends_by : (n : Next) (v : Verdict) (outs : OutsView) → reply_by n ≡ reply.Done v outs → n ≡ next.End v outs
ends_by (next.Ask ask) v outs is = absurd (cc)
ends_by (next.End w xs) v outs is = cc

module _ (setup : SetupView) (shard : ℕ) (good : IsSetup setup) (calls : List Call) (c : Call) (are : AreCalls setup shard (calls ++ c ∷ [])) (v : Verdict) (outs : OutsView) (i : ℕ) where
  abbrev bench : BenchState
  bench = bench_after setup shard calls

  abbrev call : IsCall setup shard c
  call = are_last (IsCall setup shard) calls c are

  abbrev held_now : Held
  held_now = (desk_at bench.desks i).held

  abbrev same : bench.setup ≡ setup
  same = setup_all calls (opening setup shard)

  abbrev whole : List Mark
  whole = log_after setup shard (calls ++ c ∷ [])

  -- a desk between its moves: where an ask is known it holds what it held before the call
  record Between (at : Desk × Reply) : Type 0 where
    knows : Knows setup shard calls c call i at.0
    holds : (turn : JobState × Known) → turn_of bench.setup at.0 ≡ Some turn → at.0.held ≡ held_now

  between_on : (at : Desk × Reply) (turn : JobState × Known) → turn_of bench.setup at.0 ≡ Some turn → Between at → Between (turned bench.setup i at.0 turn)
  between_on at turn is has =
      let t = turn_made setup shard calls c call i at.0 has.knows turn is in
      record { knows = t.after; holds = λ more more_is. t.held ∙ has.holds turn is }

  -- ---- a move that ends the handling
  done_by : (earlier : List JobMove) (job : JobState) (got : Answer) → moves_at bench c ≡ earlier ++ record { instance = i; job = job; answer = got; held = held_by (flow_by job.aim job.answers) held_now } ∷ []
      → Handles bench c i job.aim job.segment → KnownAnswer whole setup shard i job got → NoOrphan whole setup job.segment held_now job.answers got job.aim (job.answers ++ got ∷ [])
      → reply_by (move_of bench.setup i job got held_now).next ≡ reply.Done v outs → IsDone setup shard calls c v outs
  done_by earlier job got made handles allowed none replied =
      let m : JobMove = record { instance = i; job = job; answer = got; held = held_by (flow_by job.aim job.answers) held_now } in
      let is_end : (move_made setup m).next ≡ next.End v outs =
      subst (λ (s : SetupView). (next_move s i job.aim job.segment (job.answers ++ got ∷ []) (held_by (flow_by job.aim job.answers) held_now)).next ≡ next.End v outs) same
      (ends_by (move_of bench.setup i job got held_now).next v outs replied) in
      record {
        earlier = earlier;
        last = m;
        moves = made;
        ends = is_end;
        handles = handles;
        aimed = allowed.0.aimed;
        sent = sent_by whole setup job.segment held_now job.answers got job.aim (job.answers ++ got ∷ []) v outs.list
            (ended_is setup i job.aim job.segment (job.answers ++ got ∷ []) (held_by (flow_by job.aim job.answers) held_now) v outs is_end) refl
            (supported_allowed setup shard good calls c are i job got allowed) none;
      }

  -- ---- a move by what is known
  known_done : (before : List JobMove) (at end : Desk × Reply) (moves : List JobMove) → moves_at bench c ≡ before ++ moves → Last bench.setup i Between between_on moves end
      → AllByRecursion (λ m. Handles bench c m.instance m.job.aim m.job.segment) (moves_at bench c)
      → end.1 ≡ reply.Done v outs → IsDone setup shard calls c v outs
  known_done before at end moves made last handles replied =
      let t = turn_made setup shard calls c call i last.at.0 last.has.knows last.turn last.is in
      let same_held : last.at.0.held ≡ held_now = last.has.holds last.turn last.is in
      done_by (before ++ last.earlier) last.turn.0 (Decided last.turn.1.item)
      (made ∙ ap (λ (l : List JobMove). before ++ l) last.are ∙ sym (append_assoc before last.earlier (known_move i last.at.0 last.turn ∷ []))
      ∙ ap (λ (h : Held). (before ++ last.earlier) ++ record { instance = i; job = last.turn.0; answer = Decided last.turn.1.item; held = held_by (flow_by last.turn.0.aim last.turn.0.answers) h } ∷ []) same_held)
      (all_last (λ m. Handles bench c m.instance m.job.aim m.job.segment) (before ++ last.earlier) (known_move i last.at.0 last.turn)
      (subst (AllByRecursion (λ m. Handles bench c m.instance m.job.aim m.job.segment)) (made ∙ ap (λ (l : List JobMove). before ++ l) last.are ∙ sym (append_assoc before last.earlier (known_move i last.at.0 last.turn ∷ []))) handles)) t.allows (no_orphan_known setup shard good calls c are held_now i last.turn.0 last.turn.1.item t.allows)
      (subst (λ (h : Held). reply_by (move_of bench.setup i last.turn.0 (Decided last.turn.1.item) h).next ≡ reply.Done v outs) same_held
      (sym (ap (λ (x : Desk × Reply). x.1) last.ends) ∙ replied))

module _ (setup : SetupView) (shard : ℕ) (good : IsSetup setup) (calls : List Call) (v : Verdict) (outs : OutsView) where
  abbrev now : BenchState
  now = bench_after setup shard calls

  module _ (i : ℕ) (are : AreCalls setup shard (calls ++ Step i ∷ [])) (job : JobState) (here : job_at now.desks i ≡ Some job) where
    abbrev desk : Desk
    desk = desk_at now.desks i

    answered_by : (o : Option Answer) → answer_of (says now.cells job) ≡ o
        → (stepped_by now.setup i job desk (walk_after job.walk now.cells) o).1 ≡ reply.Done v outs → IsDone setup shard calls (Step i) v outs
    answered_by None said replied = absurd (cc)
    answered_by (Some got) said replied =
        let c : Call = Step i in
        let call : IsCall setup shard c = are_last (IsCall setup shard) calls c are in
        let m : JobMove = record { instance = i; job = job; answer = got; held = held_by (flow_by job.aim job.answers) desk.held } in
        let ended_so : ended_at now c ≡ Some (record { instance = i; ask = job.walk.ask; answer = got }) = ap (step_ends now i) here ∙ ap (ended_by i job) said in
        let at : Desk × Reply = moved now.setup i job got desk in
        let made : moves_at now c ≡ m ∷ settle_moves now.setup i at = ap (step_moves now i) here ∙ ap (move_by now.setup i job desk) said in
        let allowed : KnownAnswer (log_after setup shard (calls ++ c ∷ [])) setup shard i job got = allowed_now setup shard good calls c are i job here got ended_so in
        elim (last_of now.setup i (Between setup shard good calls c are v outs i) (between_on setup shard good calls c are v outs i) at (settle now.setup i at) (settle_moves now.setup i at) (settle_turns now.setup i at)
        (record { knows = moved_knows setup shard calls c call i job got allowed; holds = λ turn is. moved_held setup shard calls c call i job got allowed turn is })) [
          | inl none ↦ done_by setup shard good calls c are v outs i [] job got (made ∙ ap (λ (l : List JobMove). m ∷ l) none.0) (handles_own now i job here) allowed
              (no_orphan setup shard good calls c are i job here got ended_so) (sym (ap (λ (x : Desk × Reply). x.1) none.1) ∙ replied)
          | inr last ↦ known_done setup shard good calls c are v outs i (m ∷ []) at (settle now.setup i at) (settle_moves now.setup i at) made last (moves_law setup shard calls c) replied
        ]

    stepped_done : (o : Option JobState) → job_at now.desks i ≡ o → (step_at now i o).1 ≡ reply.Done v outs → o ≡ Some job → IsDone setup shard calls (Step i) v outs
    stepped_done None at replied is = absurd (cc)
    stepped_done (Some j) at replied is =
        answered_by (answer_of (says now.cells job)) refl
        (subst (λ (x : JobState). (stepped_by now.setup i x desk (walk_after x.walk now.cells) (answer_of (says now.cells x))).1 ≡ reply.Done v outs)
        (same_Some _ _ is) replied)

  step_done : (i : ℕ) → AreCalls setup shard (calls ++ Step i ∷ []) → (o : Option JobState) → job_at now.desks i ≡ o → (step_at now i o).1 ≡ reply.Done v outs → IsDone setup shard calls (Step i) v outs
  step_done i are None here replied = absurd (cc)
  step_done i are (Some job) here replied = stepped_done i are job here (Some job) here replied refl

  -- ---- a Take
  module _ (i item : ℕ) (a : Aim) (segment : Segment) (are : AreCalls setup shard (calls ++ Take i item a segment ∷ [])) where
    abbrev t : Call
    t = Take i item a segment

    abbrev taken_call : IsCall setup shard t
    taken_call = are_last (IsCall setup shard) calls t are

    abbrev first : Desk × Reply
    first = begun now.setup i item a segment (desk_at now.desks i)

    take_done : (settle now.setup i first).1 ≡ reply.Done v outs → IsDone setup shard calls t v outs
    take_done replied =
        elim (last_of now.setup i (Between setup shard good calls t are v outs i) (between_on setup shard good calls t are v outs i) first (settle now.setup i first) (settle_moves now.setup i first) (settle_turns now.setup i first)
        (record { knows = begun_knows setup shard calls t taken_call i item a segment refl; holds = λ turn is. refl })) [
          | inl none ↦ absurd (no_end (next_move now.setup i a segment [] []).next (first_is now.setup shard i a segment (here)) (sym (ap (λ (x : Desk × Reply). x.1) none.1) ∙ replied))
          | inr last ↦ known_done setup shard good calls t are v outs i [] first (settle now.setup i first) (settle_moves now.setup i first) refl last (moves_law setup shard calls t) replied
        ]
      where
        same : now.setup ≡ setup
        same = setup_all calls (opening setup shard)

        here : IsOnShard now.setup shard a
        here = subst (λ (s : SetupView). IsOnShard s shard a) (sym same) taken_call.1.1

        no_end : (n : Next) → n ≡ next.Ask (first_ask now.setup a segment) → reply_by n ≡ reply.Done v outs → ⊥
        no_end (next.Ask q) is replied = absurd (cc)
        no_end (next.End w xs) is replied = absurd (cc)

pub done_law : (setup : SetupView) (shard : ℕ) → IsSetup setup → DoneLaw setup shard
done_law setup shard good calls (Take i item a segment) are v outs replied = take_done setup shard good calls v outs i item a segment are replied
done_law setup shard good calls (Step i) are v outs replied = step_done setup shard good calls v outs i are (job_at (bench_after setup shard calls).desks i) refl replied
done_law setup shard good calls (Crash n) are v outs replied = absurd (cc)
done_law setup shard good calls (Fail place) are v outs replied = absurd (cc)
