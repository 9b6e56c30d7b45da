-- A segment of a kept flow that neither opens nor ends a connection: it is passed on in the call that takes it.
use Rattle.std.proofs.Common.{◌≡◌, ℕ, suc, Bool, true, false, Option, Some, None, List, [], ◌∷◌, ◌++◌, refl, sym, ◌∙◌, ap, subst}
use Rattle.std.specs.Prelude.{option_map, cond, if◌then◌else◌}
use Rattle.std.specs.Map.{lookup, lookup_entry, remove_entry}
use Rattle.std.specs.Option.{is_some, option_map_or}
use Rattle.std.proofs.lemmas.Bool.{eq-eqb, false≢true}
use Rattle.std.proofs.lemmas.Option.{none-some, same_Some}
use Rattle.lru.proofs.CallerLemmas.{Contains-lookup_entry}
use Rattle.lru.proofs.Pairs.{lookup-lookup_entry}
use Rattle.lru.specs.LruCache.{promoted}
use Rattle.flow_id.proofs.SameKeys.{same_flow_itself}
use Rattle.flow_id.specs.Keys.{same_flow}
use Rattle.flow_id.specs.declared.key.Flow.{Flow}
use Rattle.flow_id.specs.declared.key.Key.TheVariants as key
use Rattle.flow_record.specs.declared.record.Ask.{Ask}
use Rattle.flow_record.specs.declared.record.Ask.TheVariants.{Get}
use Rattle.flow_record.specs.declared.record.Record.{Record}
use Rattle.flow_record.specs.declared.record.Record.TheVariants.{Port}
use Rattle.job_core.specs.Aims.{is_syn, is_syn_ack, is_reset}
use Rattle.job_core.specs.Jobs.{flow_by}
use Rattle.job_core.specs.Moves.{asks, ends}
use Rattle.job_core.specs.Table.{next_move, to_server_of, to_client_of}
use Rattle.job_core.specs.declared.aim.Aim.{Aim}
use Rattle.job_core.specs.declared.aim.Aim.TheVariants as aim
use Rattle.job_core.specs.declared.moves.Answer.{Answer}
use Rattle.job_core.specs.declared.moves.Answer.TheVariants.{Decided}
use Rattle.job_core.specs.declared.moves.HeldChange.TheVariants as change
use Rattle.job_core.specs.declared.moves.Move.{Move}
use Rattle.job_core.specs.declared.moves.Next.TheVariants as next
use Rattle.job_core.specs.declared.verdict.Verdict.TheVariants.{Forwarded}
use Rattle.kept_records.specs.Entries.{Entries, kept_of, in_front, opens_to, owner_of}
use Rattle.kept_records.specs.declared.entry.Kept.{Kept}
use Rattle.replica_cell.specs.Walks.{start_of}
use Rattle.rule_table.specs.Setups.{SetupView}
use Rattle.tcp_segment.specs.Sending.{outs_of}
use Rattle.tcp_segment.specs.declared.segment.Segment.{Segment}
use Rattle.bench.specs.declared.call.Reply.{Reply}
use Rattle.bench.specs.declared.call.Reply.TheVariants as reply
use Rattle.bench.specs.Bench.{JobState, Desk, Held, Known, known, move_of, moved, moved_by, used, settled, settled_by, settle, begun_by, taken, IsOfKept, IsPassedAtOnce}
use Rattle.bench.specs.Passing.{IsFor, IsMidway, passed_on}
use Rattle.bench.proofs.Keepings.{ended_turn, settled_rests}
use Rattle.bench.proofs.Settlings.{settle_is}
use Rattle.bench.proofs.Stands.{after_same}

-- ---- an entry that is in front already
module _ {V : Type 0} (test : Flow → Bool) where
  first_again : (e : Flow × V) (es : List (Flow × V)) → test e.0 ≡ true → promoted test (e ∷ es) ≡ e ∷ es
  first_again e es passes =
      ap (λ (b : Bool). option_map_or (λ f. f ∷ cond b es (e ∷ remove_entry test es)) (cond b (Some e) (lookup_entry test es)) (e ∷ es)) passes

  promoted_again : (es : List (Flow × V)) → promoted test (promoted test es) ≡ promoted test es
  promoted_again es = by (lookup_entry test es) refl
    where
      by : (o : Option (Flow × V)) → lookup_entry test es ≡ o → promoted test (promoted test es) ≡ promoted test es
      by None none = ap (promoted test) (ap (λ o. option_map_or (λ e. e ∷ remove_entry test es) o es) none)
      by (Some e) found =
          let front : promoted test es ≡ e ∷ remove_entry test es = ap (λ o. option_map_or (λ f. f ∷ remove_entry test es) o es) found in
          ap (promoted test) front ∙ first_again e (remove_entry test es) (Contains-lookup_entry test es e found).1 ∙ sym front

  promoted_has : (es : List (Flow × V)) (v : V) → lookup test es ≡ Some v → lookup test (promoted test es) ≡ Some v
  promoted_has es v is = by (lookup_entry test es) refl
    where
      by : (o : Option (Flow × V)) → lookup_entry test es ≡ o → lookup test (promoted test es) ≡ Some v
      by None none = ap (λ o. lookup test (option_map_or (λ e. e ∷ remove_entry test es) o es)) none ∙ is
      by (Some e) found =
          let same : e.1 ≡ v = same_Some _ _ (sym (ap (option_map (λ (f : Flow × V). f.1)) found) ∙ lookup-lookup_entry test es ∙ is) in
          ap (λ o. lookup test (option_map_or (λ f. f ∷ remove_entry test es) o es)) found
          ∙ ap (λ (b : Bool). cond b (Some e.1) (lookup test (remove_entry test es))) (Contains-lookup_entry test es e found).1
          ∙ ap Some same

  promoted_none : (es : List (Flow × V)) → lookup test es ≡ None → promoted test es ≡ es
  promoted_none es is = by (lookup_entry test es) refl
    where
      by : (o : Option (Flow × V)) → lookup_entry test es ≡ o → promoted test es ≡ es
      by None none = ap (λ o. option_map_or (λ e. e ∷ remove_entry test es) o es) none
      by (Some e) found = absurd (none-some e.1 (sym is ∙ sym (lookup-lookup_entry test es) ∙ ap (option_map (λ (f : Flow × V). f.1)) found))

pub front_again : (kept : Entries) (flow : Flow) → in_front (in_front kept flow) flow ≡ in_front kept flow
front_again kept flow = promoted_again (same_flow flow) kept

pub front_has : (kept : Entries) (flow : Flow) (k : Kept) → kept_of kept flow ≡ Some k → kept_of (in_front kept flow) flow ≡ Some k
front_has kept flow k is = promoted_has (same_flow flow) kept k is

pub front_none : (kept : Entries) (flow : Flow) → kept_of kept flow ≡ None → in_front kept flow ≡ kept
front_none kept flow none = promoted_none (same_flow flow) kept none

-- ---- what the table says of such a segment
module _ (setup : SetupView) (i : ℕ) (seg : Segment) (midway : IsMidway seg.head.flags) where
  not_syn : is_syn seg.head.flags ≡ false
  not_syn = rw midway.0 refl

  not_syn_ack : is_syn_ack seg.head.flags ≡ false
  not_syn_ack = rw midway.0 refl

  not_reset : is_reset seg.head.flags ≡ false
  not_reset = rw midway.2 refl

  module _ (flow : Flow) (held : List ℕ) where
    client_asks_syn : next_move setup i (aim.Client flow) seg [] held ≡ asks (Get (key.Syn flow))
    unfolding next_move
    client_asks_syn = rw not_syn refl

    client_asks_open : (syn : Record) → next_move setup i (aim.Client flow) seg (Decided syn ∷ []) held ≡ asks (Get (key.Open flow))
    unfolding next_move
    client_asks_open syn = rw (not_syn, not_reset) refl

    client_passes : (syn opened : Record) → next_move setup i (aim.Client flow) seg (Decided syn ∷ Decided opened ∷ []) held ≡ ends Forwarded (to_server_of setup flow seg syn opened ∷ [])
    unfolding next_move
    client_passes syn opened = rw (not_syn, not_reset, midway.1) refl

  module _ (server port : ℕ) (held : List ℕ) where
    server_asks_port : next_move setup i (aim.Server server port) seg [] held ≡ asks (Get (key.Port setup.service.number server port))
    unfolding next_move
    server_asks_port = refl

    module _ (flow : Flow) where
      server_asks_syn : next_move setup i (aim.Server server port) seg (Decided (Port flow) ∷ []) held ≡ asks (Get (key.Syn flow))
      unfolding next_move
      server_asks_syn = refl

      server_asks_open : (syn : Record) → next_move setup i (aim.Server server port) seg (Decided (Port flow) ∷ Decided syn ∷ []) held ≡ asks (Get (key.Open flow))
      unfolding next_move
      server_asks_open syn = rw (not_syn_ack, not_reset) refl

      server_passes : (syn opened : Record) → next_move setup i (aim.Server server port) seg (Decided (Port flow) ∷ Decided syn ∷ Decided opened ∷ []) held
          ≡ ends Forwarded (to_client_of setup flow seg syn opened ∷ [])
      unfolding next_move
      server_passes syn opened = rw (not_syn_ack, not_reset, midway.1) refl

-- ---- the turns
module _ (setup : SetupView) (i item : ℕ) (a : Aim) (seg : Segment) (held : Held) where
  abbrev job_with : List Answer → Ask → JobState
  job_with answers q = record { item = item; aim = a; segment = seg; answers = answers; walk = start_of q }

  -- the desk while its job is settled
  abbrev at : List Answer → Ask → Entries → Desk × Reply
  at answers q kept = (record { job = Some (job_with answers q); held = held; kept = kept }, reply.Going)

  known_turn : (n : ℕ) (answers : List Answer) (q : Ask) (kept : Entries) (k : Known) → known setup kept q ≡ Some k
      → settled (suc n) setup i (at answers q kept) ≡ settled n setup i (moved setup i (job_with answers q) (Decided k.item) (used (at answers q kept).0 k.flow))
  known_turn n answers q kept k is =
      ap (λ (o : Option Known). settled_by (settled n setup i) setup i (at answers q kept) (option_map {T = Known} {U = JobState × Known} (λ x. (job_with answers q, x)) o)) is

  -- a turn that leads to an ask
  turn_asks : (n : ℕ) (answers : List Answer) (q : Ask) (kept : Entries) (k : Known) → known setup kept q ≡ Some k → (p : Ask)
      → move_of setup i (job_with answers q) (Decided k.item) held ≡ asks p
      → settled (suc n) setup i (at answers q kept) ≡ settled n setup i (at (answers ++ Decided k.item ∷ []) p (in_front kept k.flow))
  turn_asks n answers q kept k is p move =
      known_turn n answers q kept k is
      ∙ ap (λ (m : Move). settled n setup i (moved_by (job_with answers q) (Decided k.item) (used (at answers q kept).0 k.flow) m)) move
      ∙ ap (λ (h : Held). settled n setup i (record { job = Some (job_with (answers ++ Decided k.item ∷ []) p); held = h; kept = in_front kept k.flow }, reply.Going))
      (after_same (flow_by a answers) change.Same held refl)

  -- .. and the one that passes the segment on
  turn_ends : (n : ℕ) (answers : List Answer) (q : Ask) (kept : Entries) (k : Known) → known setup kept q ≡ Some k → (out : Segment)
      → (next_move setup i a seg answers []).next ≡ next.Ask q
      → move_of setup i (job_with answers q) (Decided k.item) held ≡ ends Forwarded (out ∷ [])
      → settled (suc n) setup i (at answers q kept) ≡ (record { job = None; held = held; kept = in_front kept k.flow }, reply.Done Forwarded (outs_of (out ∷ [])))
  turn_ends n answers q kept k is out asked move =
      let done : Desk × Reply = (record { job = None; held = held; kept = in_front kept k.flow }, reply.Done Forwarded (outs_of (out ∷ []))) in
      known_turn n answers q kept k is
      ∙ ap (settled n setup i) (ended_turn setup i (job_with answers q) (at answers q kept).0 k ([], asked) is (ends Forwarded (out ∷ [])) (sym move) Forwarded (outs_of (out ∷ [])) refl refl)
      ∙ settled_rests setup i n done refl

-- ---- the call
abbrev pub passes : SetupView → Aim → Segment → Held → Entries → Flow → Kept → Desk × Reply
passes setup a seg held kept flow k =
    (record { job = None; held = held; kept = in_front kept flow }, reply.Done Forwarded (outs_of (passed_on setup a seg k flow ∷ [])))

module _ (setup : SetupView) (i item : ℕ) (seg : Segment) (midway : IsMidway seg.head.flags) (held : Held) (kept : Entries) (flow : Flow) (k : Kept) (has : kept_of kept flow ≡ Some k) where
  syn_known : (es : Entries) → kept_of es flow ≡ Some k → known setup es (Get (key.Syn flow)) ≡ Some (record { flow = flow; item = k.syn })
  syn_known es is = ap (option_map (λ (x : Kept). record { flow = flow; item = x.syn })) is

  open_known : (es : Entries) → kept_of es flow ≡ Some k → known setup es (Get (key.Open flow)) ≡ Some (record { flow = flow; item = k.opened })
  open_known es is = ap (option_map (λ (x : Kept). record { flow = flow; item = x.opened })) is

  abbrev fronted : Entries
  fronted = in_front kept flow

  fronted_has : kept_of fronted flow ≡ Some k
  fronted_has = front_has kept flow k has

  client_settles : (n : ℕ) → settled (suc (suc n)) setup i (at setup i item (aim.Client flow) seg held [] (Get (key.Syn flow)) kept) ≡ passes setup (aim.Client flow) seg held kept flow k
  client_settles n =
      turn_asks setup i item (aim.Client flow) seg held (suc n) [] (Get (key.Syn flow)) kept (record { flow = flow; item = k.syn }) (syn_known kept has) (Get (key.Open flow))
      (client_asks_open setup i seg midway flow _ k.syn)
      ∙ turn_ends setup i item (aim.Client flow) seg held n (Decided k.syn ∷ []) (Get (key.Open flow)) fronted (record { flow = flow; item = k.opened }) (open_known fronted fronted_has)
      (to_server_of setup flow seg k.syn k.opened) (ap (λ (m : Move). m.next) (client_asks_open setup i seg midway flow [] k.syn)) (client_passes setup i seg midway flow _ k.syn k.opened)
      ∙ ap (λ (es : Entries). (record { job = None; held = held; kept = es }, reply.Done Forwarded (outs_of (to_server_of setup flow seg k.syn k.opened ∷ [])))) (front_again kept flow)

  module _ (server port : ℕ) (owned : owner_of kept server port ≡ Some flow) where
    port_known : known setup kept (Get (key.Port setup.service.number server port)) ≡ Some (record { flow = flow; item = Port flow })
    port_known =
        ap (λ (b : Bool). if b then option_map (λ (f : Flow). record { flow = f; item = Port f }) (owner_of kept server port) else None) (eq-eqb setup.service.number setup.service.number refl)
        ∙ ap (option_map (λ (f : Flow). record { flow = f; item = Port f })) owned

    server_settles : (n : ℕ) → settled (suc (suc (suc n))) setup i (at setup i item (aim.Server server port) seg held [] (Get (key.Port setup.service.number server port)) kept)
        ≡ passes setup (aim.Server server port) seg held kept flow k
    server_settles n =
        let twice : Entries = in_front fronted flow in
        let twice_has : kept_of twice flow ≡ Some k = front_has fronted flow k fronted_has in
        turn_asks setup i item (aim.Server server port) seg held (suc (suc n)) [] (Get (key.Port setup.service.number server port)) kept (record { flow = flow; item = Port flow }) port_known (Get (key.Syn flow))
        (server_asks_syn setup i seg midway server port _ flow)
        ∙ turn_asks setup i item (aim.Server server port) seg held (suc n) (Decided (Port flow) ∷ []) (Get (key.Syn flow)) fronted (record { flow = flow; item = k.syn }) (syn_known fronted fronted_has)
        (Get (key.Open flow)) (server_asks_open setup i seg midway server port _ flow k.syn)
        ∙ turn_ends setup i item (aim.Server server port) seg held n (Decided (Port flow) ∷ Decided k.syn ∷ []) (Get (key.Open flow)) twice (record { flow = flow; item = k.opened }) (open_known twice twice_has)
        (to_client_of setup flow seg k.syn k.opened) (ap (λ (m : Move). m.next) (server_asks_open setup i seg midway server port [] flow k.syn)) (server_passes setup i seg midway server port _ flow k.syn k.opened)
        ∙ ap (λ (es : Entries). (record { job = None; held = held; kept = es }, reply.Done Forwarded (outs_of (to_client_of setup flow seg k.syn k.opened ∷ []))))
        (front_again fronted flow ∙ front_again kept flow)

pub at_once : (setup : SetupView) (i item : ℕ) (a : Aim) (seg : Segment) (desk : Desk) (flow : Flow) (k : Kept) → IsFor desk.kept a (flow, k) → IsMidway seg.head.flags
    → taken setup i item a seg desk ≡ passes setup a seg desk.held desk.kept flow k
at_once setup i item (aim.Client client) seg desk flow k is midway =
    let own : client ≡ flow = same_Some _ _ is.0 in
    let has : kept_of desk.kept client ≡ Some k = subst (λ (f : Flow). kept_of desk.kept f ≡ Some k) (sym own) is.1 in
    ap (λ (m : Move). settle setup i (begun_by item (aim.Client client) seg desk m.next)) (client_asks_syn setup i seg midway client [])
    ∙ sym (settle_is setup i (at setup i item (aim.Client client) seg desk.held [] (Get (key.Syn client)) desk.kept))
    ∙ client_settles setup i item seg midway desk.held desk.kept client k has 9
    ∙ ap (λ (f : Flow). passes setup (aim.Client client) seg desk.held desk.kept f k) own
at_once setup i item (aim.Server server port) seg desk flow k is midway =
    ap (λ (m : Move). settle setup i (begun_by item (aim.Server server port) seg desk m.next)) (server_asks_port setup i seg midway server port [])
    ∙ sym (settle_is setup i (at setup i item (aim.Server server port) seg desk.held [] (Get (key.Port setup.service.number server port)) desk.kept))
    ∙ server_settles setup i item seg midway desk.held desk.kept flow k is.1 server port is.0 8
at_once setup i item (aim.Odd flags) seg desk flow k is midway = absurd (none-some flow is.0)
at_once setup i item aim.NotOurs seg desk flow k is midway = absurd (none-some flow is.0)

-- ---- a kept flow's segment
-- the owner of a server's port has an entry
owner_kept : (kept : Entries) (server port : ℕ) (flow : Flow) → owner_of kept server port ≡ Some flow → (k : Kept) × (kept_of kept flow ≡ Some k)
owner_kept [] server port flow is = absurd (none-some flow is)
owner_kept (e ∷ kept) server port flow is = by (opens_to server port e.1) (same_flow flow e.0) refl is (owner_kept kept server port flow)
  where
    by : (opens same : Bool) → same_flow flow e.0 ≡ same → (if opens then Some e.0 else owner_of kept server port) ≡ Some flow
        → (owner_of kept server port ≡ Some flow → (k : Kept) × (kept_of kept flow ≡ Some k)) → (k : Kept) × (cond same (Some e.1) (kept_of kept flow) ≡ Some k)
    by opens true same owned rest = (e.1, refl)
    by true false same owned rest =
        absurd (false≢true (sym same ∙ subst (λ (f : Flow). same_flow f e.0 ≡ true) (same_Some _ _ owned) (same_flow_itself e.0)))
    by false false same owned rest = rest owned

-- an entry answers a segment of a kept flow
pub kept_is_for : (kept : Entries) (a : Aim) (seg : Segment) → IsOfKept kept a seg → (e : Flow × Kept) × IsFor kept a e
kept_is_for kept (aim.Client flow) seg of = by (kept_of kept flow) refl of.keeps
  where
    by : (o : Option Kept) → kept_of kept flow ≡ o → is_some (option_map (λ (k : Kept). flow) o) ≡ true → (e : Flow × Kept) × IsFor kept (aim.Client flow) e
    by None has some = absurd (false≢true some)
    by (Some k) has some = ((flow, k), (refl, has))
kept_is_for kept (aim.Server server port) seg of = by (owner_of kept server port) refl of.keeps
  where
    by : (o : Option Flow) → owner_of kept server port ≡ o → is_some o ≡ true → (e : Flow × Kept) × IsFor kept (aim.Server server port) e
    by None has some = absurd (false≢true some)
    by (Some flow) has some = let k = owner_kept kept server port flow has in ((flow, k.0), (has, k.1))
kept_is_for kept (aim.Odd flags) seg of = absurd (false≢true of.keeps)
kept_is_for kept aim.NotOurs seg of = absurd (false≢true of.keeps)

-- so a Take of one is Done, and has passed it on
pub passes_at_once : (setup : SetupView) (i item : ℕ) (a : Aim) (seg : Segment) (desk : Desk) → IsOfKept desk.kept a seg → IsPassedAtOnce (Some (taken setup i item a seg desk).1)
passes_at_once setup i item a seg desk of =
    let e = kept_is_for desk.kept a seg of in
    let is : taken setup i item a seg desk ≡ passes setup a seg desk.held desk.kept e.0.0 e.0.1 = at_once setup i item a seg desk e.0.0 e.0.1 e.1 (of.no_syn, of.no_fin, of.no_reset) in
    subst (λ (x : Desk × Reply). IsPassedAtOnce (Some x.1)) (sym is) refl
