-- What a desk holds of a flow: the data of segments that its instance took since its last crash.
use Rattle.std.proofs.Common.{◌≡◌, ℕ, zero, suc, ◌⊎◌, inl, inr, Bool, true, false, ◌==◌, Option, Some, None, List, [], ◌∷◌, ◌++◌, replicate, refl, sym, ◌∙◌, ap, subst, append_assoc, get_or}
use Rattle.std.specs.Prelude.{cond, if◌then◌else◌, slice_get, slice_set, unwrap_or, position}
use Rattle.std.specs.List.{IsDistinct, AllByRecursion}
use Rattle.std.specs.Map.{lookup, keys_of}
use Rattle.std.specs.Cmp.{IsEquivalence}
use Rattle.std.proofs.lemmas.Bool.{eqb-true, eq-eqb, false≢true}
use Rattle.std.proofs.lemmas.List.{append-nil}
use Rattle.std.proofs.lemmas.Option.{none-some, slice_get-get_or}
use Rattle.indexmap.proofs.MapLemmas.{Found-position, swap_remove_entry-found, swap_remove_entry-missing}
use Rattle.indexmap.proofs.RemoveLemmas.{swap_out, none_out}
use Rattle.flow_id.specs.Keys.{same_flow}
use Rattle.flow_id.proofs.SameKeys.{exact_flow, same_flow_itself}
use Rattle.flow_id.specs.declared.key.Flow.{Flow}
use Rattle.flow_id.specs.declared.key.Key.TheVariants as key
use Rattle.flow_record.specs.Records.{asked_key}
use Rattle.flow_record.specs.declared.record.Record.{Record}
use Rattle.job_core.specs.Held.{offset_of, extended}
use Rattle.job_core.specs.Jobs.{flow_by}
use Rattle.job_core.specs.Table.{next_move}
use Rattle.job_core.specs.TableLaws.{IsAsked, IsHeldSo}
use Rattle.job_core.specs.TableLaws.IsHeldSo.{drops_let_go, drops_refused, drops_opened, stays as stays_so, grows as grows_so}
use Rattle.job_core.specs.declared.aim.Aim.{Aim}
use Rattle.job_core.specs.declared.aim.Aim.TheVariants as aim
use Rattle.job_core.specs.declared.moves.Answer.{Answer}
use Rattle.job_core.specs.declared.moves.Answer.TheVariants.{Decided, Absent}
use Rattle.job_core.specs.declared.moves.HeldChange.{HeldChange}
use Rattle.job_core.specs.declared.moves.HeldChange.TheVariants as change
use Rattle.job_core.specs.declared.moves.Move.{Move}
use Rattle.job_core.proofs.Asks.{asked_is, by_test}
use Rattle.job_core.proofs.Changes.{change_is}
use Rattle.replica_cell.proofs.Lists.{all_push}
use Rattle.replica_cell.specs.Walks.{walk_after}
use Rattle.replica_cell.specs.declared.walk.Walk.{Walk}
use Rattle.rule_table.specs.Setups.{SetupView, IsSetup}
use Rattle.tcp_segment.specs.declared.segment.Segment.{Segment}
use Rattle.bench.specs.declared.call.Call.{Call}
use Rattle.bench.specs.declared.call.Call.TheVariants.{Take, Step, Crash, Fail}
use Rattle.bench.specs.declared.call.Reply.{Reply}
use Rattle.bench.specs.Bench.{JobState, Desk, Held, BenchState, empty_desk, desk_at, job_at, held_of, put_held, drop_held, held_after, held_by, begun, taken, settle, move_of, moved, answer_of, says, stepped_by, stepped, step_at, served}
use Rattle.bench.specs.Calls.{IsCall, AreCalls}
use Rattle.bench.specs.Histories.{Ended, Mark, opening, after_all, bench_after, log_after, mark_of, ended_at, ended_by, step_ends, EndedSo, Ends, Decides}
use Rattle.bench.specs.JobLaws.{Supported, Leaves}
use Rattle.bench.specs.MoveLaws.{Handles, Remains, Becomes, BecomesLaw, IsAdded, Built, BuiltLaw}
use Rattle.bench.specs.MoveLaws.Becomes.{stays, drops, grows}
use Rattle.bench.specs.MoveLaws.Built.{nothing, added}
use Rattle.bench.proofs.Begun.{jobs_known}
use Rattle.bench.proofs.Causes.{setup_all}
use Rattle.bench.proofs.Dones.{are_before, allowed_now, supported_more}
use Rattle.bench.proofs.Growths.{after_more, log_more, are_first, are_last}
use Rattle.bench.proofs.Histories.{absence_law}
use Rattle.bench.proofs.Proposals.{put_own}
use Rattle.bench.proofs.Settles.{settle_keeps}
use Rattle.bench.proofs.Stands.{Stands, stands_on, moved_knows, begun_knows}
use Rattle.bench.proofs.Supports.{client_second}
use Rattle.bench.proofs.Takings.{handled_law, handled_aimed, handles_own, took_weaker, leaves_remains}

-- ---- what is held of one flow, after what is held of another was changed
module _ (f : Flow) where
  skips : (g : Flow) (bytes : List ℕ) (rest : Held) → same_flow f g ≡ false → held_of ((g, bytes) ∷ rest) f ≡ held_of rest f
  skips g bytes rest other = ap (λ (b : Bool). unwrap_or (if b then Some bytes else lookup (same_flow f) rest) []) other

  finds : (g : Flow) (bytes : List ℕ) (rest : Held) → same_flow f g ≡ true → held_of ((g, bytes) ∷ rest) f ≡ bytes
  finds g bytes rest same = ap (λ (b : Bool). unwrap_or (if b then Some bytes else lookup (same_flow f) rest) []) same

  -- behind the same first entry
  behind : (e : Flow × List ℕ) (rest more : Held) → held_of rest f ≡ held_of more f → held_of (e ∷ rest) f ≡ held_of (e ∷ more) f
  behind e rest more same = by (same_flow f e.0) refl
    where
      by : (b : Bool) → same_flow f e.0 ≡ b → held_of (e ∷ rest) f ≡ held_of (e ∷ more) f
      by true own = finds e.0 e.1 rest own ∙ sym (finds e.0 e.1 more own)
      by false other = skips e.0 e.1 rest other ∙ same ∙ sym (skips e.0 e.1 more other)

  module _ (g : Flow) (apart : same_flow f g ≡ false) where
    put_other : (held : Held) (bytes : List ℕ) → held_of (put_held held g bytes) f ≡ held_of held f
    put_other [] bytes = skips g bytes [] apart
    put_other (e ∷ held) bytes = by (same_flow g e.0) refl (put_other held bytes)
      where
        by : (b : Bool) → same_flow g e.0 ≡ b → held_of (put_held held g bytes) f ≡ held_of held f → held_of (if b then (e.0, bytes) ∷ held else e ∷ put_held held g bytes) f ≡ held_of (e ∷ held) f
        by true same rest =
            let other : same_flow f e.0 ≡ false = subst (λ (h : Flow). same_flow f h ≡ false) (exact_flow g e.0 same) apart in
            skips e.0 bytes held other ∙ sym (skips e.0 e.1 held other)
        by false other rest = behind e (put_held held g bytes) held rest

-- ---- of each flow there is one entry
abbrev pub Once : Held → Type 0
Once [] = Unit {0}
Once (e ∷ held) = (lookup (same_flow e.0) held ≡ None) × Once held

module _ (f : Flow) where
  lookup_skips : (e : Flow × List ℕ) (rest : Held) → lookup (same_flow f) (e ∷ rest) ≡ None → (same_flow f e.0 ≡ false) × (lookup (same_flow f) rest ≡ None)
  lookup_skips e rest none = by (same_flow f e.0) refl none
    where
      by : (b : Bool) → same_flow f e.0 ≡ b → (if b then Some e.1 else lookup (same_flow f) rest) ≡ None → (same_flow f e.0 ≡ false) × (lookup (same_flow f) rest ≡ None)
      by true own is = absurd (none-some e.1 (sym is))
      by false other is = (other, is)

  lookup_behind : (e : Flow × List ℕ) (rest : Held) → same_flow f e.0 ≡ false → lookup (same_flow f) rest ≡ None → lookup (same_flow f) (e ∷ rest) ≡ None
  lookup_behind e rest other none = ap (λ (b : Bool). if b then Some e.1 else lookup (same_flow f) rest) other ∙ none

  module _ (g : Flow) (apart : same_flow f g ≡ false) where
    put_lacks : (held : Held) (bytes : List ℕ) → lookup (same_flow f) held ≡ None → lookup (same_flow f) (put_held held g bytes) ≡ None
    put_lacks [] bytes none = lookup_behind (g, bytes) [] apart refl
    put_lacks (e ∷ held) bytes none =
        let parts = lookup_skips e held none in
        by_test (λ (h : Held). lookup (same_flow f) h ≡ None) (same_flow g e.0) ((e.0, bytes) ∷ held) (e ∷ put_held held g bytes)
        (λ same. lookup_behind (e.0, bytes) held parts.0 parts.1) (λ other. lookup_behind e (put_held held g bytes) parts.0 (put_lacks held bytes parts.1))

-- flows that differ one way differ the other way
apart_back : (f g : Flow) → same_flow f g ≡ false → same_flow g f ≡ false
apart_back f g apart = by (same_flow g f) refl
  where
    by : (b : Bool) → same_flow g f ≡ b → same_flow g f ≡ false
    by true same = absurd (false≢true (sym apart ∙ subst (λ (h : Flow). same_flow f h ≡ true) (sym (exact_flow g f same)) (same_flow_itself f)))
    by false other = other

put_once : (held : Held) (g : Flow) (bytes : List ℕ) → Once held → Once (put_held held g bytes)
put_once [] g bytes once = (refl, tt)
put_once (e ∷ held) g bytes once =
    by_test Once (same_flow g e.0) ((e.0, bytes) ∷ held) (e ∷ put_held held g bytes)
    (λ same. once) (λ other. (put_lacks e.0 g (apart_back g e.0 other) held bytes once.0, put_once held g bytes once.1))

-- .. said of the flows alone
none_alike : (f : Flow) (held : Held) → lookup (same_flow f) held ≡ None → AllByRecursion (λ g. same_flow f g ≡ false) (keys_of held)
none_alike f [] none = tt
none_alike f (e ∷ held) none = let parts = lookup_skips f e held none in (parts.0, none_alike f held parts.1)

alike_none : (f : Flow) (held : Held) → AllByRecursion (λ g. same_flow f g ≡ false) (keys_of held) → lookup (same_flow f) held ≡ None
alike_none f [] apart = refl
alike_none f (e ∷ held) apart = lookup_behind f e held apart.0 (alike_none f held apart.1)

distinct : (held : Held) → Once held → IsDistinct same_flow (keys_of held)
unfolding IsDistinct
distinct [] once = tt
distinct (e ∷ held) once = (none_alike e.0 held once.0, distinct held once.1)

once_distinct : (held : Held) → IsDistinct same_flow (keys_of held) → Once held
unfolding IsDistinct
once_distinct [] apart = tt
once_distinct (e ∷ held) apart = (alike_none e.0 held apart.0, once_distinct held apart.1)

same_flows : IsEquivalence same_flow
same_flows = record {
  refl = same_flow_itself;
  symm = λ f g. both_ways f g (same_flow f g) refl;
  congr = λ f g h same. ap (λ x. same_flow x h) (exact_flow f g same);
}
  where
    both_ways : (f g : Flow) (b : Bool) → same_flow f g ≡ b → same_flow f g ≡ same_flow g f
    both_ways f g true same = same ∙ sym (subst (λ (h : Flow). same_flow h f ≡ true) (exact_flow f g same) (same_flow_itself f))
    both_ways f g false apart = apart ∙ sym (apart_back f g apart)

-- the flow's entry is gone, and the others are there
abbrev Drops : Held → Flow → Type 0
Drops held g = ((f : Flow) → lookup (same_flow f) (drop_held held g) ≡ cond (same_flow g f) None (lookup (same_flow f) held)) × Once (drop_held held g)

drop_updates : (held : Held) (g : Flow) → Once held → Drops held g
drop_updates held g once = by (position (same_flow g) (keys_of held)) refl
  where
    by : (o : Option ℕ) → position (same_flow g) (keys_of held) ≡ o → Drops held g
    by None is =
        let same = swap_remove_entry-missing (same_flow g) held is in
        ((none_out same_flow same_flows (same_flow g) (same_flows.congr g) held (drop_held held g) is same).0, subst Once (sym same) once)
    by (Some i) is =
        let last : Flow × List ℕ = get_or held i (g, []) in
        let at : slice_get held i ≡ Some last = slice_get-get_or held i (g, []) (Found-position (same_flow g) held i is).within in
        let out = swap_out same_flow same_flows (same_flow g) (same_flows.congr g) held i last is at (distinct held once) (drop_held held g) (swap_remove_entry-found (same_flow g) held i last is) in
        (out.updated.0, once_distinct (drop_held held g) out.unique)

drop_once : (held : Held) (g : Flow) → Once held → Once (drop_held held g)
drop_once held g once = (drop_updates held g once).1

-- nothing is left of what is dropped
drop_own : (held : Held) (f : Flow) → Once held → held_of (drop_held held f) f ≡ []
drop_own held f once =
    ap (λ (o : Option (List ℕ)). unwrap_or o []) ((drop_updates held f once).0 f ∙ ap (λ (b : Bool). cond b None (lookup (same_flow f) held)) (same_flow_itself f))

drop_other : (held : Held) (f g : Flow) → Once held → same_flow f g ≡ false → held_of (drop_held held g) f ≡ held_of held f
drop_other held f g once apart =
    ap (λ (o : Option (List ℕ)). unwrap_or o []) ((drop_updates held g once).0 f ∙ ap (λ (b : Bool). cond b None (lookup (same_flow f) held)) (apart_back f g apart))

-- ---- desks that are set
-- a desk's held bytes after desk n was set
set_held : (desks : List Desk) (n : ℕ) (desk : Desk) (i : ℕ) → (desk_at (slice_set desks n desk) i ≡ desk_at desks i) ⊎ ((n ≡ i) × (desk_at (slice_set desks n desk) i ≡ desk))
set_held [] n desk i = inl refl
set_held (d ∷ desks) zero desk zero = inr (refl, refl)
set_held (d ∷ desks) zero desk (suc i) = inl refl
set_held (d ∷ desks) (suc n) desk zero = inl refl
set_held (d ∷ desks) (suc n) desk (suc i) = elim (set_held desks n desk i) [
  | inl same ↦ inl same
  | inr own ↦ inr (ap suc own.0, own.1)
]

set_empty : (desks : List Desk) (i : ℕ) → desk_at (slice_set desks i empty_desk) i ≡ empty_desk
set_empty [] i = refl
set_empty (d ∷ desks) zero = refl
set_empty (d ∷ desks) (suc i) = set_empty desks i

-- ---- one entry a flow, at each desk
abbrev pub EachOnce : List Desk → Type 0
EachOnce desks = (i : ℕ) → Once (desk_at desks i).held

set_once : (desks : List Desk) (n : ℕ) (desk : Desk) → EachOnce desks → Once desk.held → EachOnce (slice_set desks n desk)
set_once desks n desk each once i = elim (set_held desks n desk i) [
  | inl same ↦ subst (λ (d : Desk). Once d.held) (sym same) (each i)
  | inr own ↦ subst (λ (d : Desk). Once d.held) (sym own.1) once
]

changed_once : (o : Option Flow) (m : HeldChange) (held : Held) → Once held → Once (held_after o m held)
changed_once None m held once = once
changed_once (Some flow) change.Same held once = once
changed_once (Some flow) (change.Set bytes) held once = put_once held flow bytes once
changed_once (Some flow) change.Drop held once = drop_once held flow once

settle_once : (setup : SetupView) (i : ℕ) (at : Desk × Reply) → Once at.0.held → Once (settle setup i at).0.held
settle_once setup i at once =
    settle_keeps setup i (λ (x : Desk × Reply). Once x.0.held)
    (λ x turn is has. changed_once (flow_by turn.0.aim turn.0.answers) (move_of setup i turn.0 (Decided turn.1.item) x.0.held).held x.0.held has) at once

stepped_once : (setup : SetupView) (i : ℕ) (job : JobState) (desk : Desk) (w : Walk) (o : Option Answer) → Once desk.held → Once (stepped_by setup i job desk w o).0.held
stepped_once setup i job desk w None once = once
stepped_once setup i job desk w (Some a) once = settle_once setup i (moved setup i job a desk) (changed_once (flow_by job.aim job.answers) (move_of setup i job a desk.held).held desk.held once)

step_once : (b : BenchState) (n : ℕ) (o : Option JobState) → EachOnce b.desks → EachOnce (step_at b n o).0.desks
step_once b n None each = each
step_once b n (Some job) each =
    set_once b.desks n (stepped b.setup n b.cells job (desk_at b.desks n)).0 each
    (stepped_once b.setup n job (desk_at b.desks n) (walk_after job.walk b.cells) (answer_of (says b.cells job)) (each n))

served_once : (b : BenchState) (c : Call) → EachOnce b.desks → EachOnce (served b c).0.desks
served_once b (Take n item a segment) each =
    set_once b.desks n (taken b.setup n item a segment (desk_at b.desks n)).0 each (settle_once b.setup n (begun b.setup n item a segment (desk_at b.desks n)) (each n))
served_once b (Step n) each = step_once b n (job_at b.desks n) each
served_once b (Crash n) each = set_once b.desks n empty_desk each tt
served_once b (Fail place) each = each

all_once : (calls : List Call) (b : BenchState) → EachOnce b.desks → EachOnce (after_all b calls).desks
all_once [] b each = each
all_once (c ∷ calls) b each = all_once calls (served b c).0 (served_once b c each)

first_once : (n : ℕ) → EachOnce (replicate n empty_desk)
first_once zero i = tt
first_once (suc n) zero = tt
first_once (suc n) (suc i) = first_once n i

pub once_after : (setup : SetupView) (shard : ℕ) (calls : List Call) → EachOnce (bench_after setup shard calls).desks
once_after setup shard calls = all_once calls (opening setup shard) (first_once setup.instances)

-- ---- a call
module _ (setup : SetupView) (shard : ℕ) (good : IsSetup setup) (calls : List Call) where
  abbrev b : BenchState
  b = bench_after setup shard calls

  module _ (c : Call) (i : ℕ) (flow : Flow) where
    abbrev Goes : List ℕ → List ℕ → Type 0
    Goes bytes = Becomes (log_after setup shard (calls ++ c ∷ [])) b c i flow bytes

    abbrev before : List ℕ
    before = held_of (desk_at b.desks i).held flow

    same_bytes : (bytes : List ℕ) → bytes ≡ before → Goes before bytes
    same_bytes bytes same = subst (Goes before) (sym same) stays

    no_bytes : (bytes : List ℕ) → bytes ≡ [] → Goes before bytes
    no_bytes bytes none = subst (Goes before) (sym none) drops

    -- where desk n was set, and holds what it held
    set_goes : (n : ℕ) (desk : Desk) → (n ≡ i → Goes before (held_of desk.held flow)) → Goes before (held_of (desk_at (slice_set b.desks n desk) i).held flow)
    set_goes n desk own = elim (set_held b.desks n desk i) [
      | inl same ↦ same_bytes _ (ap (λ (d : Desk). held_of d.held flow) same)
      | inr here ↦ subst (λ (d : Desk). Goes before (held_of d.held flow)) (sym here.1) (own here.0)
    ]

  -- ---- the step of a job that is given an answer
  module _ (i : ℕ) (flow : Flow) (are : AreCalls setup shard (calls ++ Step i ∷ [])) (job : JobState) (here : job_at b.desks i ≡ Some job) (got : Answer)
      (said : answer_of (says b.cells job) ≡ Some got) where
    abbrev desk : Held
    desk = (desk_at b.desks i).held

    abbrev log : List Mark
    log = log_after setup shard (calls ++ Step i ∷ [])

    ended_so : ended_at b (Step i) ≡ Some (record { instance = i; ask = job.walk.ask; answer = got })
    ended_so = ap (step_ends b i) here ∙ ap (ended_by i job) said

    -- a record that is decided by then was decided before, where this ask was answered otherwise
    not_now : (r : Record) → got ≡ Absent → Decides log (asked_key job.walk.ask) r → ⊥
    not_now r absent decides =
        elim (last (log_after setup shard calls) (subst (λ (l : List Mark). Decides l (asked_key job.walk.ask) r) (log_more setup shard calls (Step i)) decides)) [
          | inl earlier ↦ absence_law setup shard calls (Step i) (record { instance = i; ask = job.walk.ask; answer = got }) r ended_so absent earlier
          | inr now ↦ other got absent (subst (λ (o : Option Ended). EndedSo o (asked_key job.walk.ask) (Decided r)) ended_so now)
        ]
      where
        last : (l : List Mark) → Ends (l ++ mark_of b (Step i) ∷ []) (asked_key job.walk.ask) (Decided r)
            → Ends l (asked_key job.walk.ask) (Decided r) ⊎ EndedSo (ended_at b (Step i)) (asked_key job.walk.ask) (Decided r)
        last [] (inl now) = inr now
        last [] (inr later) = absurd later
        last (m ∷ l) (inl now) = inl (inl now)
        last (m ∷ l) (inr later) = elim (last l later) [
          | inl before ↦ inl (inr before)
          | inr now ↦ inr now
        ]

        other : (x : Answer) → x ≡ Absent → (asked_key job.walk.ask ≡ asked_key job.walk.ask) × (x ≡ Decided r) → ⊥
        other x absent so = let same : Absent ≡ Decided r = sym absent ∙ so.1 in absurd (cc)

    -- the answers before, where these are all
    push_parts : (syn : Record) (front : List Answer) → front ++ got ∷ [] ≡ Decided syn ∷ Absent ∷ [] → (front ≡ Decided syn ∷ []) × (got ≡ Absent)
    push_parts syn [] is = absurd (cc)
    push_parts syn (x ∷ []) is = (cc, cc)
    push_parts syn (x ∷ y ∷ []) is = absurd (cc)
    push_parts syn (x ∷ y ∷ z ∷ front) is = absurd (cc)

    abbrev Whole : Aim → List Answer → HeldChange → Type 0
    Whole x answers m =
        IsHeldSo job.segment (held_by (flow_by x job.answers) desk) x answers m → job.aim ≡ x → job.answers ++ got ∷ [] ≡ answers → Supported log setup x job.segment answers
        → Becomes log b (Step i) i flow (held_of desk flow) (held_of (held_after (flow_by x job.answers) m desk) flow)

    -- what is held of the job's flow is dropped
    dropped : (o : Option Flow) → Becomes log b (Step i) i flow (held_of desk flow) (held_of (held_after o change.Drop desk) flow)
    dropped None = stays
    dropped (Some g) = by (same_flow flow g) refl
      where
        by : (t : Bool) → same_flow flow g ≡ t → Becomes log b (Step i) i flow (held_of desk flow) (held_of (drop_held desk g) flow)
        by true same = no_bytes (Step i) i flow _ (ap (λ (h : Flow). held_of (drop_held desk h) flow) (sym (exact_flow flow g same)) ∙ drop_own desk flow (once_after setup shard calls i))
        by false apart = same_bytes (Step i) i flow _ (drop_other desk flow g (once_after setup shard calls i) apart)

    left : (o : Option Flow) → Becomes log b (Step i) i flow (held_of desk flow) (held_of (held_after o change.Same desk) flow)
    left None = stays
    left (Some g) = stays

    so_becomes : (x : Aim) (answers : List Answer) (m : HeldChange) → Whole x answers m
    so_becomes x answers m (stays_so y others) of all supported = left (flow_by x job.answers)
    so_becomes x answers m (drops_let_go g syn a others reset) of all supported = dropped (flow_by x job.answers)
    so_becomes x answers m (drops_refused g syn r others still other) of all supported = dropped (flow_by x job.answers)
    so_becomes x answers m (drops_opened server port owner syn r others syn_ack same) of all supported = dropped (flow_by x job.answers)
    so_becomes x answers m (grows_so g syn no_syn no_reset some reached) of all supported = by (same_flow flow g) refl
      where
        parts : (job.answers ≡ Decided syn ∷ []) × (got ≡ Absent)
        parts = push_parts syn job.answers all

        named : asked_key job.walk.ask ≡ key.Open g
        named =
            let known = jobs_known setup shard calls (are_before setup shard good calls (Step i) are) i job here in
            let asks = known.law.asks in
            let moved : HeldChange = (next_move setup i job.aim job.segment job.answers asks.0).held in
            let asked : IsAsked setup i job.segment asks.0 (aim.Client g) (Decided syn ∷ []) moved job.walk.ask =
            subst (λ (y : Aim). IsAsked setup i job.segment asks.0 y (Decided syn ∷ []) moved job.walk.ask) of
            (subst (λ (ys : List Answer). IsAsked setup i job.segment asks.0 job.aim ys moved job.walk.ask) parts.0 (asked_is setup i job.aim job.segment job.answers asks.0 job.walk.ask asks.1)) in
            client_second setup i job.segment asks.0 g (Decided syn) moved job.walk.ask asked

        not_open : (r : Record) → Decides log (key.Open g) r → ⊥
        not_open r decides = not_now r parts.1 (subst (λ k. Decides log k r) (sym named) decides)

        handles : Handles b (Step i) i (aim.Client g) job.segment
        handles = subst (λ (y : Aim). Handles b (Step i) i y job.segment) of (handles_own b i job here)

        own : Becomes log b (Step i) i g (held_of desk g) (extended (held_of desk g) (offset_of syn job.segment) job.segment.body)
        own = grows (held_of desk g) job.segment syn stays handles no_syn no_reset supported.0 not_open reached

        by : (t : Bool) → same_flow flow g ≡ t → Becomes log b (Step i) i flow (held_of desk flow) (held_of (put_held desk g (extended (held_of desk g) (offset_of syn job.segment) job.segment.body)) flow)
        by true same =
            let is : g ≡ flow = sym (exact_flow flow g same) in
            subst (λ (f : Flow). Becomes log b (Step i) i f (held_of desk f) (held_of (put_held desk g (extended (held_of desk g) (offset_of syn job.segment) job.segment.body)) f)) is
            (subst (Becomes log b (Step i) i g (held_of desk g)) (sym (put_own desk g (extended (held_of desk g) (offset_of syn job.segment) job.segment.body))) own)
        by false apart = same_bytes (Step i) i flow _ (put_other flow g apart desk (extended (held_of desk g) (offset_of syn job.segment) job.segment.body))

    abbrev at : Desk × Reply
    at = moved b.setup i job got (desk_at b.desks i)

    abbrev call : IsCall setup shard (Step i)
    call = are_last (IsCall setup shard) calls (Step i) are

    settled_held : (settle b.setup i at).0.held ≡ at.0.held
    settled_held =
        (settle_keeps b.setup i (Stands setup shard calls (Step i) call i at.0.held) (stands_on setup shard calls (Step i) call i at.0.held) at
        (record { knows = moved_knows setup shard calls (Step i) call i job got (allowed_now setup shard good calls (Step i) are i job here got ended_so); holds = refl })).holds

    answer_goes : Becomes log b (Step i) i flow (held_of desk flow) (held_of (stepped_by b.setup i job (desk_at b.desks i) (walk_after job.walk b.cells) (Some got)).0.held flow)
    answer_goes =
        let same : b.setup ≡ setup = setup_all calls (opening setup shard) in
        let was : List ℕ = held_by (flow_by job.aim job.answers) desk in
        let m : Move = next_move setup i job.aim job.segment (job.answers ++ got ∷ []) was in
        subst (λ (h : Held). Becomes log b (Step i) i flow (held_of desk flow) (held_of h flow)) (sym settled_held)
        (subst (λ (s : SetupView). Becomes log b (Step i) i flow (held_of desk flow) (held_of (moved s i job got (desk_at b.desks i)).0.held flow)) (sym same)
        (so_becomes job.aim (job.answers ++ got ∷ []) m.held (change_is setup i job.aim job.segment (job.answers ++ got ∷ []) was) refl refl
        (supported_more setup shard good calls (Step i) are i job here got ended_so)))

  module _ (n : ℕ) (are : AreCalls setup shard (calls ++ Step n ∷ [])) (i : ℕ) (flow : Flow) where
    abbrev Now : List ℕ → List ℕ → Type 0
    Now bytes = Becomes (log_after setup shard (calls ++ Step n ∷ [])) b (Step n) i flow bytes

    answered_goes : (job : JobState) → job_at b.desks n ≡ Some job → n ≡ i → (o : Option Answer) → answer_of (says b.cells job) ≡ o
        → Now (held_of (desk_at b.desks i).held flow) (held_of (stepped_by b.setup n job (desk_at b.desks n) (walk_after job.walk b.cells) o).0.held flow)
    answered_goes job here same None said = subst (λ m. Now (held_of (desk_at b.desks i).held flow) (held_of (desk_at b.desks m).held flow)) (sym same) stays
    answered_goes job here same (Some got) said =
        subst (λ m. Becomes (log_after setup shard (calls ++ Step n ∷ [])) b (Step n) m flow (held_of (desk_at b.desks m).held flow)
        (held_of (stepped_by b.setup n job (desk_at b.desks n) (walk_after job.walk b.cells) (Some got)).0.held flow)) same
        (answer_goes n flow are job here got said)

    step_goes : (o : Option JobState) → job_at b.desks n ≡ o → Now (held_of (desk_at b.desks i).held flow) (held_of (desk_at (step_at b n o).0.desks i).held flow)
    step_goes None here = stays
    step_goes (Some job) here =
        set_goes (Step n) i flow n (stepped b.setup n b.cells job (desk_at b.desks n)).0 (λ same. answered_goes job here same (answer_of (says b.cells job)) refl)

  -- a Take leaves what is held
  taken_held : (n item : ℕ) (a : Aim) (segment : Segment) → AreCalls setup shard (calls ++ Take n item a segment ∷ []) → (taken b.setup n item a segment (desk_at b.desks n)).0.held ≡ (desk_at b.desks n).held
  taken_held n item a segment are =
      let c : Call = Take n item a segment in
      let call : IsCall setup shard c = are_last (IsCall setup shard) calls c are in
      (settle_keeps b.setup n (Stands setup shard calls c call n (desk_at b.desks n).held) (stands_on setup shard calls c call n (desk_at b.desks n).held) (begun b.setup n item a segment (desk_at b.desks n))
      (record { knows = begun_knows setup shard calls c call n item a segment refl; holds = refl })).holds

  call_goes : (c : Call) → AreCalls setup shard (calls ++ c ∷ []) → (i : ℕ) (flow : Flow)
      → Becomes (log_after setup shard (calls ++ c ∷ [])) b c i flow (held_of (desk_at b.desks i).held flow) (held_of (desk_at (served b c).0.desks i).held flow)
  call_goes (Take n item a segment) are i flow =
      set_goes (Take n item a segment) i flow n (taken b.setup n item a segment (desk_at b.desks n)).0
      (λ same. same_bytes (Take n item a segment) i flow _ (ap (λ (h : Held). held_of h flow) (taken_held n item a segment are) ∙ ap (λ m. held_of (desk_at b.desks m).held flow) same))
  call_goes (Step n) are i flow = step_goes n are i flow (job_at b.desks n) refl
  call_goes (Crash n) are i flow = set_goes (Crash n) i flow n empty_desk (λ same. drops)
  call_goes (Fail place) are i flow = stays

pub becomes_law : (setup : SetupView) (shard : ℕ) → IsSetup setup → BecomesLaw setup shard
becomes_law setup shard good calls c are i flow =
    subst (λ (x : BenchState). Becomes (log_after setup shard (calls ++ c ∷ [])) (bench_after setup shard calls) c i flow
    (held_of (desk_at (bench_after setup shard calls).desks i).held flow) (held_of (desk_at x.desks i).held flow)) (sym (after_more setup shard calls c))
    (call_goes setup shard good calls c are i flow)

-- ---- a whole history
module _ (setup : SetupView) (shard : ℕ) (good : IsSetup setup) (i : ℕ) (flow : Flow) where
  abbrev BuiltBy : List Call → List ℕ → Type 0
  BuiltBy calls bytes = Built setup shard calls i flow bytes

  module _ (calls : List Call) (c : Call) (are : AreCalls setup shard (calls ++ c ∷ [])) where
    later_added : Remains i c → (bytes : List ℕ) (seg : Segment) (syn : Record) → IsAdded setup shard calls i flow bytes seg syn → IsAdded setup shard (calls ++ c ∷ []) i flow bytes seg syn
    later_added remains bytes seg syn is = record {
      before = is.before;
      call = is.call;
      after = is.after ++ c ∷ [];
      are = ap (λ (l : List Call). l ++ c ∷ []) is.are ∙ append_assoc is.before (is.call ∷ is.after) (c ∷ []);
      remains = all_push (Remains i) is.after c is.remains remains;
      took = is.took;
      aimed = is.aimed;
      no_syn = is.no_syn;
      no_reset = is.no_reset;
      syn_decided = is.syn_decided;
      not_open = is.not_open;
      reached = is.reached;
    }

    later_built : Remains i c → (bytes : List ℕ) → BuiltBy calls bytes → BuiltBy (calls ++ c ∷ []) bytes
    later_built remains bytes nothing = nothing
    later_built remains bytes (added less seg syn built is) = added less seg syn (later_built remains less built) (later_added remains less seg syn is)

    becomes_built : Remains i c → (bytes more : List ℕ) → BuiltBy calls bytes → Becomes (log_after setup shard (calls ++ c ∷ [])) (bench_after setup shard calls) c i flow bytes more → BuiltBy (calls ++ c ∷ []) more
    becomes_built remains bytes more built stays = later_built remains bytes built
    becomes_built remains bytes more built drops = nothing
    becomes_built remains bytes more built (grows less seg syn so handles no_syn no_reset decided not_open reached) =
        added less seg syn (becomes_built remains bytes less built so) (record {
          before = calls;
          call = c;
          after = [];
          are = refl;
          remains = tt;
          took = took_weaker (Leaves i) i (aim.Client flow) seg (Remains i) (leaves_remains i) (calls ++ c ∷ []) (handled_law setup shard calls c i (aim.Client flow) seg handles);
          aimed = handled_aimed setup shard calls (are_first (IsCall setup shard) calls (c ∷ []) are) c (are_last (IsCall setup shard) calls c are) i (aim.Client flow) seg handles;
          no_syn = no_syn;
          no_reset = no_reset;
          syn_decided = decided;
          not_open = not_open;
          reached = reached;
        })

  abbrev Holds : List Call → Type 0
  Holds calls = BuiltBy calls (held_of (desk_at (bench_after setup shard calls).desks i).held flow)

  crash_built : (calls : List Call) (n : ℕ) (same : Bool) → (n == i) ≡ same → AreCalls setup shard (calls ++ Crash n ∷ []) → Holds calls → Holds (calls ++ Crash n ∷ [])
  crash_built calls n true same are built =
      let own : n ≡ i = eqb-true n i same in
      let none : held_of (desk_at (bench_after setup shard (calls ++ Crash n ∷ [])).desks i).held flow ≡ [] =
      ap (λ (x : BenchState). held_of (desk_at x.desks i).held flow) (after_more setup shard calls (Crash n))
      ∙ ap (λ m. held_of (desk_at (slice_set (bench_after setup shard calls).desks m empty_desk) i).held flow) own
      ∙ ap (λ (d : Desk). held_of d.held flow) (set_empty (bench_after setup shard calls).desks i) in
      subst (BuiltBy (calls ++ Crash n ∷ [])) (sym none) nothing
  crash_built calls n false other are built =
      becomes_built calls (Crash n) are (λ same. false≢true (sym other ∙ eq-eqb n i same)) _ _ built (becomes_law setup shard good calls (Crash n) are i flow)

  call_built : (calls : List Call) (c : Call) → AreCalls setup shard (calls ++ c ∷ []) → Holds calls → Holds (calls ++ c ∷ [])
  call_built calls (Take n item a segment) are built = becomes_built calls (Take n item a segment) are tt _ _ built (becomes_law setup shard good calls (Take n item a segment) are i flow)
  call_built calls (Step n) are built = becomes_built calls (Step n) are tt _ _ built (becomes_law setup shard good calls (Step n) are i flow)
  call_built calls (Crash n) are built = crash_built calls n (n == i) refl are built
  call_built calls (Fail place) are built = becomes_built calls (Fail place) are tt _ _ built (becomes_law setup shard good calls (Fail place) are i flow)

  all_built : (later done : List Call) → AreCalls setup shard (done ++ later) → Holds done → Holds (done ++ later)
  all_built [] done are built = subst Holds (sym (append-nil done)) built
  all_built (c ∷ later) done are built =
      let whole : AreCalls setup shard ((done ++ c ∷ []) ++ later) = subst (AreCalls setup shard) (sym (append_assoc done (c ∷ []) later)) are in
      subst Holds (append_assoc done (c ∷ []) later)
      (all_built later (done ++ c ∷ []) whole (call_built done c (are_first (IsCall setup shard) (done ++ c ∷ []) later whole) built))

  nothing_first : (n : ℕ) (j : ℕ) → held_of (desk_at (replicate n empty_desk) j).held flow ≡ []
  nothing_first zero j = refl
  nothing_first (suc n) zero = refl
  nothing_first (suc n) (suc j) = nothing_first n j

pub built_law : (setup : SetupView) (shard : ℕ) → IsSetup setup → BuiltLaw setup shard
built_law setup shard good calls are i flow =
    all_built setup shard good i flow calls [] are (subst (Built setup shard [] i flow) (sym (nothing_first setup shard good i flow setup.instances i)) nothing)
