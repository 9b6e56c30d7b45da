-- A segment is taken: its work begins at the first ask, and is settled.
use Rattle.std.proofs.Common.{◌≡◌, ℕ, Option, Some, [], refl, sym, ◌∙◌, ap, subst}
use Rattle.job_core.specs.Jobs.{JobView, IsTaken, first_ask}
use Rattle.job_core.specs.Jobs.{begun as begun_job}
use Rattle.job_core.specs.Table.{next_move}
use Rattle.job_core.specs.declared.aim.Aim.{Aim}
use Rattle.job_core.specs.declared.aim.Aim.TheVariants as aim
use Rattle.job_core.specs.declared.moves.Next.TheVariants as next
use Rattle.flow_id.specs.Ports.{shard_of, shard_of_port}
use Rattle.kept_records.specs.Entries.{Entries}
use Rattle.replica_cell.specs.Walks.{start_of}
use Rattle.replica_cell.specs.declared.walk.Walk.{Walk}
use Rattle.rule_table.specs.Setups.{SetupView}
use Rattle.tcp_segment.specs.declared.segment.Segment.{Segment}
use Rattle.bench.specs.declared.call.Reply.{Reply}
use Rattle.bench.specs.declared.call.Reply.TheVariants as reply
use Rattle.bench.specs.declared.desk.Work.{Work}
use Rattle.bench.specs.Bench.{Held, begun_by, settle, taken}
use Rattle.bench.specs.Desks.{IsOf, desk_of, left, left_by, shown, shown_job, shown_work}
use Rattle.bench.specs.Laws.{Asks}
use Rattle.bench.proofs.Firsts.{first_is}

-- the first move of a segment that is taken is its first ask
first_of : (setup : SetupView) (i : ℕ) (a : Aim) (seg : Segment) → IsTaken setup a seg → (next_move setup i a seg [] []).next ≡ next.Ask (first_ask setup a seg)
first_of setup i (aim.Client flow) seg ours = first_is setup (shard_of flow setup.shards) i (aim.Client flow) seg refl
first_of setup i (aim.Server server port) seg ours = first_is setup (shard_of_port port setup.shards) i (aim.Server server port) seg refl
first_of setup i (aim.Odd flags) seg ours = absurd (cc)
first_of setup i aim.NotOurs seg ours = absurd (cc)

module _ (setup : SetupView) (i item : ℕ) (a : Aim) (seg : Segment) (ours : IsTaken setup a seg) (job : JobView) (is : job ≡ begun_job setup i a seg) where
  pub first_asks : Asks setup job.instance job.aim job.segment job.answers job.ask
  first_asks = subst (λ (j : JobView). Asks setup j.instance j.aim j.segment j.answers j.ask) (sym is) ([], first_of setup i a seg ours)

  module _ (walk : Walk) (starts : walk ≡ start_of job.ask) where
    abbrev begun_work : Work
    begun_work = record { item = item; job = job; walk = walk }

    pub first_is_of : (q : Work) → q.job.instance ≡ job.instance → q.job.ask ≡ q.walk.ask → IsOf i q
    first_is_of q same stands = record { instance = same ∙ ap (λ (j : JobView). j.instance) is; asks = stands }

    begun_is : (old : Option Work) (held : Held) (kept : Entries) → (desk_of begun_work held kept, reply.Going) ≡ begun_by item a seg (shown old held kept) (next_move setup i a seg [] []).next
    begun_is old held kept =
        (λ k. (
          record {
            job = Some (record { item = item; aim = (is k).aim; segment = (is k).segment; answers = (is k).answers; walk = (starts ∙ ap (λ (j : JobView). start_of j.ask) is) k });
            held = held;
            kept = kept;
          },
          reply.Going,
        ))
        ∙ sym (ap (begun_by item a seg (shown old held kept)) (first_of setup i a seg ours))

    -- what it is settled to is what the Take makes of the desk
    pub taken_is : (old o : Option Work) (after : Work) (kept kept_after : Entries) (r : Reply)
        → ((held : Held) → settle setup job.instance (desk_of begun_work held kept, reply.Going) ≡ left r after held kept_after) → shown_job o ≡ left_by r (shown_work after)
        → (held : Held) → (shown o held kept_after, r) ≡ taken setup i item a seg (shown old held kept)
    taken_is old o after kept kept_after r settled left_is held =
        (λ k. (record { job = left_is k; held = held; kept = kept_after }, r))
        ∙ sym (settled held)
        ∙ ap (λ (j : JobView). settle setup j.instance (desk_of begun_work held kept, reply.Going)) is
        ∙ ap (settle setup i) (begun_is old held kept)
