-- The calls of the benches that the code makes may be made, and what their replies send is short.
use Rattle.std.proofs.Common.{◌≡◌, ℕ, ◌+◌, ◌*◌, ◌≤◌, ◌<◌, min, Option, Some, None, List, [], ◌∷◌, ◌++◌, length, take, refl, sym, ◌∙◌, ap, subst, arith}
use Rattle.std.specs.Prelude.{Result, Ok, Err, IfOk, OnOk, IsTrue}
use Rattle.std.specs.List.{flat_map}
use Rattle.std.proofs.lemmas.List.{length-append, length-take}
use Rattle.bench.specs.Calls.{IsCall, IsOnShard}
use Rattle.bench.specs.declared.call.Call.TheVariants.{Take, Step}
use Rattle.job_core.specs.Aims.{aimed}
use Rattle.job_core.specs.Jobs.{is_taken}
use Rattle.job_core.specs.TableLaws.{IsEnded}
use Rattle.job_core.specs.TableLaws.IsEnded.{silent, answered, asked, opened, to_server, to_client, refused, unknown_client, unknown_port, unknown_owner, turned_away}
use Rattle.job_core.specs.declared.aim.Aim.{Aim}
use Rattle.job_core.specs.declared.aim.Aim.TheVariants as aim
use Rattle.job_core.specs.declared.moves.Answer.{Answer}
use Rattle.job_core.specs.declared.verdict.Verdict.{Verdict}
use Rattle.job_core.specs.declared.verdict.Verdict.TheVariants as verdict
use Rattle.rule_table.specs.Setups.{SetupView}
use Rattle.server_hand.specs.Opening.{piece_size}
use Rattle.tcp_segment.specs.declared.segment.Segment.{Segment}
use Rattle.world_model.specs.Enabled.{home}
use Rattle.world_model.specs.Placed.{total}
use Rattle.world_model.specs.Shape.{IsShard}
use Rattle.world_model.specs.World.{Shard}

pub on_ok : {A B P Q : Type 0} (r : Result A B) → (P → Q) → OnOk r P → OnOk r Q
on_ok (Ok a) f p = f p
on_ok (Err e) f p = p

pub if_ok : {A B : Type 0} {P Q : A → Type 0} (r : Result A B) → ((a : A) → P a → Q a) → IfOk r P → IfOk r Q
if_ok (Ok a) f p = f a p
if_ok (Err e) f p = p

-- ---- a taken segment
on_home : (setup : SetupView) (a : Aim) → IsTrue (is_taken a) → IsOnShard setup (home setup a) a
on_home setup (aim.Client flow) is = refl
on_home setup (aim.Server server port) is = refl
on_home setup (aim.Odd flags) is = absurd (cc)
on_home setup aim.NotOurs is = absurd (cc)

pub take_fits : (setup : SetupView) (a : Aim) (seg : Segment) (s : Shard) (i : ℕ) → IsShard setup (home setup a) s → i < setup.instances
    → a ≡ aimed setup seg.source seg.target seg.head → IsTrue (is_taken a)
    → IsCall s.bench.setup s.bench.shard (Take i 0 a seg) × (i < length s.taken)
take_fits setup a seg s i is within aim_is ok = (
  subst (λ (x : SetupView). IsCall x s.bench.shard (Take i 0 a seg)) (sym is.setup_is)
      (subst (λ g. IsCall setup g (Take i 0 a seg)) (sym is.shard_is) (within, (aim_is, on_home setup a ok))),
  subst (λ (n : ℕ). i < n) (sym is.places) within,
)

pub step_fits : (setup : SetupView) (g : ℕ) (s : Shard) (i : ℕ) → IsShard setup g s → i < setup.instances → IsCall s.bench.setup s.bench.shard (Step i)
step_fits setup g s i is within = subst (λ (x : SetupView). i < x.instances) (sym is.setup_is) within

-- ---- the length of what opens a connection
flat_total : (outs : List Segment) → total outs ≡ length (flat_map (λ s. s.body) outs)
flat_total [] = refl
flat_total (s ∷ outs) = by (flat_total outs) (length-append s.body (flat_map (λ s. s.body) outs))
  where
    by : total outs ≡ length (flat_map (λ s. s.body) outs) → length (s.body ++ flat_map (λ s. s.body) outs) ≡ length s.body + length (flat_map (λ s. s.body) outs)
        → length s.body + total outs ≡ length (s.body ++ flat_map (λ s. s.body) outs)
    by rest both = ap (λ (n : ℕ). length s.body + n) rest ∙ sym both

size_within : (mss : Option ℕ) → piece_size mss ≤ 1460
size_within None = omega arith
size_within (Some mss) = omega arith

pub ended_total : (setup : SetupView) (seg : Segment) (held : List ℕ) (a : Aim) (answers : List Answer) (v : Verdict) (outs : List Segment) → IsEnded setup seg held a answers v outs → v ≡ verdict.Opened → total outs ≤ 14600
ended_total setup seg held a answers v outs (opened server port owner syn r later _ ack number it) is =
    let whole : total outs ≡ length (take (10 * piece_size seg.head.options.mss) held) = flat_total outs ∙ ap length it.whole in
    let cut : length (take (10 * piece_size seg.head.options.mss) held) ≡ min (10 * piece_size seg.head.options.mss) (length held) = length-take (10 * piece_size seg.head.options.mss) held in
    let few = size_within seg.head.options.mss in
    omega (arith, whole, cut, few)
ended_total setup seg held a answers v outs (silent _ _ _ quiet) is = omega arith
ended_total setup seg held a answers v outs (answered flow syn later s e f g) is = absurd (cc)
ended_total setup seg held a answers v outs (asked flow syn choice owner ports later s e f g h i j) is = absurd (cc)
ended_total setup seg held a answers v outs (to_server flow syn r later s e f) is = absurd (cc)
ended_total setup seg held a answers v outs (to_client server port owner syn r later s e f) is = absurd (cc)
ended_total setup seg held a answers v outs (refused flow syn r later why _ e f g h) is = absurd (cc)
ended_total setup seg held a answers v outs (unknown_client flow later _ e f) is = absurd (cc)
ended_total setup seg held a answers v outs (unknown_port server port later _ e) is = absurd (cc)
ended_total setup seg held a answers v outs (unknown_owner server port owner later _ e) is = absurd (cc)
ended_total setup seg held a answers v outs (turned_away server port owner syn b later s e f g) is = absurd (cc)

pub on_both : {A B P Q R : Type 0} (r : Result A B) → (P → Q → R) → OnOk r P → OnOk r Q → OnOk r R
on_both (Ok a) f p q = f p q
on_both (Err e) f p q = p
