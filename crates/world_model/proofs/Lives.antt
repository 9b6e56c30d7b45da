-- A bench that has a living cell had one before.
use Rattle.std.proofs.Common.{ℕ, zero, suc, Option, Some, None, List, [], ◌∷◌, inl, inr}
use Rattle.std.specs.Prelude.{slice_get, slice_set, unwrap_or}
use Rattle.std.specs.List.{AllByRecursion}
use Rattle.replica_cell.specs.Cells.{Replica}
use Rattle.replica_cell.specs.Stores.{Lives}
use Rattle.replica_cell.proofs.Orders.{Later}
use Rattle.bench.specs.declared.call.Call.{Call}
use Rattle.bench.specs.Bench.{served}
use Rattle.bench.proofs.Histories.{later_served}
use Rattle.tcp_end.specs.EndState.{EndState, written_more, closed_end}
use Rattle.world_model.specs.declared.at.At.{At}
use Rattle.world_model.specs.declared.at.At.TheVariants.{Client, Server}
use Rattle.world_model.specs.After.{after, changed_by, sent_by, aborted_by, received_at, received, refused, called, took, take_call}
use Rattle.world_model.specs.Enabled.{home}
use Rattle.world_model.specs.Flows.{aim_of}
use Rattle.world_model.specs.Events.{WorldEvent, opens, writes, closes, sends, aborts, receives, refuses, strays, takes, calls}
use Rattle.world_model.specs.Routes.{Rest}
use Rattle.world_model.specs.Runs.{AllLive}
use Rattle.world_model.specs.Runs.{after_all as after_events}
use Rattle.world_model.specs.Posted.{Posted}
use Rattle.world_model.specs.World.{World, Shard, no_shard, shard_at, bench_at, end_at, with_end}

lives_before : (cells news : List Replica) → Later cells news → Lives news → Lives cells
lives_before [] [] later lives = lives
lives_before [] (d ∷ news) later lives = absurd later
lives_before (c ∷ cells) [] later lives = absurd lives
lives_before (c ∷ cells) (d ∷ news) later (inl lives) = inl (later.0.living lives)
lives_before (c ∷ cells) (d ∷ news) later (inr lives) = inr (lives_before cells news later.1 lives)

-- ---- a list of shards in which one was set
all_before : (P : Shard → Type 0) (xs : List Shard) (g : ℕ) (y d : Shard) → (P y → P (unwrap_or (slice_get xs g) d)) → AllByRecursion P (slice_set xs g y) → AllByRecursion P xs
all_before P [] g y d was all = tt
all_before P (x ∷ xs) zero y d was all = (was all.0, all.1)
all_before P (x ∷ xs) (suc g) y d was all = (all.0, all_before P xs g y d was all.1)

called_lives : (w : World) (g : ℕ) (taken : List (Option ℕ)) (c : Call) → AllLive (called w g taken c) → AllLive w
called_lives w g taken c all =
    all_before (λ (s : Shard). Lives s.bench.cells) w.shards g (record { bench = (served (bench_at w g) c).0; taken = taken }) (no_shard w.setup)
    (λ lives. lives_before (bench_at w g).cells (served (bench_at w g) c).0.cells (later_served (bench_at w g) c) lives) all

with_end_lives : (w : World) (at : At) (e : EndState) → AllLive (with_end w at e) → AllLive w
with_end_lives w (Client k) e all = all
with_end_lives w (Server v p) e all = all

changed_lives : (w : World) (at : At) (f : EndState → EndState) (o : Option EndState) → AllLive (changed_by w at f o) → AllLive w
changed_lives w at f None all = all
changed_lives w at f (Some e) all = with_end_lives w at (f e) all

sent_lives : (w : World) (at : At) (s : _) (rest : Rest) (o : Option EndState) → AllLive (sent_by w at s rest o) → AllLive w
sent_lives w at s rest None all = all
sent_lives w at s rest (Some e) all = all

aborted_lives : (w : World) (at : At) (rest : Rest) (o : Option EndState) → AllLive (aborted_by w at rest o) → AllLive w
aborted_lives w at rest None all = all
aborted_lives w (Client k) rest (Some e) all = all
aborted_lives w (Server v p) rest (Some e) all = all

received_at_lives : (w : World) (at : At) (n : ℕ) (isn : _) (x : Posted) (o : Option EndState) → AllLive (received_at w at n isn x.segment o) → AllLive w
received_at_lives w (Client k) n isn x None all = all
received_at_lives w (Server v p) n isn x None all = all
received_at_lives w at n isn x (Some e) all = with_end_lives w at _ all

received_lives : (w : World) (at : At) (n : ℕ) (isn : _) (o : Option Posted) → AllLive (received w at n isn o) → AllLive w
received_lives w at n isn None all = all
received_lives w at n isn (Some x) all = received_at_lives w at n isn x (end_at w at) all

refused_lives : (w : World) (v p : ℕ) (rest : Rest) (o : Option Posted) → AllLive (refused w v p rest o) → AllLive w
refused_lives w v p rest None all = all
refused_lives w v p rest (Some x) all = all

took_lives : (w : World) (i item n : ℕ) (o : Option Posted) → AllLive (took w i item n o) → AllLive w
took_lives w i item n None all = all
took_lives w i item n (Some x) all = called_lives w (home w.setup (aim_of w.setup x.segment)) _ (take_call w i item x.segment) all

pub lives_after : (w : World) (e : WorldEvent) → AllLive (after w e) → AllLive w
lives_after w (opens k) all = all
lives_after w (writes at bytes) all = changed_lives w at (λ d. written_more d bytes) (end_at w at) all
lives_after w (closes at) all = changed_lives w at closed_end (end_at w at) all
lives_after w (sends at s rest) all = sent_lives w at s rest (end_at w at) all
lives_after w (aborts at rest) all = aborted_lives w at rest (end_at w at) all
lives_after w (receives at n isn) all = received_lives w at n isn (slice_get w.sent n) all
lives_after w (refuses v p n rest) all = refused_lives w v p rest (slice_get w.sent n) all
lives_after w (strays s) all = all
lives_after w (takes i item n) all = took_lives w i item n (slice_get w.sent n) all
lives_after w (calls g c) all = called_lives w g (shard_at w g).taken c all

pub lives_first : (events : List WorldEvent) (w : World) → AllLive (after_events w events) → AllLive w
lives_first [] w all = all
lives_first (e ∷ events) w all = lives_after w e (lives_first events (after w e) all)
