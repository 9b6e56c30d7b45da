-- Runs of the world: lists of events, each of which may happen when it does; and the calls of each shard's bench in them.
use Rattle.std.specs.Prelude.{◌==◌, ℕ, Option, List, [], ◌∷◌, ◌++◌, slice_get, if◌then◌else◌}
use Rattle.std.specs.List.{AllByRecursion}
use Rattle.std.specs.Option.{option_map_or}
use Rattle.bench.specs.declared.call.Call.{Call}
use Rattle.replica_cell.specs.Stores.{Lives}
use Rattle.world_model.specs.After.{after, take_call}
use Rattle.world_model.specs.Enabled.{Enabled, home}
use Rattle.world_model.specs.Flows.{aim_of}
use Rattle.world_model.specs.Events.{WorldEvent, takes, calls}
use Rattle.world_model.specs.Posted.{Posted}
use Rattle.world_model.specs.World.{World}

abbrev pub after_all : World → List WorldEvent → World
after_all w [] = w
after_all w (e ∷ events) = after_all (after w e) events

-- each of these events may happen after those before it
abbrev pub AreEnabled : World → List WorldEvent → Type 0
AreEnabled w [] = Unit {0}
AreEnabled w (e ∷ events) = Enabled w e × AreEnabled (after w e) events

-- ---- the calls of a shard's bench
abbrev pub call_in : ℕ → World → WorldEvent → List Call
call_in g w (takes i item n) = option_map_or (λ (x : Posted). if home w.setup (aim_of w.setup x.segment) == g then take_call w i item x.segment ∷ [] else []) (slice_get w.sent n) []
call_in g w (calls h c) = if h == g then c ∷ [] else []
call_in g w _ = []

abbrev pub calls_in : ℕ → World → List WorldEvent → List Call
calls_in g w [] = []
calls_in g w (e ∷ events) = call_in g w e ++ calls_in g (after w e) events

-- each bench has a living cell
abbrev pub AllLive : World → Type 0
AllLive w = AllByRecursion (λ shard. Lives shard.bench.cells) w.shards

-- ---- a word for a part of these, for the proofs
abbrev pub take_at : World → ℕ → ℕ → ℕ → Option Posted → List Call
take_at w g i item o = option_map_or (λ (x : Posted). if home w.setup (aim_of w.setup x.segment) == g then take_call w i item x.segment ∷ [] else []) o []
