-- What a run of the benches promises to the ends: whatever world the run is part of, its streams agree, and what is
-- acknowledged to an end is stored or its peer has acknowledged it.
use Rattle.std.specs.Prelude.{◌≡◌, ◌<◌, ℕ, List, map}
use Rattle.bench.specs.declared.call.Call.{Call}
use Rattle.bench.specs.declared.call.Call.TheVariants.{Take, Step, Crash, Fail}
use Rattle.rule_table.specs.Setups.{SetupView}
use Rattle.world_model.specs.declared.client.ClientSpec.{ClientSpec}
use Rattle.world_model.specs.Acks.{AcksAreBacked}
use Rattle.world_model.specs.Clients.{AreClients}
use Rattle.world_model.specs.Events.{WorldEvent}
use Rattle.world_model.specs.Runs.{after_all, AreEnabled, calls_in, AllLive}
use Rattle.world_model.specs.Streams.{StreamsAgree}
use Rattle.world_model.specs.World.{start}

-- without the number of the record
abbrev pub unnumbered : Call → Call
unnumbered (Take i item aim segment) = Take i 0 aim segment
unnumbered (Step i) = Step i
unnumbered (Crash i) = Crash i
unnumbered (Fail place) = Fail place

-- the same calls in the same order, record numbers aside, and whoever made them
abbrev pub SameCalls : List Call → List Call → Type 0
SameCalls calls others = map unnumbered calls ≡ map unnumbered others

-- the benches of the shards had these calls
abbrev pub Headline : SetupView → (ℕ → List Call) → Type 0
Headline setup histories =
    (clients : List ClientSpec) (events : List WorldEvent) → AreClients setup clients
    → let first = start setup clients in
    let last = after_all first events in
    AreEnabled first events → ((g : ℕ) → g < setup.shards → SameCalls (calls_in g first events) (histories g)) → AllLive last
    → StreamsAgree last × AcksAreBacked last
