-- What holds of the world after every run, as long as each list of replicas keeps a living member.
use Rattle.std.specs.Prelude.{◌≡◌, ◌<◌, ℕ, List}
use Rattle.bench.specs.declared.call.Call.{Call}
use Rattle.bench.specs.Calls.{AreCalls}
use Rattle.bench.specs.Histories.{bench_after}
use Rattle.rule_table.specs.Setups.{SetupView, IsSetup}
use Rattle.world_model.specs.declared.client.ClientSpec.{ClientSpec}
use Rattle.world_model.specs.Acks.{AcksAreBacked}
use Rattle.world_model.specs.Clients.{AreClients}
use Rattle.world_model.specs.Events.{WorldEvent}
use Rattle.world_model.specs.Held.{HeldIsPrefix, OffsetsAreExact, NothingIsAdded}
use Rattle.world_model.specs.Records.{RecordsSay, ProposalsSay}
use Rattle.world_model.specs.Runs.{after_all, AreEnabled, calls_in, AllLive}
use Rattle.world_model.specs.Streams.{StreamsAgree}
use Rattle.world_model.specs.World.{World, start, bench_at}

-- each bench is the one that its calls lead to, and these are calls that may be made
pub record IsReplayed (w : World) (g : ℕ) (history : List Call) : Type 0 where
  pub are : AreCalls w.setup g history
  pub bench : bench_at w g ≡ bench_after w.setup g history

-- by the calls that the benches had
pub record IsSafe (w : World) (histories : ℕ → List Call) : Type 0 where
  pub replayed : (g : ℕ) → g < w.setup.shards → IsReplayed w g (histories g)
  pub streams : StreamsAgree w
  pub acks : AcksAreBacked w
  pub records : RecordsSay w
  pub proposals : ProposalsSay w histories
  pub held : HeldIsPrefix w
  pub offsets : OffsetsAreExact w histories
  pub added : NothingIsAdded w histories

abbrev pub SafetyLaw : Type 0
SafetyLaw =
    (setup : SetupView) (clients : List ClientSpec) (events : List WorldEvent) → IsSetup setup → AreClients setup clients
    → let first = start setup clients in
    let last = after_all first events in
    AreEnabled first events → AllLive last → IsSafe last (λ g. calls_in g first events)

-- what is known of a world, by the calls of any run that leads to it
abbrev pub IsSafeNow : World → Type 0
IsSafeNow w =
    (events : List WorldEvent)
    → let first = start w.setup w.clients in
    AreEnabled first events → w ≡ after_all first events → AllLive w → IsSafe w (λ g. calls_in g first events)
