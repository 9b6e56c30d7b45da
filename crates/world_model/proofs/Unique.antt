-- While each bench has a living cell: one record is decided under each key, one server and port is a flow's, and one flow
-- owns each server's port.
use Rattle.std.proofs.Common.{◌≡◌, ℕ, zero, suc, ◌<◌, Option, Some, None, length, refl, sym, ◌∙◌, ap, subst, arith}
use Rattle.std.specs.Prelude.{IsTrue, slice_get, unwrap_or}
use Rattle.std.proofs.lemmas.Option.{same_Some}
use Rattle.flow_id.specs.Ports.{shard_of, shard_of_port}
use Rattle.flow_id.specs.Hashes.{marked}
use Rattle.flow_id.specs.declared.key.Flow.{Flow}
use Rattle.flow_id.specs.declared.key.Key.{Key}
use Rattle.flow_id.specs.declared.key.Key.TheVariants as key
use Rattle.flow_record.specs.Records.{port_owner, open_server, open_port}
use Rattle.flow_record.specs.declared.record.Record.{Record}
use Rattle.replica_cell.specs.Stores.{Lives, word}
use Rattle.replica_cell.proofs.Lists.{at, none_within}
use Rattle.rule_table.specs.Setups.{is_shard_count}
use Rattle.bench.specs.Bench.{BenchState}
use Rattle.bench.specs.Histories.{bench_after, Decides}
use Rattle.bench.specs.JobLaws.{IsPortFor}
use Rattle.bench.proofs.Histories.{agreement_law}
use Rattle.bench.proofs.Origins.{origin_in_log}
use Rattle.bench.proofs.Chains.{port_law}
use Rattle.world_model.specs.Acks.{word_of}
use Rattle.bench.specs.MoveLaws.{MoveLaws}
use Rattle.world_model.specs.Runs.{AllLive}
use Rattle.world_model.specs.Streams.{IsEndFor}
use Rattle.world_model.specs.World.{World, Shard, ServerEnd, end_of_server, no_shard, bench_at}
use Rattle.world_model.proofs.Shards.{of_its_shard}
use Rattle.world_model.proofs.Invariant.{Calls, log_at, DecidesOf, Owns, IsFlow, IsProposed, ShardIs, OpensEnd, Inv}

positive : (n : ℕ) → IsTrue (is_shard_count n) → 0 < n
positive zero h = absurd (cc)
positive (suc n) h = omega arith

module _ (w : World) (calls : Calls) (inv : Inv w calls) where
  pub some_shard : 0 < w.setup.shards
  some_shard = positive w.setup.shards inv.good.shards

  pub home_below : (flow : Flow) → shard_of flow w.setup.shards < w.setup.shards
  home_below flow = let some = some_shard in omega arith

  pub shard_is : (flow : Flow) → ShardIs w.setup w.clients w calls (shard_of flow w.setup.shards)
  shard_is flow = inv.shard (shard_of flow w.setup.shards) (home_below flow)

  -- what is decided was proposed
  pub proposed_of : (g : ℕ) → g < w.setup.shards → (k : Key) (r : Record) → Decides (log_at w.setup calls g) k r → IsProposed w.setup w.clients w k r
  proposed_of g below k r decides = (inv.shard g below).proposals k r (origin_in_log w.setup g (calls g) k r decides)

  -- what holds of a port that is decided at a shard
  pub port_for : (g : ℕ) → g < w.setup.shards → (service server port : ℕ) (r : Record) → Decides (log_at w.setup calls g) (key.Port service server port) r
      → IsPortFor (log_at w.setup calls g) w.setup g service server port r
  port_for g below service server port r decides =
      port_law w.setup g inv.good (calls g) (inv.shard g below).are service server port r (origin_in_log w.setup g (calls g) (key.Port service server port) r decides)

  -- the flow that owns a port is one of an address that is no server's
  pub owner_flow : (flow : Flow) (server port : ℕ) → Owns w.setup w.clients calls flow server port → IsFlow w.setup w.clients flow
  owner_flow flow server port o =
      subst (IsFlow w.setup w.clients) o.owned (proposed_of (shard_of flow w.setup.shards) (home_below flow) (key.Port w.setup.service.number server port) o.owner o.decided)

  -- and the port is of the flow's shard
  pub port_home : (flow : Flow) (server port : ℕ) → Owns w.setup w.clients calls flow server port → shard_of_port port w.setup.shards ≡ shard_of flow w.setup.shards
  port_home flow server port o =
      let g = shard_of flow w.setup.shards in
      let p = port_for g (home_below flow) w.setup.service.number server port o.owner o.decided in
      let h : shard_of (port_owner o.owner) w.setup.shards ≡ g = p.on_shard in
      ap (λ (x : ℕ). shard_of_port x w.setup.shards) p.is_candidate
      ∙ of_its_shard (marked w.setup.secret (port_owner o.owner)).first (shard_of (port_owner o.owner) w.setup.shards) w.setup.shards p.candidate inv.good.shards (home_below (port_owner o.owner))
      ∙ h

  module _ (live : AllLive w) (laws : (g : ℕ) → MoveLaws w.setup g) where
    lives_in : (g : ℕ) → g < length w.shards → (o : Option Shard) → slice_get w.shards g ≡ o → Lives (unwrap_or o (no_shard w.setup)).bench.cells
    lives_in g below None is = absurd (none_within w.shards g is below)
    lives_in g below (Some shard) is = at (λ (s : Shard). Lives s.bench.cells) w.shards g shard live is

    pub lives_at : (g : ℕ) → g < w.setup.shards → Lives (bench_at w g).cells
    lives_at g below = lives_in g (subst (λ n. g < n) (sym inv.shard_count) below) (slice_get w.shards g) refl

    pub lives_after : (g : ℕ) → g < w.setup.shards → Lives (bench_after w.setup g (calls g)).cells
    lives_after g below = subst (λ (b : BenchState). Lives b.cells) (inv.shard g below).bench (lives_at g below)

    -- ---- one record
    pub one_at : (g : ℕ) → g < w.setup.shards → (k : Key) (r q : Record) → Decides (log_at w.setup calls g) k r → Decides (log_at w.setup calls g) k q → r ≡ q
    one_at g below k r q a b = (laws g).one_record (calls g) k r q (lives_after g below) a b

    pub word_is : (flow : Flow) (k : Key) (r : Record) → DecidesOf w.setup calls flow k r → word_of w flow k ≡ Some r
    word_is flow k r decides =
        let g = shard_of flow w.setup.shards in
        subst (λ (b : BenchState). word b.cells k ≡ Some r) (sym (shard_is flow).bench)
        (agreement_law w.setup g (calls g) k r (lives_after g (home_below flow)) decides)

    -- ---- one port of a flow
    pub one_port : (flow : Flow) (server port server' port' : ℕ) → Owns w.setup w.clients calls flow server port → Owns w.setup w.clients calls flow server' port' → (server ≡ server') × (port ≡ port')
    one_port flow server port server' port' a b =
        let g = shard_of flow w.setup.shards in
        (laws g).one_port (calls g) (shard_is flow).are (lives_after g (home_below flow)) w.setup.service.number server port w.setup.service.number server' port'
        a.owner b.owner a.decided b.decided (a.owned ∙ sym b.owned)

    -- ---- one owner of a port
    pub one_owner : (flow other : Flow) (server port : ℕ) → Owns w.setup w.clients calls flow server port → Owns w.setup w.clients calls other server port → flow ≡ other
    one_owner flow other server port a b =
        let g = shard_of flow w.setup.shards in
        let same : shard_of other w.setup.shards ≡ g = sym (port_home other server port b) ∙ port_home flow server port a in
        let there : Decides (log_at w.setup calls g) (key.Port w.setup.service.number server port) b.owner =
        subst (λ n. Decides (log_at w.setup calls n) (key.Port w.setup.service.number server port) b.owner) same b.decided in
        sym a.owned ∙ ap port_owner (one_at g (home_below flow) (key.Port w.setup.service.number server port) a.owner b.owner a.decided there) ∙ b.owned

    -- ---- one end of a flow
    pub same_end : (server port : ℕ) (s t : ServerEnd) → end_of_server w server port ≡ Some s → end_of_server w server port ≡ Some t → s ≡ t
    same_end server port s t a b = same_Some s t (sym a ∙ b)

    pub end_owns : (flow : Flow) (server port : ℕ) (s : ServerEnd) → IsEndFor w flow server port s → Owns w.setup w.clients calls flow server port
    end_owns flow server port s is =
        let e = inv.server server port s is.here in
        subst (λ f. Owns w.setup w.clients calls f server port) (same_Some e.flow flow (sym e.made ∙ is.made)) e.owns

    pub one_end : (flow : Flow) (server port server' port' : ℕ) (s t : ServerEnd) → IsEndFor w flow server port s → IsEndFor w flow server' port' t → (server ≡ server') × (port ≡ port')
    one_end flow server port server' port' s t a b = one_port flow server port server' port' (end_owns flow server port s a) (end_owns flow server' port' t b)

    -- the end that a decided Open names
    pub opened_owns : (flow : Flow) (r : Record) → DecidesOf w.setup calls flow (key.Open flow) r → Owns w.setup w.clients calls flow (open_server r) (open_port r)
    opened_owns flow r decides =
        let g = shard_of flow w.setup.shards in
        let o = (laws g).opened (calls g) (shard_is flow).are flow r decides in
        record { owner = o.0; decided = o.1; owned = o.2 }

    pub opened_end : (flow : Flow) (r : Record) → DecidesOf w.setup calls flow (key.Open flow) r → OpensEnd w.setup w.clients w r
    opened_end flow r decides = proposed_of (shard_of flow w.setup.shards) (home_below flow) (key.Open flow) r decides

    -- a server's end whose port a flow owns was made by a SYN of that flow
    pub end_for : (flow : Flow) (server port : ℕ) (s : ServerEnd) → end_of_server w server port ≡ Some s → Owns w.setup w.clients calls flow server port → IsEndFor w flow server port s
    end_for flow server port s here owns =
        let e = inv.server server port s here in
        record { here = here; made = e.made ∙ ap (λ (f : Flow). Some f) (one_owner e.flow flow server port e.owns owns) }
