-- One record of a key, and one server and port of a flow.
use Rattle.std.proofs.Common.{◌≡◌, ℕ, ◌<◌, inl, inr, List, sym, ◌∙◌, ap, subst, arith}
use Rattle.std.proofs.lemmas.Bool.{cases_lt, false≢true}
use Rattle.std.proofs.lemmas.Option.{same_Some}
use Rattle.flow_id.specs.Keys.{same_flow}
use Rattle.flow_id.proofs.SameKeys.{same_flow_itself}
use Rattle.flow_id.specs.declared.key.Flow.{Flow}
use Rattle.flow_id.specs.declared.key.Key.TheVariants as key
use Rattle.flow_record.specs.Records.{choice_server, port_owner, open_server, open_port}
use Rattle.flow_record.specs.declared.record.Record.{Record}
use Rattle.job_core.specs.Table.{candidate_of}
use Rattle.replica_cell.specs.Stores.{Lives}
use Rattle.rule_table.specs.Setups.{SetupView, IsSetup}
use Rattle.bench.specs.declared.call.Call.{Call}
use Rattle.bench.specs.Histories.{Mark, bench_after, log_after, Decides}
use Rattle.bench.specs.JobLaws.{IsPortFor}
use Rattle.bench.specs.MoveLaws.{OneRecordLaw, OnePortLaw, OpenedLaw, OneConnectionLaw}
use Rattle.bench.proofs.Chains.{port_law, open_law}
use Rattle.bench.proofs.Histories.{agreement_law}
use Rattle.bench.proofs.Origins.{origin_in_log}

pub one_record : (setup : SetupView) (shard : ℕ) → OneRecordLaw setup shard
one_record setup shard calls k r q lives first second =
    same_Some r q (sym (agreement_law setup shard calls k r lives first) ∙ agreement_law setup shard calls k q lives second)

module _ (setup : SetupView) (shard : ℕ) (calls : List Call) (lives : Lives (bench_after setup shard calls).cells) where
  abbrev log : List Mark
  log = log_after setup shard calls

  abbrev For : ℕ → ℕ → ℕ → Record → Type 0
  For service server port r = IsPortFor log setup shard service server port r

  -- a candidate that is decided for the flow is not one before that which is proposed for it
  not_before : (service server port other_port : ℕ) (r q : Record) (p : For service server port r) (o : For service server other_port q)
      → Decides log (key.Port service server port) r → port_owner r ≡ port_owner q → p.candidate < o.candidate → ⊥
  not_before service server port other_port r q p o decided same less =
      let other = o.taken p.candidate less in
      let here : candidate_of setup (port_owner q) p.candidate ≡ port = ap (λ (f : Flow). candidate_of setup f p.candidate) (sym same) ∙ sym p.is_candidate in
      let found : Decides log (key.Port service server port) other.0 = subst (λ n. Decides log (key.Port service server n) other.0) here other.1 in
      let one : other.0 ≡ r = one_record setup shard calls (key.Port service server port) other.0 r lives found decided in
      let owners : port_owner other.0 ≡ port_owner q = ap port_owner one ∙ same in
      false≢true (sym other.2 ∙ ap (λ (f : Flow). same_flow f (port_owner q)) owners ∙ same_flow_itself (port_owner q))

  same_port : (service server port other_port : ℕ) (r q : Record) (p : For service server port r) (o : For service server other_port q)
      → Decides log (key.Port service server port) r → Decides log (key.Port service server other_port) q → port_owner r ≡ port_owner q → port ≡ other_port
  same_port service server port other_port r q p o decided also same =
      p.is_candidate ∙ ap (λ (f : Flow). candidate_of setup f p.candidate) same ∙ ap (candidate_of setup (port_owner q))
      (equal p.candidate o.candidate (not_before service server port other_port r q p o decided same) (not_before service server other_port port q r o p also (sym same))) ∙ sym o.is_candidate
    where
      equal : (m n : ℕ) → (m < n → ⊥) → (n < m → ⊥) → m ≡ n
      equal m n above below = elim (cases_lt m n) [
        | inl less ↦ absurd (above less)
        | inr most ↦ elim (cases_lt n m) [
          | inl less ↦ absurd (below less)
          | inr least ↦ omega arith
        ]
      ]

pub one_port : (setup : SetupView) (shard : ℕ) → IsSetup setup → OnePortLaw setup shard
one_port setup shard good calls are lives service server port other_service other other_port r q decided also same =
    let p = port_law setup shard good calls are service server port r (origin_in_log setup shard calls (key.Port service server port) r decided) in
    let o = port_law setup shard good calls are other_service other other_port q (origin_in_log setup shard calls (key.Port other_service other other_port) q also) in
    let choices : p.choice ≡ o.choice =
    one_record setup shard calls (key.Choice (port_owner q)) p.choice o.choice lives (subst (λ f. Decides (log_after setup shard calls) (key.Choice f) p.choice) same p.choice_decided) o.choice_decided in
    let servers : server ≡ other = p.of_choice ∙ ap choice_server choices ∙ sym o.of_choice in
    let services : other_service ≡ service = o.of_service ∙ sym p.of_service in
    let here : Decides (log_after setup shard calls) (key.Port service server other_port) q =
    subst (λ n. Decides (log_after setup shard calls) (key.Port n server other_port) q) services
    (subst (λ n. Decides (log_after setup shard calls) (key.Port other_service n other_port) q) (sym servers) also) in
    let there = port_law setup shard good calls are service server other_port q (origin_in_log setup shard calls (key.Port service server other_port) q here) in
    (servers, same_port setup shard calls lives service server port other_port r q p there decided here same)

pub opened_law : (setup : SetupView) (shard : ℕ) → IsSetup setup → OpenedLaw setup shard
opened_law setup shard good calls are flow r decides =
    let o = open_law setup shard good calls are flow r (origin_in_log setup shard calls (key.Open flow) r decides) in (o.owner, o.owner_decided, o.owned)

pub one_connection : (setup : SetupView) (shard : ℕ) → IsSetup setup → OneConnectionLaw setup shard
one_connection setup shard good calls are lives flow r service server port owner opened owned of =
    let o = opened_law setup shard good calls are flow r opened in
    one_port setup shard good calls are lives setup.service.number (open_server r) (open_port r) service server port o.0 owner o.1 owned (o.2 ∙ sym of)
