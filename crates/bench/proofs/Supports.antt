-- Each answer of a job is that of an ask of the key that the handling table asks for there.
use Rattle.std.proofs.Common.{◌≡◌, ℕ, suc, ◌⊎◌, inl, inr, true, false, List, [], ◌∷◌, ◌++◌, length, refl, sym, ◌∙◌, ap, subst}
use Rattle.std.proofs.lemmas.Bool.{false≢true}
use Rattle.flow_id.specs.declared.key.Flow.{Flow}
use Rattle.flow_id.specs.declared.key.Key.{Key}
use Rattle.flow_id.specs.declared.key.Key.TheVariants as key
use Rattle.flow_record.specs.Records.{asked_key, fits_key, is_choice, choice_server, port_owner}
use Rattle.flow_record.specs.declared.record.Record.{Record}
use Rattle.flow_record.specs.declared.record.Record.TheVariants.{Syn, Choice, Port, Open, Fin, Gone}
use Rattle.flow_record.specs.declared.record.Ask.{Ask}
use Rattle.job_core.specs.Aims.{is_reset}
use Rattle.job_core.specs.Table.{candidate_of}
use Rattle.job_core.specs.declared.aim.Aim.{Aim}
use Rattle.job_core.specs.declared.aim.Aim.TheVariants as aim
use Rattle.job_core.specs.declared.moves.Answer.{Answer}
use Rattle.job_core.proofs.Asks.{asked_is, length-push}
use Rattle.job_core.specs.declared.moves.Answer.TheVariants.{Decided, Absent, Down}
use Rattle.rule_table.specs.Setups.{SetupView, IsSetup}
use Rattle.tcp_segment.specs.declared.segment.Segment.{Segment}
use Rattle.bench.specs.declared.call.Call.{Call}
use Rattle.bench.specs.Calls.{AreCalls}
use Rattle.bench.specs.Histories.{Mark, log_after, Ends, Decides}
use Rattle.bench.specs.JobLaws.{PortsAnswered, ChoiceAnswered, OpenAnswered, ClientAnswered, OwnersOpenAnswered, OwnerAnswered, PortAnswered, Supported, JobsKnown, BegunLaw}
use Rattle.bench.specs.Laws.{Asks, EachAnswered}
pub use Rattle.bench.proofs.Asking.{client_second, server_second}
use Rattle.bench.proofs.Asking.{client_first, client_third, client_port, server_first, server_third, key_is}
use Rattle.bench.proofs.Begun.{jobs_known, raw_after}
use Rattle.bench.proofs.Fits.{decided_fit}

-- a choice is no record of a flow's end
not_gone : (flow : Flow) (r : Record) → fits_key (key.Gone flow) r ≡ true → is_choice r ≡ true → ⊥
not_gone flow (Syn number mss window scale sack) fits chosen = false≢true chosen
not_gone flow (Choice server rule) fits chosen = false≢true fits
not_gone flow (Port owner) fits chosen = false≢true chosen
not_gone flow (Open server port number scale sack) fits chosen = false≢true chosen
not_gone flow (Fin side number) fits chosen = false≢true chosen
not_gone flow (Gone by) fits chosen = false≢true chosen

module _ (log : List Mark) (setup : SetupView) (fit : (k : Key) (r : Record) → Decides log k r → fits_key k r ≡ true) (i : ℕ) (seg : Segment) where
  module _ (flow : Flow) where
    abbrev c : Aim
    c = aim.Client flow

    ports_answered : (a b : Answer) (choice : Record) (taken answers : List Answer) (n : ℕ) → n ≡ length taken
        → EachAnswered log setup i c seg (a ∷ b ∷ Decided choice ∷ taken) answers → PortsAnswered log setup flow choice n answers
    ports_answered a b choice taken [] n same each = tt
    ports_answered a b choice taken (got ∷ answers) n same each = (
      subst (λ m. Ends log (key.Port setup.service.number (choice_server choice) (candidate_of setup flow m)) got) (sym same)
          (key_is log setup i seg c (a ∷ b ∷ Decided choice ∷ taken) answers got _ each (λ held x q asked. client_port setup i seg held flow a b choice taken x q asked)),
      ports_answered a b choice (taken ++ got ∷ []) answers (suc n) (ap suc same ∙ sym (length-push taken got)) each.1,
    )

    chosen_by : (r : Record) (k : Key) → is_choice r ≡ true → Decides log k r → (k ≡ key.Choice flow) ⊎ (k ≡ key.Gone flow) → Decides log (key.Choice flow) r
    chosen_by r k chosen decides (inl choice) = subst (λ x. Decides log x r) choice decides
    chosen_by r k chosen decides (inr gone) = absurd (not_gone flow r (fit (key.Gone flow) r (subst (λ x. Decides log x r) gone decides)) chosen)

    choice_answered : (a : Answer) (answers : List Answer) → is_reset seg.head.flags ≡ false → EachAnswered log setup i c seg (a ∷ Absent ∷ []) answers → ChoiceAnswered log setup flow answers
    choice_answered a [] still each = tt
    choice_answered a (Decided r ∷ answers) still each = λ chosen.
        let q : Ask = each.0.0 in
        let asks : Asks setup i c seg (a ∷ Absent ∷ []) q = each.0.1 in (
          chosen_by r (asked_key q) chosen each.0.2 (client_third setup i seg asks.0 flow a _ q still (asked_is setup i c seg (a ∷ Absent ∷ []) asks.0 q asks.1)),
          ports_answered a Absent r [] answers 0 refl each.1,
        )
    choice_answered a (Absent ∷ answers) still each = tt
    choice_answered a (Down ∷ answers) still each = tt

    open_answered : (a : Answer) (answers : List Answer) → EachAnswered log setup i c seg (a ∷ []) answers → OpenAnswered log setup flow seg answers
    open_answered a [] each = tt
    open_answered a (Decided r ∷ answers) each = key_is log setup i seg c (a ∷ []) answers (Decided r) (key.Open flow) each (λ held x q asked. client_second setup i seg held flow a x q asked)
    open_answered a (Absent ∷ answers) each =
        (key_is log setup i seg c (a ∷ []) answers Absent (key.Open flow) each (λ held x q asked. client_second setup i seg held flow a x q asked), λ still. choice_answered a answers still each.1)
    open_answered a (Down ∷ answers) each = key_is log setup i seg c (a ∷ []) answers Down (key.Open flow) each (λ held x q asked. client_second setup i seg held flow a x q asked)

    client_answered : (answers : List Answer) → EachAnswered log setup i c seg [] answers → ClientAnswered log setup flow seg answers
    client_answered [] each = tt
    client_answered (a ∷ answers) each = (key_is log setup i seg c [] answers a (key.Syn flow) each (λ held x q asked. client_first setup i seg held flow x q asked), open_answered a answers each.1)

  module _ (server port : ℕ) where
    abbrev s : Aim
    s = aim.Server server port

    owners_open : (r : Record) (a : Answer) (answers : List Answer) → EachAnswered log setup i s seg (Decided r ∷ a ∷ []) answers → OwnersOpenAnswered log (port_owner r) answers
    owners_open r a [] each = tt
    owners_open r a (got ∷ answers) each = key_is log setup i seg s (Decided r ∷ a ∷ []) answers got (key.Open (port_owner r)) each (λ held x q asked. server_third setup i seg held server port r a x q asked)

    owner_answered : (r : Record) (answers : List Answer) → EachAnswered log setup i s seg (Decided r ∷ []) answers → OwnerAnswered log (port_owner r) answers
    owner_answered r [] each = tt
    owner_answered r (a ∷ answers) each =
        (key_is log setup i seg s (Decided r ∷ []) answers a (key.Syn (port_owner r)) each (λ held x q asked. server_second setup i seg held server port r x q asked), owners_open r a answers each.1)

    port_key : (answers : List Answer) (got : Answer) → EachAnswered log setup i s seg [] (got ∷ answers) → Ends log (key.Port setup.service.number server port) got
    port_key answers got each = key_is log setup i seg s [] answers got (key.Port setup.service.number server port) each (λ held x q asked. server_first setup i seg held server port x q asked)

    port_answered : (answers : List Answer) → EachAnswered log setup i s seg [] answers → PortAnswered log setup server port answers
    port_answered [] each = tt
    port_answered (Decided r ∷ answers) each = (port_key answers (Decided r) each, owner_answered r answers each.1)
    port_answered (Absent ∷ answers) each = port_key answers Absent each
    port_answered (Down ∷ answers) each = port_key answers Down each

  pub supported : (a : Aim) (answers : List Answer) → EachAnswered log setup i a seg [] answers → Supported log setup a seg answers
  supported (aim.Client flow) answers each = client_answered flow answers each
  supported (aim.Server server port) answers each = port_answered server port answers each
  supported (aim.Odd flags) answers each = tt
  supported aim.NotOurs answers each = tt

-- ---- the laws
module _ (setup : SetupView) (shard : ℕ) (good : IsSetup setup) where
  fit_after : (calls : List Call) → AreCalls setup shard calls → (k : Key) (r : Record) → Decides (log_after setup shard calls) k r → fits_key k r ≡ true
  fit_after calls are k r decides = (decided_fit setup shard good calls are k r decides).0

  pub jobs_supported : JobsKnown setup shard
  jobs_supported calls are i job here =
      let known = jobs_known setup shard calls are i job here in
      record { aimed = known.aimed; few = known.few; supported = supported (log_after setup shard calls) setup (fit_after calls are) i job.segment job.aim job.answers known.law.answered }

  pub begun_law : BegunLaw setup shard
  begun_law calls are ask begins =
      let raw = raw_after setup shard calls are ask begins in
      record {
        instance = raw.instance;
        aim = raw.aim;
        segment = raw.segment;
        answers = raw.answers;
        aimed = raw.aimed;
        asks = raw.asks;
        few = raw.few;
        supported = supported (log_after setup shard calls) setup (fit_after calls are) raw.instance raw.segment raw.aim raw.answers raw.answered;
      }
