-- Which key the handling table asks for, by the answers before.
use Rattle.std.proofs.Common.{◌≡◌, ℕ, ◌⊎◌, inl, inr, true, false, List, [], ◌∷◌, length, refl, sym, ◌∙◌, ap, subst}
use Rattle.std.proofs.lemmas.Bool.{false≢true}
use Rattle.flow_id.specs.declared.key.Flow.{Flow}
use Rattle.flow_id.specs.declared.key.Key.{Key}
use Rattle.flow_id.specs.declared.key.Key.TheVariants as key
use Rattle.flow_record.specs.Records.{asked_key, is_port, choice_server, port_owner}
use Rattle.flow_record.specs.declared.record.Record.{Record}
use Rattle.flow_record.specs.declared.record.Record.TheVariants as item
use Rattle.flow_record.specs.declared.record.Ask.{Ask}
use Rattle.job_core.specs.Aims.{is_reset}
use Rattle.job_core.specs.Table.{candidate_of}
use Rattle.job_core.specs.declared.aim.Aim.{Aim}
use Rattle.job_core.specs.declared.aim.Aim.TheVariants as aim
use Rattle.job_core.specs.declared.moves.Answer.{Answer}
use Rattle.job_core.specs.declared.moves.Answer.TheVariants.{Decided, Absent}
use Rattle.job_core.specs.declared.moves.HeldChange.{HeldChange}
use Rattle.job_core.specs.TableLaws.{IsAsked}
use Rattle.job_core.specs.TableLaws.IsAsked.{adds_syn, gets_syn, gets_open, client_resets, refuses, adds_choice, adds_port, gets_port, gets_owner, adds_open, gets_owners_open}
use Rattle.job_core.proofs.Asks.{asked_is}
use Rattle.rule_table.specs.Setups.{SetupView}
use Rattle.tcp_segment.specs.declared.segment.Segment.{Segment}
use Rattle.bench.specs.Histories.{Mark, Ends}
use Rattle.bench.specs.Laws.{Asks, EachAnswered}

-- an owner's record is what stands in it
pub port_is : (r : Record) (flow : Flow) → is_port r ≡ true → port_owner r ≡ flow → r ≡ item.Port flow
port_is (item.Port owner) flow kind same = ap item.Port same
port_is (item.Syn number mss window scale sack) flow kind same = absurd (false≢true kind)
port_is (item.Choice server rule) flow kind same = absurd (false≢true kind)
port_is (item.Open server port number scale sack) flow kind same = absurd (false≢true kind)
port_is (item.Fin side number) flow kind same = absurd (false≢true kind)
port_is (item.Gone by) flow kind same = absurd (false≢true kind)

-- ---- which key is asked for
module _ (setup : SetupView) (i : ℕ) (seg : Segment) (held : List ℕ) where
  pub client_first : (flow : Flow) (x : HeldChange) (q : Ask) → IsAsked setup i seg held (aim.Client flow) [] x q → asked_key q ≡ key.Syn flow
  client_first flow x q (adds_syn f r syn kind number) = refl
  client_first flow x q (gets_syn f other) = refl

  pub client_second : (flow : Flow) (a : Answer) (x : HeldChange) (q : Ask) → IsAsked setup i seg held (aim.Client flow) (a ∷ []) x q → asked_key q ≡ key.Open flow
  client_second flow a x q (gets_open f syn other) = refl

  pub client_third : (flow : Flow) (a : Answer) (x : HeldChange) (q : Ask) → is_reset seg.head.flags ≡ false → IsAsked setup i seg held (aim.Client flow) (a ∷ Absent ∷ []) x q
      → (asked_key q ≡ key.Choice flow) ⊎ (asked_key q ≡ key.Gone flow)
  client_third flow a x q still (client_resets f syn r b other reset kind) = absurd (false≢true (sym still ∙ reset))
  client_third flow a x q still (refuses f syn r more other same reached is kind) = inr refl
  client_third flow a x q still (adds_choice f syn choice more other same reached is whole chosen) = inl refl

  pub client_port : (flow : Flow) (a b : Answer) (choice : Record) (taken : List Answer) (x : HeldChange) (q : Ask) → IsAsked setup i seg held (aim.Client flow) (a ∷ b ∷ Decided choice ∷ taken) x q
      → asked_key q ≡ key.Port setup.service.number (choice_server choice) (candidate_of setup flow (length taken))
  client_port flow a b choice taken x q (adds_port f syn c r t other still chosen others left kind owns) = refl

  pub server_first : (server port : ℕ) (x : HeldChange) (q : Ask) → IsAsked setup i seg held (aim.Server server port) [] x q → asked_key q ≡ key.Port setup.service.number server port
  server_first server port x q (gets_port v p) = refl

  pub server_second : (server port : ℕ) (r : Record) (x : HeldChange) (q : Ask) → IsAsked setup i seg held (aim.Server server port) (Decided r ∷ []) x q → asked_key q ≡ key.Syn (port_owner r)
  server_second server port r x q (gets_owner v p s) = refl

  pub server_third : (server port : ℕ) (r : Record) (a : Answer) (x : HeldChange) (q : Ask) → IsAsked setup i seg held (aim.Server server port) (Decided r ∷ a ∷ []) x q → asked_key q ≡ key.Open (port_owner r)
  server_third server port r a x q (adds_open v p s syn opened ack acks kind of_server of_port number) = refl
  server_third server port r a x q (gets_owners_open v p s syn other) = refl

module _ (log : List Mark) (setup : SetupView) (i : ℕ) (seg : Segment) where
  -- the answer at the head of those that are left is one of this key
  pub key_is : (a : Aim) (before answers : List Answer) (got : Answer) (k : Key) → EachAnswered log setup i a seg before (got ∷ answers)
      → ((held : List ℕ) (x : HeldChange) (q : Ask) → IsAsked setup i seg held a before x q → asked_key q ≡ k) → Ends log k got
  key_is a before answers got k each names =
      let q : Ask = each.0.0 in
      let asks : Asks setup i a seg before q = each.0.1 in
      subst (λ x. Ends log x got) (names asks.0 _ q (asked_is setup i a seg before asks.0 q asks.1)) each.0.2
