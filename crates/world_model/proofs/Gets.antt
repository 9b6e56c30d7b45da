-- An opening is no answer to an ask for a record that is to be there: what opens a connection is decided by an Add.
use Rattle.std.proofs.Common.{◌≡◌, ℕ, ◌≤◌, true, List, length, sym, ◌∙◌, arith}
use Rattle.std.proofs.lemmas.Bool.{true≢false}
use Rattle.flow_record.specs.declared.record.Ask.{Ask}
use Rattle.job_core.specs.Aims.{is_syn_ack}
use Rattle.job_core.specs.Jobs.{is_get}
use Rattle.job_core.specs.TableLaws.{IsAsked, IsEnded}
use Rattle.job_core.specs.TableLaws.IsAsked.{adds_syn, gets_syn, gets_open, client_resets, client_closes, refuses, adds_choice, adds_port, gets_port, gets_owner, adds_open, gets_owners_open, server_resets, server_closes}
use Rattle.job_core.specs.TableLaws.IsEnded.{silent, answered, asked, opened, to_server, to_client, refused, unknown_client, unknown_port, unknown_owner, turned_away}
use Rattle.job_core.specs.declared.aim.Aim.{Aim}
use Rattle.job_core.specs.declared.moves.Answer.{Answer}
use Rattle.job_core.specs.declared.moves.HeldChange.{HeldChange}
use Rattle.job_core.specs.declared.verdict.Verdict.{Verdict}
use Rattle.job_core.specs.declared.verdict.Verdict.TheVariants as verdict
use Rattle.rule_table.specs.Setups.{SetupView}
use Rattle.tcp_segment.specs.declared.segment.Segment.{Segment}

pub gets_few : (setup : SetupView) (i : ℕ) (seg : Segment) (held : List ℕ) (a : Aim) (answers : List Answer) (x : HeldChange) (q : Ask) → IsAsked setup i seg held a answers x q
    → is_get q ≡ true → is_syn_ack seg.head.flags ≡ true → length answers ≤ 1
gets_few setup i seg held a answers x q (adds_syn flow r syn kind number) get ack = absurd (cc)
gets_few setup i seg held a answers x q (gets_syn flow other) get ack = omega arith
gets_few setup i seg held a answers x q (gets_open flow syn other) get ack = omega arith
gets_few setup i seg held a answers x q (client_resets flow syn r b other reset kind) get ack = absurd (cc)
gets_few setup i seg held a answers x q (client_closes flow syn opened_ r other still fin kind) get ack = absurd (cc)
gets_few setup i seg held a answers x q (refuses flow syn r more other still reached is kind) get ack = absurd (cc)
gets_few setup i seg held a answers x q (adds_choice flow syn r more other still reached is whole chosen) get ack = absurd (cc)
gets_few setup i seg held a answers x q (adds_port flow syn choice r taken other still chosen others few kind owns) get ack = absurd (cc)
gets_few setup i seg held a answers x q (gets_port server port) get ack = omega arith
gets_few setup i seg held a answers x q (gets_owner server port owner) get ack = omega arith
gets_few setup i seg held a answers x q (adds_open server port owner syn r set acks kind at port_at number) get ack = absurd (cc)
gets_few setup i seg held a answers x q (gets_owners_open server port owner syn other) get ack = absurd (true≢false (sym ack ∙ other))
gets_few setup i seg held a answers x q (server_resets server port owner syn r b other reset kind) get ack = absurd (cc)
gets_few setup i seg held a answers x q (server_closes server port owner syn opened_ r other still fin kind) get ack = absurd (cc)

pub opening_many : (setup : SetupView) (seg : Segment) (held : List ℕ) (a : Aim) (answers : List Answer) (v : Verdict) (outs : List Segment) → IsEnded setup seg held a answers v outs → v ≡ verdict.Opened
    → (is_syn_ack seg.head.flags ≡ true) × (3 ≤ length answers)
opening_many setup seg held a answers v outs (opened server port owner syn r later _ ack number it) is = (ack, omega arith)
opening_many setup seg held a answers v outs (silent _ _ _ quiet) is = absurd (cc)
opening_many setup seg held a answers v outs (answered flow syn later s e f g) is = absurd (cc)
opening_many setup seg held a answers v outs (asked flow syn choice owner ports later s e f g h i j) is = absurd (cc)
opening_many setup seg held a answers v outs (to_server flow syn r later s e f) is = absurd (cc)
opening_many setup seg held a answers v outs (to_client server port owner syn r later s e f) is = absurd (cc)
opening_many setup seg held a answers v outs (refused flow syn r later why _ e f g h) is = absurd (cc)
opening_many setup seg held a answers v outs (unknown_client flow later _ e f) is = absurd (cc)
opening_many setup seg held a answers v outs (unknown_port server port later _ e) is = absurd (cc)
opening_many setup seg held a answers v outs (unknown_owner server port owner later _ e) is = absurd (cc)
opening_many setup seg held a answers v outs (turned_away server port owner syn b later s e f g) is = absurd (cc)
