-- A move that asks and leaves what is held, or passes a segment on, is the same whatever is held.
use Rattle.std.proofs.Common.{◌≡◌, ℕ, Bool, true, false, ◌==◌, Option, Some, None, List, [], ◌∷◌, length, refl}
use Rattle.std.specs.Prelude.{nat_lt, if◌then◌else◌}
use Rattle.flow_id.specs.Hashes.{drawn}
use Rattle.flow_id.specs.declared.key.Flow.{Flow}
use Rattle.flow_record.specs.declared.record.Record.{Record}
use Rattle.flow_record.specs.Records.{open_number, is_choice}
use Rattle.tcp_segment.specs.declared.segment.Segment.{Segment}
use Rattle.http_head.specs.Reading.{Reading, reading, complete, bad, partial}
use Rattle.rule_table.specs.Setups.{SetupView}
use Rattle.server_hand.specs.Choosing.{choice_of}
use Rattle.job_core.specs.declared.aim.Aim.{Aim}
use Rattle.job_core.specs.declared.aim.Aim.TheVariants as aim
use Rattle.job_core.specs.declared.moves.Answer.{Answer}
use Rattle.job_core.specs.declared.moves.Answer.TheVariants.{Decided, Absent, Down}
use Rattle.job_core.specs.declared.moves.HeldChange.TheVariants as change
use Rattle.job_core.specs.declared.moves.Next.{Next}
use Rattle.job_core.specs.declared.moves.Move.{Move}
use Rattle.job_core.specs.Aims.{is_syn, is_syn_ack, is_reset}
use Rattle.job_core.specs.Moves.{any_down}
use Rattle.job_core.specs.Held.{held_limit, offset_of, reaches}
use Rattle.job_core.specs.Rooms.{AsksOrPasses, AsksOrPassesBy, MayNeedMemory}
use Rattle.job_core.specs.Table.{Whose, untold, nobody, of_flow, next_move, line, client_line, server_line, whose_flow, whose_port, chooses, reads, holds, goes_on, before_open, client_other, server_syn_ack}
use Rattle.job_core.proofs.Asks.{by_test}

-- where the one is such a move, the other is the same
abbrev Alike : Move → Move → Type 0
Alike m n = AsksOrPasses m → m ≡ n

by_both : (b : Bool) (x y z w : Move) → (b ≡ true → Alike x z) → (b ≡ false → Alike y w) → Alike (if b then x else y) (if b then z else w)
by_both true x y z w holds fails = holds refl
by_both false x y z w holds fails = fails refl

-- ---- a move by which data is added needs memory
module _ (setup : SetupView) (instance : ℕ) (seg : Segment) (held : List ℕ) where
  by_choice : (flow : Flow) (bytes : List ℕ) (o : Option Record) → AsksOrPassesBy (chooses flow o) (change.Set bytes) → ⊥
  by_choice flow bytes None = λ by. cc
  by_choice flow bytes (Some r) = λ by. cc

  by_reading : (flow : Flow) (bytes : List ℕ) (r : Reading) → AsksOrPassesBy (reads setup instance flow bytes r) (change.Set bytes) → ⊥
  by_reading flow bytes partial =
      by_test (λ (n : Next). AsksOrPassesBy n (change.Set bytes) → ⊥) (nat_lt (length bytes) held_limit) _ _ (λ below by. cc) (λ full by. cc)
  by_reading flow bytes bad = λ by. cc
  by_reading flow bytes (complete h) = by_choice flow bytes (choice_of setup bytes (drawn setup.secret flow instance))

  pub holds_some : (flow : Flow) (syn : Record) → MayNeedMemory (holds setup instance flow syn seg held)
  holds_some flow syn =
      by_test MayNeedMemory (reaches held (offset_of syn seg) seg.body) _ _ (λ reached. by_reading flow _ (reading _)) (λ beyond by. cc)

-- ---- the lines, whatever is held
module _ (setup : SetupView) (instance : ℕ) (seg : Segment) (held more : List ℕ) where
  goes_alike : (flow : Flow) (syn r : Record) (answers : List Answer) → Alike (goes_on setup flow syn seg held r answers) (goes_on setup flow syn seg more r answers)
  goes_alike flow syn r answers = by_both (is_choice r) _ _ _ _ (λ chosen by. refl) (λ other by. absurd cc)

  before_alike : (flow : Flow) (syn : Record) (answers : List Answer) → Alike (before_open setup instance flow syn seg held answers) (before_open setup instance flow syn seg more answers)
  before_alike flow syn [] = by_both (length seg.body == 0) _ _ _ _ (λ empty by. refl) (λ some by. absurd (holds_some setup instance seg held flow syn by))
  before_alike flow syn (Decided r ∷ answers) = goes_alike flow syn r answers
  before_alike flow syn (Absent ∷ answers) = λ by. refl
  before_alike flow syn (Down ∷ answers) = λ by. refl

  other_alike : (flow : Flow) (syn : Record) (answers : List Answer) → Alike (client_other setup instance flow syn seg held answers) (client_other setup instance flow syn seg more answers)
  other_alike flow syn [] = λ by. refl
  other_alike flow syn (Decided opened ∷ answers) = λ by. refl
  other_alike flow syn (Absent ∷ answers) = before_alike flow syn answers
  other_alike flow syn (Down ∷ answers) = λ by. refl

  client_alike : (whose : Whose) → Alike (client_line setup instance seg held whose) (client_line setup instance seg more whose)
  client_alike (untold ask) = λ by. refl
  client_alike nobody = λ by. refl
  client_alike (of_flow flow syn answers) = by_both (is_reset seg.head.flags) _ _ _ _ (λ reset by. refl) (λ other. other_alike flow syn answers)

  syn_ack_alike : (server port : ℕ) (flow : Flow) (syn : Record) (answers : List Answer) → Alike (server_syn_ack setup server port flow syn seg held answers) (server_syn_ack setup server port flow syn seg more answers)
  syn_ack_alike server port flow syn [] = λ by. refl
  syn_ack_alike server port flow syn (Decided opened ∷ answers) = by_both (open_number opened == seg.head.seq.0) _ _ _ _ (λ same by. absurd cc) (λ other by. refl)
  syn_ack_alike server port flow syn (Absent ∷ answers) = λ by. refl
  syn_ack_alike server port flow syn (Down ∷ answers) = λ by. refl

  server_alike : (server port : ℕ) (whose : Whose) → Alike (server_line setup server port seg held whose) (server_line setup server port seg more whose)
  server_alike server port (untold ask) = λ by. refl
  server_alike server port nobody = λ by. refl
  server_alike server port (of_flow flow syn answers) = by_both (is_syn_ack seg.head.flags) _ _ _ _ (λ ack. syn_ack_alike server port flow syn answers) (λ other by. refl)

  line_alike : (a : Aim) (answers : List Answer) → Alike (line setup instance a seg answers held) (line setup instance a seg answers more)
  line_alike (aim.Client flow) answers = by_both (is_syn seg.head.flags) _ _ _ _ (λ opens by. refl) (λ later. client_alike (whose_flow flow answers))
  line_alike (aim.Server server port) answers = server_alike server port (whose_port setup server port answers)
  line_alike (aim.Odd flags) answers = λ by. refl
  line_alike aim.NotOurs answers = λ by. refl

-- the move is the same
pub move_alike : (setup : SetupView) (instance : ℕ) (a : Aim) (seg : Segment) (answers : List Answer) (held more : List ℕ)
    → AsksOrPasses (next_move setup instance a seg answers held) → next_move setup instance a seg answers held ≡ next_move setup instance a seg answers more
unfolding next_move
move_alike setup instance a seg answers held more =
    by_both (any_down answers) _ _ _ _ (λ down by. refl) (λ up. line_alike setup instance seg held more a answers)
