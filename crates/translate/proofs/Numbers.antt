-- What stands in a segment that is passed on.
use Rattle.std.proofs.Common.{◌≡◌, ◌≤◌, ◌+◌, ◌*◌, ◌==◌, ◌∙◌, ℕ, Bool, true, false, eqb, refl, if◌then◌else◌, List, [], ◌∷◌, ap, subst, sym, arith}
use Rattle.std.proofs.lemmas.List.{length-map}
use Rattle.seq_space.specs.Blocks.{FitsBlocks}
use Rattle.seq_space.specs.declared.Num.{Num}
use Rattle.flow_record.specs.declared.record.Record.{Record}
use Rattle.sack_opt.specs.Moves.{moved, moved_block, moved_blocks, AreSameBlocks, IsSameEdge}
use Rattle.sack_opt.proofs.Edges.{keep-positions}
use Rattle.tcp_segment.specs.Written.{sack_length}
use Rattle.tcp_segment.specs.declared.options.Options.{Options}
use Rattle.flow_record.specs.Records.{open_number}
use Rattle.window_scale.specs.Windows.{counted}
use Rattle.window_scale.proofs.Greatest.{told-greatest}
use Rattle.translate.specs.Translation.{kept_flags, both_permit, passed_options, shifts_between, to_server_segment, to_client_segment, KeepsFlags, PassesBlocks, ToServerNumbers, ToClientNumbers, KeepsPosition, AcknowledgesSamePosition, StandsAtSamePosition}

keeps_flags : (flags : ℕ) → KeepsFlags flags (kept_flags flags)
keeps_flags flags =
    let is_one : ℕ → Bool = λ n. eqb n 1 in
    record {
      fin = ap is_one (omega arith);
      syn = ap is_one (omega arith);
      rst = ap is_one (omega arith);
      psh = ap is_one (omega arith);
      ack = ap is_one (omega arith);
      urg = ap is_one (omega arith);
      clear = omega arith;
    }

-- ---- blocks
few_or_none : (permit : Bool) (blocks : List (Num × Num)) → sack_length (if permit then blocks else []) ≤ sack_length blocks
few_or_none true blocks = omega arith
few_or_none false blocks = omega arith

same_length : (from to : ℕ) (blocks : List (Num × Num)) → sack_length (moved_blocks from to blocks) ≡ sack_length blocks
same_length from to blocks = ap (λ (n : ℕ). if n == 0 then 0 else 4 + 8 * n) (length-map blocks (moved_block from to))

-- these blocks are passed on, which name what those that were taken name
passes : (syn opened : Record) (from to : ℕ) (taken : Options) (blocks : List (Num × Num))
    → (FitsBlocks taken.sack → AreSameBlocks from to taken.sack blocks) → sack_length blocks ≡ sack_length taken.sack
    → PassesBlocks syn opened from to taken (passed_options syn opened blocks)
passes syn opened from to taken blocks same long = record {
  blocks = λ permit fits. subst (λ (b : Bool). AreSameBlocks from to taken.sack (if b then blocks else [])) (sym permit) (same fits);
  none = λ deny. ap (λ (b : Bool). if b then blocks else []) deny;
  alone = refl;
  room = omega (arith, few_or_none (both_permit syn opened) blocks, long);
}

same_edge : (first : ℕ) (e : Num) → IsSameEdge first first e e
same_edge first e around p = (λ near. near, λ near. near)

same_blocks : (first : ℕ) (blocks : List (Num × Num)) → AreSameBlocks first first blocks blocks
same_blocks first [] = tt
same_blocks first ((left, right) ∷ blocks) = ((same_edge first left, same_edge first right), same_blocks first blocks)

-- ---- all that stands in it
pub to_server_numbers : ToServerNumbers
unfolding to_server_segment
to_server_numbers setup seg forged syn opened = record {
  source = refl;
  source_port = refl;
  target = refl;
  target_port = refl;
  seq = refl;
  ack = λ acks. ap (λ b. if b then moved forged (open_number opened) seg.head.ack.0 else 0) acks;
  no_ack = λ none. ap (λ b. if b then moved forged (open_number opened) seg.head.ack.0 else 0) none;
  flags = keeps_flags seg.head.flags;
  window = told-greatest (counted seg.head.window (shifts_between syn opened).client_gives) (shifts_between syn opened).server_reads;
  options = passes syn opened forged (open_number opened) seg.head.options (moved_blocks forged (open_number opened) seg.head.options.sack)
      (λ fits. keep-positions forged (open_number opened) seg.head.options.sack fits) (same_length forged (open_number opened) seg.head.options.sack);
  body = refl;
}

pub to_client_numbers : ToClientNumbers
unfolding to_client_segment
to_client_numbers setup seg forged syn opened flow = record {
  source = refl;
  source_port = refl;
  target = refl;
  target_port = refl;
  seq = refl;
  ack = λ acks. ap (λ b. if b then seg.head.ack.0 else 0) acks;
  no_ack = λ none. ap (λ b. if b then seg.head.ack.0 else 0) none;
  flags = keeps_flags seg.head.flags;
  window = told-greatest (counted seg.head.window (shifts_between syn opened).server_gives) (shifts_between syn opened).client_reads;
  options = λ first. passes syn opened first first seg.head.options seg.head.options.sack (λ fits. same_blocks first seg.head.options.sack) refl;
  body = refl;
}

pub keeps_position : KeepsPosition
keeps_position from to p = omega arith

pub acknowledges_same_position : AcknowledgesSamePosition
acknowledges_same_position setup seg forged syn opened p acks at =
    let number = open_number opened in
    (to_server_numbers setup seg forged syn opened).ack acks ∙ ap (moved forged number) at ∙ keeps_position forged number p

pub stands_at_same_position : StandsAtSamePosition
stands_at_same_position setup seg forged syn opened flow p at =
    let number = open_number opened in
    (to_client_numbers setup seg forged syn opened flow).seq ∙ ap (moved number forged) at ∙ keeps_position number forged p
