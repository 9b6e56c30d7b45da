-- A segment that a packet holds, with other fields of a change, is what its rewritten headers give.
use Rattle.std.proofs.Common.{◌≡◌, ℕ, ◌%◌, false, List, length, sym, ap, subst, ◌∙◌}
use Rattle.tcp_segment.specs.Flags.{has_syn}
use Rattle.tcp_segment.specs.Segments.{IsView, flags_of}
use Rattle.tcp_segment.specs.declared.options.Options.{Options}
use Rattle.tcp_segment.specs.declared.segment.Segment.{Segment}
use Rattle.tcp_segment.specs.declared.segment.View.{View}
use Rattle.ipv4.specs.declared.packet.Packet.{Packet}
use Rattle.inplace.specs.declared.writing.Parts.{Parts}
use Rattle.inplace.specs.Packets.{HoldsSegment, AreParts, IsChanged}
use Rattle.inplace.specs.Rewriting.{IsFitting, change_of, changed}
use Rattle.inplace.proofs.Fronts.{read-fits}

five : (make : ℕ → ℕ → ℕ → Options → List ℕ → Segment) (a b c : ℕ) (o : Options) (l : List ℕ) (p q r : ℕ) (n : Options) (m : List ℕ)
    → a ≡ p → b ≡ q → c ≡ r → o ≡ n → l ≡ m → make a b c o l ≡ make p q r n m
five make a b c o l p q r n m e1 e2 e3 e4 e5 = cc

-- the segment is the one that this view shows in these bytes, with fields of its own
changed-is : (source target : ℕ) (bytes body : List ℕ) (view : View) (s : Segment) → IsView source target bytes view → IsChanged bytes body s → s ≡ changed (change_of s) view body
changed-is source target bytes body view s is c =
    five (λ ack flags urgent options bytes'. record {
      source = s.source;
      target = s.target;
      head = record { source_port = s.head.source_port; target_port = s.head.target_port; seq = s.head.seq; ack = record { 0 = ack }; flags = flags; window = s.head.window; urgent = urgent; options = options };
      body = bytes';
    }) s.head.ack.0 s.head.flags s.head.urgent s.head.options s.body _ _ _ _ _
    (c.ack ∙ ap (λ (f : ℕ). (changed (change_of s) (record view { head = record view.head { flags = f } }) body).head.ack.0) (sym is.flags))
    (c.flags ∙ ap (λ (f : ℕ). f % 64) (sym is.flags))
    (c.urgent ∙ sym is.urgent)
    c.options
    c.same

fits-same : (heads body these those : List ℕ) (n : ℕ) (packet : Packet) (view : View) → these ≡ heads → those ≡ body → IsFitting heads n body packet view → IsFitting these (length those) those packet view
fits-same heads body these those n packet view e f fits =
    subst (λ (h : List ℕ). IsFitting h (length those) those packet view) (sym e)
    (subst (λ (b : List ℕ). IsFitting heads (length b) b packet view) (sym f)
    (subst (λ (m : ℕ). IsFitting heads m body packet view) (sym fits.size) fits))

module _ (bytes : List ℕ) (h : HoldsSegment bytes) (parts : Parts) (s : Segment) (are : AreParts bytes h.packet h.view parts) (is : IsChanged parts.segment.now parts.body.now s) where
  -- its headers and its data fit
  pub parts-fit : IsFitting parts.heads.now (length parts.body.now) parts.body.now h.packet h.view
  parts-fit =
      let no-syn : has_syn h.view.head.flags ≡ false = ap has_syn (h.is_view.flags ∙ ap flags_of (sym are.segment)) ∙ is.no_syn in
      fits-same _ _ parts.heads.now parts.body.now _ h.packet h.view are.heads are.body (read-fits bytes h.packet h.view h.is_packet h.is_view no-syn)

  -- .. and make it
  pub parts-make : s ≡ changed (change_of s) h.view parts.body.now
  parts-make = changed-is h.packet.source h.packet.target parts.segment.now parts.body.now h.view s (subst (λ (b : List ℕ). IsView h.packet.source h.packet.target b h.view) (sym are.segment) h.is_view) is
