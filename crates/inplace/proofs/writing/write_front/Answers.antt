use Rattle.std.proofs.Common.{◌≡◌, ◌++◌, List, ℕ, sym, ap, ◌∙◌}
use Rattle.tcp_segment.specs.Written.{packet_bytes}
use Rattle.inplace.specs.declared.change.Change.{Change}
use Rattle.inplace.specs.Rewriting.{changed}
use Rattle.inplace.proofs.Changed.{parts-fit, parts-make}
use Rattle.inplace.proofs.writing.write_front.Goals as goal

pub write_headers-requires-clause-fits : goal.write_headers-requires-clause-fits
write_headers-requires-clause-fits c =
    let h = c.requires.packet in
    let parts = c.parts_of-parts.result in
    let are = c.parts_of-parts.ensures.parts h.packet h.view h.is_packet h.is_view in
    let is = c.is_changed.ensures c.if-is_changed.true in record {
      body = parts.body.now;
      packet = h.packet;
      view = h.view;
      fits = parts-fit c.args.packet.now h parts c.args.segment.now are is;
    }

pub returns-in_ok-write_headers-clause-ok : goal.returns-in_ok-write_headers-clause-ok
returns-in_ok-write_headers-clause-ok c =
    let h = c.requires.packet in
    let s = c.args.segment.now in
    let parts = c.parts_of-parts.result in
    let place = c.parts_of-parts.ensures.place in
    let are = c.parts_of-parts.ensures.parts h.packet h.view h.is_packet h.is_view in
    let is = c.is_changed.ensures c.if-is_changed.true in
    let same : changed c.of.result h.view parts.body.now ≡ s = ap (λ (change : Change). changed change h.view parts.body.now) c.of.ensures ∙ sym (parts-make c.args.packet.now h parts s are is) in
    let front = c.in_ok-write_headers.ensures.ok parts.body.now h.packet h.view (parts-fit c.args.packet.now h parts s are is) in record {
      front = front.front;
      written = front.written;
      whole = ap (λ (b : List ℕ). front.front ++ b) place.is ∙ front.whole ∙ ap packet_bytes same;
    }
