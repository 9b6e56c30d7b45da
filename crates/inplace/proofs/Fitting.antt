-- What fitting data tells about the headers before it, and what the rewritten headers are with it.
use Rattle.std.proofs.Common.{◌≡◌, ◌≤◌, ℕ, ◌+◌, ◌-◌, ◌*◌, ◌%◌, if◌then◌else◌, List, [], ◌∷◌, ◌++◌, length, take, drop, sum, refl, sym, ap, subst, ◌∙◌, append_assoc, arith}
use Rattle.std.specs.Prelude.{slice_index, slice_range}
use Rattle.std.proofs.lemmas.List.{length-append, length-take, length-drop, drop-append-le, take-append-le, take_all}
use Rattle.std.proofs.Math.ListN.{get_or-append}
use Rattle.byteorder.specs.Endian.{big_number}
use Rattle.common.specs.Fields.{field}
use Rattle.ipv4.specs.declared.packet.Packet.{Packet}
use Rattle.ipv4.specs.Checksum.{words, ones, checksum, blanked}
use Rattle.ipv4.specs.Packet.{header_words}
use Rattle.ipv4.specs.Written.{header}
use Rattle.ipv4.proofs.Ones.{sum-words-append}
use Rattle.tcp_segment.specs.Flags.{has_ack}
use Rattle.tcp_segment.specs.Segments.{IsView, pseudo_header, offset_words}
use Rattle.tcp_segment.specs.Written.{mss_bytes, permitted_bytes, scale_bytes, sack_bytes, head_with, sum_of, packet_bytes}
use Rattle.tcp_segment.specs.declared.segment.Head.{Head}
use Rattle.tcp_segment.specs.declared.segment.View.{View}
use Rattle.tcp_segment.specs.declared.segment.Segment.{Segment}
use Rattle.tcp_segment.proofs.Sums.{length-head, length-pseudo}
use Rattle.inplace.specs.declared.change.Change.{Change}
use Rattle.inplace.specs.Headers.{AreHeaders, behind_packet, carried_on, head_after, headers_after, sum_after, sum_before}
use Rattle.inplace.specs.Rewriting.{IsFitting, changed}
use Rattle.inplace.proofs.CarriedSums.{carries-on, sum-blanked}

-- ---- numbers at the front

number-append2 : (xs ys : List ℕ) → 2 ≤ length xs → big_number 2 (xs ++ ys) ≡ big_number 2 xs
number-append2 [] ys long = absurd (omega (arith, long))
number-append2 (a ∷ []) ys long = absurd (omega (arith, long))
number-append2 (a ∷ b ∷ xs) ys long = refl

number-append4 : (xs ys : List ℕ) → 4 ≤ length xs → big_number 4 (xs ++ ys) ≡ big_number 4 xs
number-append4 [] ys long = absurd (omega (arith, long))
number-append4 (a ∷ []) ys long = absurd (omega (arith, long))
number-append4 (a ∷ b ∷ []) ys long = absurd (omega (arith, long))
number-append4 (a ∷ b ∷ c ∷ []) ys long = absurd (omega (arith, long))
number-append4 (a ∷ b ∷ c ∷ d ∷ xs) ys long = refl

pub field-append2 : (i : ℕ) (xs ys : List ℕ) → i + 2 ≤ length xs → field i 2 (xs ++ ys) ≡ field i 2 xs
field-append2 i xs ys long =
    ap (big_number 2) (drop-append-le i xs ys (omega (arith, long)))
    ∙ number-append2 (drop i xs) ys (omega (arith, long, length-drop i xs))

pub field-append4 : (i : ℕ) (xs ys : List ℕ) → i + 4 ≤ length xs → field i 4 (xs ++ ys) ≡ field i 4 xs
field-append4 i xs ys long =
    ap (big_number 4) (drop-append-le i xs ys (omega (arith, long)))
    ∙ number-append4 (drop i xs) ys (omega (arith, long, length-drop i xs))

-- the protocol is summed
some-pseudo : (source target n : ℕ) → 1 ≤ sum (words (pseudo_header source target n))
unfolding pseudo_header
some-pseudo source target n = omega arith

-- ---- the headers

module _ (head : List ℕ) (n : ℕ) (body : List ℕ) (packet : Packet) (view : View) (fits : IsFitting head n body packet view) where
  -- the headers are long enough
  long : 40 ≤ length head
  long = omega (arith, fits.begins, fits.is_packet.start, fits.is_packet.words, fits.is_view.start, fits.is_view.words)

  first-byte : slice_index (head ++ body) 0 ≡ slice_index head 0
  first-byte = get_or-append head body 0 0 (omega (arith, long))

  same-words : header_words (head ++ body) ≡ header_words head
  same-words = ap (λ (b : ℕ). b % 16) first-byte

  starts : packet.start ≡ 4 * header_words head
  starts = fits.is_packet.start ∙ ap (λ (w : ℕ). 4 * w) same-words

  total : field 2 2 head ≡ length head + n
  total = sym (field-append2 2 head body (omega (arith, long))) ∙ sym fits.is_packet.stop ∙ fits.ends ∙ length-append head body ∙ ap (λ (m : ℕ). length head + m) fits.size

  pub are-headers : field 2 2 head ≤ 65535 → AreHeaders head n
  are-headers short = record {
    words = omega (arith, same-words, fits.is_packet.words);
    long = omega (arith, starts, fits.begins, fits.is_view.start, fits.is_view.words);
    size = omega (arith, total, short);
  }

  -- ---- the segment

  abbrev tcp : List ℕ
  tcp = behind_packet head

  length-tcp : length tcp ≡ view.data_at
  length-tcp = length-drop (4 * header_words head) head ∙ omega (arith, starts, fits.begins)

  twenty : 20 ≤ length tcp
  twenty = omega (arith, length-tcp, fits.is_view.start, fits.is_view.words)

  segment-is : slice_range (head ++ body) packet.start packet.end ≡ tcp ++ body
  segment-is =
      let at : drop packet.start (head ++ body) ≡ tcp ++ body =
      ap (λ (s : ℕ). drop s (head ++ body)) starts ∙ drop-append-le (4 * header_words head) head body (omega (arith, starts, fits.begins)) in
      ap (take (packet.end - packet.start)) at
      ∙ take_all (packet.end - packet.start) (tcp ++ body) (omega (arith, fits.ends, fits.begins, length-tcp, length-append head body, length-append tcp body))

  is-view : IsView packet.source packet.target (tcp ++ body) view
  is-view = subst (λ (bytes : List ℕ). IsView packet.source packet.target bytes view) segment-is fits.is_view

  flags-are : view.head.flags ≡ slice_index tcp 13
  flags-are = is-view.flags ∙ get_or-append tcp body 0 13 (omega (arith, twenty))

  urgent-is : view.head.urgent ≡ field 18 2 tcp
  urgent-is = is-view.urgent ∙ field-append2 18 tcp body (omega (arith, twenty))

  source-is : packet.source ≡ field 12 4 head
  source-is = fits.is_packet.source ∙ field-append4 12 head body (omega (arith, long))

  target-is : packet.target ≡ field 16 4 head
  target-is = fits.is_packet.target ∙ field-append4 16 head body (omega (arith, long))

  blanked-is : blanked 16 (tcp ++ body) ≡ blanked 16 tcp ++ body
  blanked-is =
      ap (λ (front : List ℕ). front ++ 0 ∷ 0 ∷ drop 18 (tcp ++ body)) (take-append-le 16 tcp body (omega (arith, twenty)))
      ∙ ap (λ (back : List ℕ). take 16 tcp ++ 0 ∷ 0 ∷ back) (drop-append-le 18 tcp body (omega (arith, twenty)))
      ∙ sym (append_assoc (take 16 tcp) (0 ∷ 0 ∷ drop 18 tcp) body)

  length-blanked : length (blanked 16 tcp) ≡ 4 * offset_words (tcp ++ body)
  length-blanked = omega (arith, length-append (take 16 tcp) (0 ∷ 0 ∷ drop 18 tcp), length-take 16 tcp, length-drop 18 tcp, twenty, length-tcp, is-view.start)

  -- the checksum that was there, by its parts
  kept-is : field 16 2 tcp ≡ 65535 - ones (sum (words (pseudo_header packet.source packet.target (length tcp + n))) + sum (words (blanked 16 tcp)) + sum (words body))
  kept-is =
      let pseudo = pseudo_header packet.source packet.target (length tcp + n) in
      let size : length (tcp ++ body) ≡ length tcp + n = length-append tcp body ∙ ap (λ (m : ℕ). length tcp + m) fits.size in
      let parts = sum-words-append 6 pseudo (blanked 16 tcp ++ body) (length-pseudo packet.source packet.target (length tcp + n)) in
      let behind = sum-words-append (2 * offset_words (tcp ++ body)) (blanked 16 tcp) body (omega (arith, length-blanked)) in
      sym (field-append2 16 tcp body (omega (arith, twenty)))
      ∙ is-view.summed
      ∙ ap (λ (m : ℕ). checksum (pseudo_header packet.source packet.target m ++ blanked 16 (tcp ++ body))) size
      ∙ ap (λ (bytes : List ℕ). checksum (pseudo ++ bytes)) blanked-is
      ∙ ap (λ (m : ℕ). 65535 - ones m) (omega (arith, parts, behind))

  -- the sum of the words that go
  before-is : sum_before head n ≡ ones (sum (words (pseudo_header packet.source packet.target (length tcp + n))) + (sum (words (blanked 16 tcp)) + field 16 2 tcp))
  before-is =
      ap (λ (m : ℕ). ones (sum (words (pseudo_header m (field 16 4 head) (length tcp + n))) + sum (words tcp))) (sym source-is)
      ∙ ap (λ (m : ℕ). ones (sum (words (pseudo_header packet.source m (length tcp + n))) + sum (words tcp))) (sym target-is)
      ∙ ap (λ (m : ℕ). ones (sum (words (pseudo_header packet.source packet.target (length tcp + n))) + m)) (sum-blanked 16 tcp (omega arith) (omega (arith, twenty)))

  -- ---- the new segment

  module _ (change : Change) where
    abbrev new : Segment
    new = changed change view body

    head-is : head_after change head ≡ new.head
    head-is =
        ap (λ (f : ℕ). record new.head { ack = record { 0 = if has_ack f then change.ack.0 else 0 }; flags = f % 64; urgent = field 18 2 tcp }) (sym flags-are)
        ∙ ap (λ (u : ℕ). record new.head { urgent = u }) (sym urgent-is)

    -- its checksum
    sum-is : carried_on (sum_before head n) (sum_after change (head_after change head) n) ≡ sum_of change.source change.target new.head body
    unfolding mss_bytes permitted_bytes scale_bytes sack_bytes
    sum-is =
        let pseudo = pseudo_header packet.source packet.target (length tcp + n) in
        let pseudo2 = pseudo_header change.source change.target (20 + n) in
        let h2 = head_with new.head 5 0 in
        let parts = sum-words-append 6 pseudo2 (h2 ++ body) (length-pseudo change.source change.target (20 + n)) in
        let behind = sum-words-append 10 h2 body (length-head new.head 5 0) in
        ap (λ (o : ℕ). carried_on o (sum_after change (head_after change head) n)) before-is
        ∙ ap (λ (k : ℕ). carried_on (ones (sum (words pseudo) + (sum (words (blanked 16 tcp)) + k))) (sum_after change (head_after change head) n)) kept-is
        ∙ ap (λ (h : Head). carried_on (ones (sum (words pseudo) + (sum (words (blanked 16 tcp)) + (65535 - ones (sum (words pseudo) + sum (words (blanked 16 tcp)) + sum (words body)))))) (sum_after change h n)) head-is
        ∙ carries-on (sum (words pseudo)) (sum (words (blanked 16 tcp))) (sum (words body)) (sum (words pseudo2)) (sum (words h2)) (some-pseudo packet.source packet.target (length tcp + n)) (some-pseudo change.source change.target (20 + n))
        ∙ ap (λ (m : ℕ). 65535 - ones m) (omega (arith, parts, behind))
        ∙ ap (λ (m : ℕ). checksum (pseudo_header change.source change.target (20 + m) ++ (h2 ++ body))) (sym fits.size)

    pub rewritten-is : headers_after change head n ++ body ≡ packet_bytes new
    unfolding mss_bytes permitted_bytes scale_bytes sack_bytes
    rewritten-is =
        let sum2 = sum_of change.source change.target new.head body in
        let size : 40 + n ≡ 20 + length (head_with new.head 5 sum2 ++ body) = omega (arith, length-append (head_with new.head 5 sum2) body, length-head new.head 5 sum2, fits.size) in
        append_assoc (header change.source change.target (40 + n)) (head_with (head_after change head) 5 (carried_on (sum_before head n) (sum_after change (head_after change head) n))) body
        ∙ ap (λ (s : ℕ). header change.source change.target (40 + n) ++ (head_with (head_after change head) 5 s ++ body)) sum-is
        ∙ ap (λ (h : Head). header change.source change.target (40 + n) ++ (head_with h 5 sum2 ++ body)) head-is
        ∙ ap (λ (m : ℕ). header change.source change.target m ++ (head_with new.head 5 sum2 ++ body)) size
