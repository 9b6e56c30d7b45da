-- An end that takes a part of its peer's stream has received a prefix of it.
use Rattle.std.proofs.Common.{◌≡◌, ◌≤◌, ◌<◌, ◌^◌, ℕ, ◌+◌, ◌-◌, ◌&&◌, not, Bool, true, false, nat_le, cond, List, ◌++◌, length, take, drop, Option, Some, None, refl, sym, ap, subst, ◌∙◌, inl, inr, arith}
use Rattle.std.proofs.Math.Seq.{take-add, take-length}
use Rattle.std.proofs.lemmas.Bool.{leb-true}
use Rattle.std.proofs.lemmas.List.{drop-take, drop-drop, length-append, length-drop}
use Rattle.seq_space.specs.declared.Num.{Num}
use Rattle.tcp_segment.specs.declared.segment.Head.{Head}
use Rattle.tcp_segment.specs.Flags.{has_fin, has_syn, has_rst}
use Rattle.tcp_end.specs.declared.sent.Sent.{Sent}
use Rattle.tcp_end.specs.Sending.{MaySend, MaySendTo}
use Rattle.tcp_end.specs.NearPosition.{near_of}
use Rattle.tcp_end.specs.EndState.{EndState, expected, dead_end}
use Rattle.tcp_end.specs.Taking.{answers_syn, acked_after, covers, new_bytes_at, received_with, taken_by, taken, stream_taken}
use Rattle.tcp_end.specs.Streams.{IsSliceAt, IsPrefix, ShowsStream, HasReceived}
use Rattle.tcp_end.proofs.Near.{near_of-only}

-- a prefix and the part of a slice that stands behind it are a longer prefix
behind-prefix : (stream received body : List ℕ) (p : ℕ) → IsPrefix received stream → IsSliceAt stream (p - 1) body → 1 ≤ p → p ≤ 1 + length received → 1 + length received ≤ p + length body → received ++ drop (1 + length received - p) body ≡ take (p - 1 + length body) stream
behind-prefix stream received body p prefix slice one low high =
    let r = length received in
    let k = 1 + r - p in
    let more = length body - k in
    let place : p - 1 + k ≡ r = omega arith in
    let whole : length body ≡ k + more = omega arith in
    let part : drop k body ≡ take more (drop r stream) =
    ap (drop k) (slice ∙ ap (λ (n : ℕ). take n (drop (p - 1) stream)) whole)
    ∙ drop-take k more (drop (p - 1) stream)
    ∙ ap (take more) (drop-drop k (p - 1) stream)
    ∙ ap (λ (n : ℕ). take more (drop n stream)) place in
    ap (λ (x : List ℕ). x ++ drop k body) prefix
    ∙ ap (λ (x : List ℕ). take r stream ++ x) part
    ∙ sym (take-add r more stream)
    ∙ ap (λ (n : ℕ). take n stream) (omega arith)

tests : (s x y : Bool) → (not s && x && y) ≡ true → (s ≡ false) × (x ≡ true) × (y ≡ true)
tests true x y e = absurd (cc)
tests false true true e = (refl, refl, refl)
tests false true false e = absurd (cc)
tests false false y e = absurd (cc)

received-at : (stream : List ℕ) (closed : Bool) (e : EndState) (peer : Num) (head : Head) (body : List ℕ) (p acked : ℕ) (b : Bool) → covers e p body ≡ b
    → ShowsStream peer stream closed p head.seq head.flags body → HasReceived stream closed e
    → HasReceived stream closed (record (received_with (cond b (Some (drop (expected e - p) body)) None) (has_fin head.flags) e) { acked = acked })
received-at stream closed e peer head body p acked false is shows had = record { bytes = had.bytes; close = had.close }
received-at stream closed e peer head body p acked true is shows had =
    let test = tests e.saw_close (nat_le p (expected e)) (nat_le (expected e) (p + length body)) is in
    let next : expected e ≡ 1 + length e.received = ap (λ (s : Bool). length e.received + cond s 2 1) test.0 ∙ omega arith in
    let low = leb-true p (expected e) test.1 in
    let high = leb-true (expected e) (p + length body) test.2 in
    let whole : e.received ++ drop (expected e - p) body ≡ take (p - 1 + length body) stream =
    ap (λ (n : ℕ). e.received ++ drop (n - p) body) next
    ∙ behind-prefix stream e.received body p had.bytes shows.bytes shows.behind_syn (omega (arith, low, next)) (omega (arith, high, next)) in
    let long : length (e.received ++ drop (expected e - p) body) ≡ p - 1 + length body =
    omega (arith, length-append e.received (drop (expected e - p) body), length-drop (expected e - p) body, low, high, next, shows.behind_syn) in
    record {
      bytes = whole ∙ ap (λ (n : ℕ). take n stream) (sym long);
      close = λ fin. ((shows.fin fin).0, whole ∙ ap (λ (n : ℕ). take n stream) (shows.fin fin).1 ∙ take-length stream);
    }

either : (P : EndState → Type 0) (b : Bool) (x y : EndState) → P x → P y → P (cond b x y)
either P true x y px py = px
either P false x y px py = py

pub taken-prefix : (e : EndState) (peer : Num) (head : Head) (body : List ℕ) (stream : List ℕ) (closed : Bool) (position : ℕ)
    → e.peer ≡ Some peer → ShowsStream peer stream closed position head.seq head.flags body
    → position < expected e + 2 ^ 31 → expected e < position + 2 ^ 31
    → HasReceived stream closed e → HasReceived stream closed (taken e head body)
taken-prefix e peer head body stream closed position is shows below above had =
    let P : EndState → Type 0 = HasReceived stream closed in
    let near : near_of head.seq.0 peer.0 (expected e) ≡ Some position =
    near_of-only head.seq.0 peer.0 (expected e) position (record { numbered = sym (ap (λ (n : Num). n.0) shows.numbered); below = below; above = above }) in
    let at : Option ℕ → EndState = λ o. record (received_with (new_bytes_at o e body) (has_fin head.flags) e) { acked = acked_after e head } in
    let main : P (stream_taken e peer head body) =
    subst (λ (o : Option ℕ). P (at o)) (sym near) (received-at stream closed e peer head body position (acked_after e head) (covers e position body) refl shows had) in
    let dead : P (dead_end e) = record { bytes = had.bytes; close = had.close } in
    either P e.dead e (cond (has_rst head.flags) (dead_end e) (taken_by e.peer e head body)) had
    (either P (has_rst head.flags) (dead_end e) (taken_by e.peer e head body) dead
    (subst (λ (o : Option Num). P (taken_by o e head body)) (sym is) (either P (has_syn head.flags) e (stream_taken e peer head body) had main)))

-- the same received bytes, and no close that was not seen
kept : (e : EndState) (stream : List ℕ) (closed : Bool) (dead : Bool) (acked : ℕ) (peer : Option Num) → HasReceived stream closed e → HasReceived stream closed (record e { dead = dead; acked = acked; peer = peer })
kept e stream closed dead acked peer had = record { bytes = had.bytes; close = had.close }

syn-taken : (e : EndState) (head : Head) (body : List ℕ) (stream : List ℕ) (closed : Bool) (peer : Option Num) (syn : Bool) → has_syn head.flags ≡ syn → syn ≡ true → HasReceived stream closed e → HasReceived stream closed (taken_by peer e head body)
syn-taken e head body stream closed None syn is set had =
    either (HasReceived stream closed) (answers_syn e head) (record e { peer = Some head.seq; acked = 1 }) e (kept e stream closed e.dead 1 (Some head.seq) had) had
syn-taken e head body stream closed (Some peer) syn is set had =
    subst (λ (b : Bool). HasReceived stream closed (cond b e (stream_taken e peer head body))) (sym (is ∙ set)) had

pub taken-syn : (e : EndState) (head : Head) (body : List ℕ) (stream : List ℕ) (closed : Bool) → has_syn head.flags ≡ true → HasReceived stream closed e → HasReceived stream closed (taken e head body)
taken-syn e head body stream closed syn had =
    let P : EndState → Type 0 = HasReceived stream closed in
    let by = taken_by e.peer e head body in
    either P e.dead e (cond (has_rst head.flags) (dead_end e) by) had
    (either P (has_rst head.flags) (dead_end e) by (kept e stream closed true e.acked e.peer had) (syn-taken e head body stream closed e.peer (has_syn head.flags) refl syn had))

-- by what the sender knows of its peer
sent-taken : (one other : EndState) (s : Sent) (head : Head) (to : Option Num) → MaySendTo to one s → head.seq ≡ s.seq → head.flags ≡ s.flags → other.peer ≡ Some one.first
    → s.position < expected other + 2 ^ 31 → expected other < s.position + 2 ^ 31
    → HasReceived one.written one.closed other → HasReceived one.written one.closed (taken other head s.body)
sent-taken one other s head None sent seq flags peer below above had = taken-syn other head s.body one.written one.closed (ap has_syn flags ∙ sent.syn) had
sent-taken one other s head (Some to) sent seq flags peer below above had =
    elim sent [
      | inl syn_ack ↦ taken-syn other head s.body one.written one.closed (ap has_syn flags ∙ syn_ack.syn) had
      | inr stream ↦
          let shown = stream.stream in
          let shows : ShowsStream one.first one.written one.closed s.position head.seq head.flags s.body =
          record { behind_syn = shown.behind_syn; numbered = seq ∙ shown.numbered; bytes = shown.bytes; fin = λ fin. shown.fin (sym (ap has_fin flags) ∙ fin) } in
          taken-prefix other one.first head s.body one.written one.closed s.position peer shows below above had
    ]

pub agree : (one other : EndState) (s : Sent) (head : Head) → MaySend one s → head.seq ≡ s.seq → head.flags ≡ s.flags → other.peer ≡ Some one.first
    → s.position < expected other + 2 ^ 31 → expected other < s.position + 2 ^ 31
    → HasReceived one.written one.closed other → HasReceived one.written one.closed (taken other head s.body)
agree one other s head sent = sent-taken one other s head one.peer sent.sends
