-- A stream grows: what was a part of it is one, and what was received of it is a prefix.
use Rattle.std.proofs.Common.{◌≡◌, ℕ, ◌-◌, Bool, true, min, List, [], ◌∷◌, ◌++◌, length, take, drop, refl, sym, ◌∙◌, ap, subst, arith, inl, inr}
use Rattle.std.specs.Prelude.{◌⊎◌}
use Rattle.std.proofs.lemmas.Bool.{cases_lt}
use Rattle.std.proofs.lemmas.List.{append-nil, take-append-le, drop-append-le, length-take, length-drop}
use Rattle.seq_space.specs.declared.Num.{Num}
use Rattle.tcp_end.specs.EndState.{EndState}
use Rattle.tcp_end.specs.Streams.{IsSliceAt, IsPrefix, ShowsStream, HasReceived}
use Rattle.world_model.proofs.Invariant.{Leg, IsPartOf, AcksBack, IsSynOf, Carries}
use Rattle.world_model.proofs.Invariant.Carries.{resets, opens, shows}
use Rattle.world_model.specs.Posted.{Posted}

pub either : {A B C D : Type 0} → (A → C) → (B → D) → A ⊎ B → C ⊎ D
either f g (inl a) = inl (f a)
either f g (inr b) = inr (g b)

-- bytes may come, until it is closed
pub record StreamGrows (stream : List ℕ) (closed : Bool) (stream' : List ℕ) (closed' : Bool) : Type 0 where
  pub more : List ℕ
  pub is : stream' ≡ stream ++ more
  pub over : closed ≡ true → (closed' ≡ true) × (stream' ≡ stream)

pub same_stream : (stream : List ℕ) (closed : Bool) → StreamGrows stream closed stream closed
same_stream stream closed = record { more = []; is = sym (append-nil stream); over = λ c. (c, refl) }

pub slice_grows : (stream more : List ℕ) (o : ℕ) (bytes : List ℕ) → IsSliceAt stream o bytes → IsSliceAt (stream ++ more) o bytes
slice_grows stream more o bytes is =
    let count : length bytes ≡ min (length bytes) (length stream - o) = ap length is ∙ length-take (length bytes) (drop o stream) ∙ ap (min (length bytes)) (length-drop o stream) in
    elim (cases_lt (length stream) o) [
      | inl past ↦
          let none : length bytes ≡ 0 = omega arith in
          empty bytes none o
      | inr within ↦
          is ∙ sym (take-append-le (length bytes) (drop o stream) more (omega (arith, length-drop o stream)))
          ∙ ap (take (length bytes)) (sym (drop-append-le o stream more within))
    ]
  where
    empty : (bytes : List ℕ) → length bytes ≡ 0 → (o : ℕ) → IsSliceAt (stream ++ more) o bytes
    empty [] none o = refl
    empty (b ∷ bytes) none o = absurd (omega arith)

pub prefix_grows : (stream more bytes : List ℕ) → IsPrefix bytes stream → IsPrefix bytes (stream ++ more)
prefix_grows stream more bytes is = slice_grows stream more 0 bytes is

module _ (stream stream' : List ℕ) (closed closed' : Bool) (grows : StreamGrows stream closed stream' closed') where
  pub shows_grows : (first : Num) (p : ℕ) (seq : Num) (flags : ℕ) (body : List ℕ) → ShowsStream first stream closed p seq flags body → ShowsStream first stream' closed' p seq flags body
  shows_grows first p seq flags body s = record {
    behind_syn = s.behind_syn;
    numbered = s.numbered;
    bytes = subst (λ x. IsSliceAt x (p - 1) body) (sym grows.is) (slice_grows stream grows.more (p - 1) body s.bytes);
    fin = λ f. let was = s.fin f in let now = grows.over was.0 in (now.0, was.1 ∙ ap length (sym now.1));
  }

  pub has_grows : (e : EndState) → HasReceived stream closed e → HasReceived stream' closed' e
  has_grows e h = record {
    bytes = subst (λ x. IsPrefix e.received x) (sym grows.is) (prefix_grows stream grows.more e.received h.bytes);
    close = λ saw. let was = h.close saw in let now = grows.over was.0 in (now.0, was.1 ∙ sym now.1);
  }

  pub held_grows : (bytes : List ℕ) → IsPrefix bytes stream → IsPrefix bytes stream'
  held_grows bytes is = subst (λ x. IsPrefix bytes x) (sym grows.is) (prefix_grows stream grows.more bytes is)

-- the same first numbers, and a stream that has grown
pub record LegGrows (leg leg' : Leg) : Type 0 where
  pub first : leg'.first ≡ leg.first
  pub back : leg'.back ≡ leg.back
  pub stream : StreamGrows leg.stream leg.closed leg'.stream leg'.closed

module _ (leg leg' : Leg) (x : Posted) (grows : LegGrows leg leg') where
  pub part_grows : IsPartOf leg x → IsPartOf leg' x
  part_grows p = record {
    at = p.at;
    position = p.position;
    shows = subst (λ n. ShowsStream n leg'.stream leg'.closed p.at x.segment.head.seq x.segment.head.flags x.segment.body) (sym grows.first)
        (shows_grows leg.stream leg'.stream leg.closed leg'.closed grows.stream leg.first p.at x.segment.head.seq x.segment.head.flags x.segment.body p.shows);
    no_syn = p.no_syn;
    no_rst = p.no_rst;
  }

  pub acks_grow : AcksBack leg x → AcksBack leg' x
  acks_grow a = record {
    position = a.position;
    acknowledges = a.acknowledges;
    ack = a.ack;
    number = a.number ∙ ap (λ (n : Num). record { 0 = Rattle.seq_space.specs.Positions.number_of n.0 a.position }) (sym grows.back);
  }

  pub syn_grows : IsSynOf leg x → IsSynOf leg' x
  syn_grows s = record { position = s.position; seq = s.seq ∙ sym grows.first; syn = s.syn; no_rst = s.no_rst; no_fin = s.no_fin; body = s.body }

  pub carries_grow : Carries leg x → Carries leg' x
  carries_grow (resets r) = resets r
  carries_grow (opens s (inl none)) = opens (syn_grows s) (inl none)
  carries_grow (opens s (inr a)) = opens (syn_grows s) (inr (acks_grow a))
  carries_grow (shows p a) = shows (part_grows p) (acks_grow a)
