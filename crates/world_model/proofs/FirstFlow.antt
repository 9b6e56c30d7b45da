-- The first flow may happen, and leads where it says: its tests are computed, and say what they test.
use Rattle.std.proofs.Common.{◌≡◌, ℕ, zero, suc, ◌+◌, ◌-◌, ◌<◌, ◌^◌, Bool, true, false, ◌&&◌, ◌==◌, not, Option, Some, None, List, [], ◌∷◌, length, take, drop, refl, sym, ◌∙◌, ap, subst, arith, inl, inr, true≢false}
use Rattle.std.specs.Prelude.{codes, nat_lt, nat_le, AllPairs, ◌≢◌, slice_get, is_some, if◌then◌else◌}
use Rattle.std.specs.Str.{is_utf8, chars}
use lib.Utf8.{encode}
use Rattle.std.proofs.lemmas.Bool.{ltb-true, leb-true, eqb-true, and_parts}
use Rattle.std.proofs.lemmas.List.Elements.{All-nil, All-cons}
use Rattle.std.proofs.lemmas.List.Kept.{AllPairs-cons}
use Rattle.std.proofs.lemmas.Option.{none-some, same_Some}
use Rattle.sha2.specs.Sha256.{sha256, schedule, rounds, first_words, compress, hash_after, digest_bytes}
use Rattle.bench.specs.Bench.{settle}
use Rattle.bench.specs.Histories.{settle_moves}
use Rattle.bench.specs.declared.call.Call.TheVariants.{Take, Step, Crash, Fail}
use Rattle.bench.specs.declared.call.Call.{Call}
use Rattle.client_hand.specs.SynAck.{syn_ack_segment}
use Rattle.flow_close.specs.Closing.{reset_back, turned_segment}
use Rattle.http_head.specs.Reading.{reading}
use Rattle.httparse.specs.Grammar.{is_token_byte, trim_ows}
use Rattle.job_core.specs.Aims.{aimed}
use Rattle.job_core.specs.Table.{next_move}
use Rattle.rule_table.specs.Matching.{place_of, matched_in, admits_in}
use Rattle.rule_table.specs.Setups.{IsSetup, IsRule}
use Rattle.rule_table.specs.declared.types.Rule.{Rule}
use Rattle.rule_table.specs.declared.types.Server.{Server as ServerAt}
use Rattle.seq_space.specs.Positions.{number_of}
use Rattle.seq_space.specs.declared.Num.{Num}
use Rattle.server_hand.specs.Choosing.{choice_of}
use Rattle.server_hand.specs.Opening.{server_syn_segment, opening_ack, piece_segment, opening_segments}
use Rattle.tcp_end.specs.EndState.{EndState, expected}
use Rattle.tcp_end.specs.NearPosition.{near_of}
use Rattle.tcp_end.specs.Sending.{MaySend, MaySendTo, IsSynSent, IsSynAckSent, IsStreamSent, span}
use Rattle.tcp_end.specs.declared.sent.Sent.{Sent as Part}
use Rattle.tcp_segment.specs.Flags.{has_fin, has_syn, has_rst, has_ack}
use Rattle.translate.specs.Translation.{to_server_segment, to_client_segment}
use Rattle.weighted_pick.specs.Pick.{picked}
use Rattle.world_model.specs.declared.at.At.TheVariants.{Server}
use Rattle.world_model.specs.declared.client.ClientSpec.{ClientSpec}
use Rattle.world_model.specs.After.{after}
use Rattle.world_model.specs.Clients.{AreClients}
use Rattle.world_model.specs.Enabled.{Enabled, may_open, may_write, is_living, may_take, may_refuse, is_stray, may_handle}
use Rattle.world_model.specs.Events.{WorldEvent, opens, writes, closes, sends, aborts, receives, refuses, strays, takes, calls}
use Rattle.world_model.specs.FirstFlow.{example_setup, example_client, beginning, first_events, ending, here, there, client_done, server_done, first_history, FirstFlow}
use Rattle.world_model.specs.Routes.{client_in}
use Rattle.world_model.specs.Runs.{AreEnabled, AllLive, calls_in}
use Rattle.world_model.specs.World.{World, end_at}
use Rattle.world_model.proofs.Placing.{as_num}

-- ---- what an end may send, tested
abbrev same_bytes : List ℕ → List ℕ → Bool
same_bytes [] [] = true
same_bytes (x ∷ xs) (y ∷ ys) = x == y && same_bytes xs ys
same_bytes [] (y ∷ ys) = false
same_bytes (x ∷ xs) [] = false

same_is : (xs ys : List ℕ) → same_bytes xs ys ≡ true → xs ≡ ys
same_is [] [] e = refl
same_is (x ∷ xs) (y ∷ ys) e = let a = and_parts (x == y) (same_bytes xs ys) e in ap (λ z. z ∷ xs) (eqb-true x y a.0) ∙ ap (λ zs. y ∷ zs) (same_is xs ys a.1)
same_is [] (y ∷ ys) e = absurd (cc)
same_is (x ∷ xs) [] e = absurd (cc)

not_is : (b : Bool) → not b ≡ true → b ≡ false
not_is false e = refl
not_is true e = absurd (cc)

both : {a b : Bool} → (a && b) ≡ true → (a ≡ true) × (b ≡ true)
both {a} {b} e = and_parts a b e

-- a SYN, a SYN-ACK, and a part of the stream
abbrev syn_test : EndState → Part → Bool
syn_test e s = s.position == 0 && s.seq.0 == number_of e.first.0 0 && has_syn s.flags && not (has_ack s.flags) && not (has_rst s.flags) && not (has_fin s.flags) && same_bytes s.body []

syn_is : (e : EndState) (s : Part) → syn_test e s ≡ true → IsSynSent e s
syn_is e s t =
    let a = both t in
    let b = both a.0 in
    let c = both b.0 in
    let d = both c.0 in
    let f = both d.0 in
    let g = both f.0 in
    record {
      position = eqb-true s.position 0 g.0;
      seq = as_num s.seq (number_of e.first.0 0) (eqb-true s.seq.0 (number_of e.first.0 0) g.1);
      syn = f.1;
      no_ack = not_is (has_ack s.flags) d.1;
      no_rst = not_is (has_rst s.flags) c.1;
      no_fin = not_is (has_fin s.flags) b.1;
      body = same_is s.body [] a.1;
    }

abbrev syn_ack_test : Num → EndState → Part → Bool
syn_ack_test peer e s =
    e.acked == 0 && s.position == 0 && s.seq.0 == number_of e.first.0 0 && has_syn s.flags && has_ack s.flags && s.ack.0 == number_of peer.0 (expected e) && not (has_rst s.flags) && not (has_fin s.flags)
    && same_bytes s.body []

syn_ack_is : (peer : Num) (e : EndState) (s : Part) → syn_ack_test peer e s ≡ true → IsSynAckSent peer e s
syn_ack_is peer e s t =
    let a = both t in
    let b = both a.0 in
    let c = both b.0 in
    let d = both c.0 in
    let f = both d.0 in
    let g = both f.0 in
    let h = both g.0 in
    let i = both h.0 in
    record {
      unacknowledged = eqb-true e.acked 0 i.0;
      position = eqb-true s.position 0 i.1;
      seq = as_num s.seq (number_of e.first.0 0) (eqb-true s.seq.0 (number_of e.first.0 0) h.1);
      syn = g.1;
      acks = f.1;
      ack = as_num s.ack (number_of peer.0 (expected e)) (eqb-true s.ack.0 (number_of peer.0 (expected e)) d.1);
      no_rst = not_is (has_rst s.flags) c.1;
      no_fin = not_is (has_fin s.flags) b.1;
      body = same_is s.body [] a.1;
    }

abbrev fin_test : EndState → Part → Bool → Bool
fin_test e s true = e.closed && s.position - 1 + length s.body == length e.written
fin_test e s false = true

fin_is : (e : EndState) (s : Part) (b : Bool) → fin_test e s b ≡ true → b ≡ true → (e.closed ≡ true) × (s.position - 1 + length s.body ≡ length e.written)
fin_is e s true t fin = let a = both t in (a.0, eqb-true _ _ a.1)
fin_is e s false t fin = absurd (cc)

abbrev stream_test : Num → EndState → Part → Bool
stream_test peer e s =
    nat_le 1 s.position && s.seq.0 == number_of e.first.0 s.position && same_bytes s.body (take (length s.body) (drop (s.position - 1) e.written)) && fin_test e s (has_fin s.flags)
    && not (has_syn s.flags) && not (has_rst s.flags) && has_ack s.flags && s.ack.0 == number_of peer.0 (expected e) && nat_le (s.position + span s) (e.acked + (2 ^ 31 - 1))

stream_is : (peer : Num) (e : EndState) (s : Part) → stream_test peer e s ≡ true → IsStreamSent peer e s
stream_is peer e s t =
    let a = both t in
    let b = both a.0 in
    let c = both b.0 in
    let d = both c.0 in
    let f = both d.0 in
    let g = both f.0 in
    let h = both g.0 in
    let i = both h.0 in
    record {
      stream = record {
        behind_syn = leb-true 1 s.position i.0;
        numbered = as_num s.seq (number_of e.first.0 s.position) (eqb-true s.seq.0 (number_of e.first.0 s.position) i.1);
        bytes = same_is s.body _ h.1;
        fin = fin_is e s (has_fin s.flags) g.1;
      };
      no_syn = not_is (has_syn s.flags) f.1;
      no_rst = not_is (has_rst s.flags) d.1;
      acks = c.1;
      ack = as_num s.ack (number_of peer.0 (expected e)) (eqb-true s.ack.0 (number_of peer.0 (expected e)) b.1);
      reach = leb-true _ _ a.1;
    }

abbrev sends_to : Option Num → EndState → Part → Bool
sends_to None e s = syn_test e s
sends_to (Some peer) e s = if has_syn s.flags then syn_ack_test peer e s else stream_test peer e s

sends_is : (o : Option Num) (e : EndState) (s : Part) → sends_to o e s ≡ true → MaySendTo o e s
sends_is None e s t = syn_is e s t
sends_is (Some peer) e s t = by (has_syn s.flags) t
  where
    by : (b : Bool) → (if b then syn_ack_test peer e s else stream_test peer e s) ≡ true → MaySendTo (Some peer) e s
    by true t = inl (syn_ack_is peer e s t)
    by false t = inr (stream_is peer e s t)

abbrev may_send : Option EndState → Part → Bool
may_send None s = false
may_send (Some e) s = not e.dead && sends_to e.peer e s

may_is : (o : Option EndState) (s : Part) → may_send o s ≡ true → (e : EndState) × (o ≡ Some e) × MaySend e s
may_is None s t = absurd (cc)
may_is (Some e) s t = let a = both t in (e, refl, record { living = not_is e.dead a.0; sends = sends_is e.peer e s a.1 })

-- ---- what may happen, tested
abbrev step_of : World → ℕ → Call → Bool
step_of w g (Step i) = nat_lt g w.setup.shards && nat_lt i w.setup.instances
step_of w g _ = false

abbrev may : World → WorldEvent → Bool
may w (opens k) = may_open w k && nat_lt (client_in w.clients k).isn.0 (2 ^ 32)
may w (writes at bytes) = may_write (end_at w at)
may w (closes at) = is_some (end_at w at)
may w (sends at s rest) = may_send (end_at w at) s
may w (aborts at rest) = is_living (end_at w at)
may w (receives at n isn) = may_take w at (slice_get w.sent n) && nat_lt isn.0 (2 ^ 32)
may w (refuses server port n rest) = may_refuse w (Server server port) (slice_get w.sent n)
may w (strays s) = is_stray w.setup w.clients s
may w (takes i item n) = nat_lt i w.setup.instances && may_handle w (slice_get w.sent n)
may w (calls g c) = step_of w g c

call_is : (w : World) (g : ℕ) (c : Call) → step_of w g c ≡ true → Enabled w (calls g c)
call_is w g (Step i) t = let a = both t in (ltb-true g w.setup.shards a.0, ltb-true i w.setup.instances a.1, refl)
call_is w g (Take i item a s) t = absurd (cc)
call_is w g (Crash i) t = absurd (cc)
call_is w g (Fail place) t = absurd (cc)

enabled_is : (w : World) (e : WorldEvent) → may w e ≡ true → Enabled w e
enabled_is w (opens k) t = let a = both t in (a.0, ltb-true _ _ a.1)
enabled_is w (writes at bytes) t = t
enabled_is w (closes at) t = t
enabled_is w (sends at s rest) t = may_is (end_at w at) s t
enabled_is w (aborts at rest) t = t
enabled_is w (receives at n isn) t = let a = both t in (a.0, ltb-true _ _ a.1)
enabled_is w (refuses server port n rest) t = t
enabled_is w (strays s) t = t
enabled_is w (takes i item n) t = let a = both t in (ltb-true _ _ a.0, a.1)
enabled_is w (calls g c) t = call_is w g c t

abbrev all_may : World → List WorldEvent → Bool
all_may w [] = true
all_may w (e ∷ events) = may w e && all_may (after w e) events

all_is : (w : World) (events : List WorldEvent) → all_may w events ≡ true → AreEnabled w events
all_is w [] t = tt
all_is w (e ∷ events) t = let a = both t in (enabled_is w e a.0, all_is (after w e) events a.1)

-- ---- the setup and the client
no_pairs : {X : Type 0} (R : X → X → Type 0) → AllPairs R []
no_pairs R i j d before below = absurd (omega arith)

abbrev first : Rule
first = record { host = Some (codes "shop.example"); path = Some (codes "/cart"); cookie = None; to = (0, 1) ∷ [] }

first_rule : IsRule 2 first
first_rule = record {
  host = refl;
  path = refl;
  cookie = tt;
  known = All-cons (λ c. c.0 < 2) (0, 1) [] (omega arith) (All-nil (λ c. c.0 < 2));
  once = AllPairs-cons (λ c d. c.0 ≢ d.0) (0, 1) [] (All-nil (λ d. 0 ≢ d.0)) (no_pairs (λ c d. c.0 ≢ d.0));
  weighs = omega arith;
}

abbrev second : Rule
second = record { host = None; path = None; cookie = Some (codes "beta=1"); to = (1, 1) ∷ [] }

second_rule : IsRule 2 second
second_rule = record {
  host = tt;
  path = tt;
  cookie = refl;
  known = All-cons (λ c. c.0 < 2) (1, 1) [] (omega arith) (All-nil (λ c. c.0 < 2));
  once = AllPairs-cons (λ c d. c.0 ≢ d.0) (1, 1) [] (All-nil (λ d. 1 ≢ d.0)) (no_pairs (λ c d. c.0 ≢ d.0));
  weighs = omega arith;
}

abbrev third : Rule
third = record { host = Some (codes "shop.example"); path = None; cookie = None; to = (0, 1) ∷ (1, 1) ∷ [] }

third_rule : IsRule 2 third
third_rule = record {
  host = refl;
  path = tt;
  cookie = tt;
  known = All-cons (λ c. c.0 < 2) (0, 1) ((1, 1) ∷ []) (omega arith) (All-cons (λ c. c.0 < 2) (1, 1) [] (omega arith) (All-nil (λ c. c.0 < 2)));
  once = AllPairs-cons (λ c d. c.0 ≢ d.0) (0, 1) ((1, 1) ∷ []) (All-cons (λ d. 0 ≢ d.0) (1, 1) [] (λ e. true≢false (ap (λ n. n == 0) e)) (All-nil (λ d. 0 ≢ d.0)))
      (AllPairs-cons (λ c d. c.0 ≢ d.0) (1, 1) [] (All-nil (λ d. 1 ≢ d.0)) (no_pairs (λ c d. c.0 ≢ d.0)));
  weighs = omega arith;
}

good : IsSetup example_setup
good = record {
  instances = (omega arith, omega arith);
  replicas = (omega arith, omega arith);
  copies = (omega arith, omega arith);
  shards = refl;
  secret = refl;
  server_count = (omega arith, omega arith);
  rule_count = (omega arith, omega arith);
  apart = AllPairs-cons (λ s t. s ≢ t) (record { address = 167772161; port = 8080 }) (record { address = 167772162; port = 8080 } ∷ [])
      (All-cons (λ t. record { address = 167772161; port = 8080 } ≢ t) (record { address = 167772162; port = 8080 }) [] (λ e. true≢false (ap (λ (s : ServerAt). s.address == 167772161) e))
      (All-nil (λ t. record { address = 167772161; port = 8080 } ≢ t)))
      (AllPairs-cons (λ s t. s ≢ t) (record { address = 167772162; port = 8080 }) [] (All-nil (λ t. record { address = 167772162; port = 8080 } ≢ t)) (no_pairs (λ s t. s ≢ t)));
  elsewhere = All-cons (λ (s : ServerAt). s.address ≢ 3325256714) (record { address = 167772161; port = 8080 }) (record { address = 167772162; port = 8080 } ∷ [])
      (λ e. true≢false (ap (λ n. n == 167772161) e))
      (All-cons (λ (s : ServerAt). s.address ≢ 3325256714) (record { address = 167772162; port = 8080 }) [] (λ e. true≢false (ap (λ n. n == 167772162) e)) (All-nil (λ (s : ServerAt). s.address ≢ 3325256714)));
  rules = All-cons (IsRule 2) first (second ∷ third ∷ []) first_rule (All-cons (IsRule 2) second (third ∷ []) second_rule (All-cons (IsRule 2) third [] third_rule (All-nil (IsRule 2))));
}

same_client : (k : ℕ) (a : ClientSpec) → slice_get (example_client ∷ []) k ≡ Some a → (k ≡ 0) × (a ≡ example_client)
same_client zero a is = (refl, sym (same_Some example_client a is))
same_client (suc k) a is = absurd (none-some a is)

may_be_listed : AreClients example_setup (example_client ∷ [])
may_be_listed = record {
  apart = λ j k a b ja kb address port. (same_client j a ja).0 ∙ sym (same_client k b kb).0;
  no_server = λ k a is. subst (λ (c : ClientSpec). place_of example_setup.servers c.address c.port ≡ None) (sym (same_client k a is).1) refl;
  no_service = λ k a is address port. true≢false (sym (ap (λ n. n == 3325256714) (sym (ap (λ (c : ClientSpec). c.address) (same_client k a is).1) ∙ address)));
}

-- ---- computed
can_be : all_may beginning first_events ≡ true
unfolding sha256 first_words schedule rounds compress hash_after digest_bytes settle settle_moves next_move aimed reading matched_in admits_in is_token_byte trim_ows syn_ack_segment choice_of server_syn_segment opening_ack piece_segment opening_segments to_server_segment to_client_segment reset_back turned_segment picked near_of is_utf8 chars encode
can_be = refl

lives : AllLive ending
unfolding sha256 first_words schedule rounds compress hash_after digest_bytes settle settle_moves next_move aimed reading matched_in admits_in is_token_byte trim_ows syn_ack_segment choice_of server_syn_segment opening_ack piece_segment opening_segments to_server_segment to_client_segment reset_back turned_segment picked near_of is_utf8 chars encode
lives = (inl (refl {a = true}), (inl (refl {a = true}), (inl (refl {a = true}), (inl (refl {a = true}), tt))))

client_is : end_at ending here ≡ Some client_done
unfolding sha256 first_words schedule rounds compress hash_after digest_bytes settle settle_moves next_move aimed reading matched_in admits_in is_token_byte trim_ows syn_ack_segment choice_of server_syn_segment opening_ack piece_segment opening_segments to_server_segment to_client_segment reset_back turned_segment picked near_of is_utf8 chars encode
client_is = refl

server_is : end_at ending there ≡ Some server_done
unfolding sha256 first_words schedule rounds compress hash_after digest_bytes settle settle_moves next_move aimed reading matched_in admits_in is_token_byte trim_ows syn_ack_segment choice_of server_syn_segment opening_ack piece_segment opening_segments to_server_segment to_client_segment reset_back turned_segment picked near_of is_utf8 chars encode
server_is = refl

history_is : calls_in 3 beginning first_events ≡ first_history
unfolding sha256 first_words schedule rounds compress hash_after digest_bytes settle settle_moves next_move aimed reading matched_in admits_in is_token_byte trim_ows syn_ack_segment choice_of server_syn_segment opening_ack piece_segment opening_segments to_server_segment to_client_segment reset_back turned_segment picked near_of is_utf8 chars encode
history_is = refl

pub first_flow : FirstFlow
first_flow = record {
  good = good;
  clients = may_be_listed;
  can = all_is beginning first_events can_be;
  live = lives;
  client = client_is;
  server = server_is;
  history = history_is;
}
