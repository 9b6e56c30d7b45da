-- What an event of the ends or of strangers changes, and that what it leaves alone still holds.
use Rattle.std.proofs.Common.{◌≡◌, ℕ, zero, suc, Bool, true, Option, Some, List, [], ◌∷◌, ◌++◌, length, refl, sym, ◌∙◌, ap, subst, inl, inr}
use Rattle.std.specs.Prelude.{◌⊎◌, IsTrue, slice_get}
use Rattle.std.proofs.lemmas.Option.{none-some, same_Some}
use Rattle.flow_id.specs.declared.key.Key.{Key}
use Rattle.flow_id.specs.declared.key.Key.TheVariants as key
use Rattle.flow_record.specs.declared.record.Record.{Record}
use Rattle.http_head.specs.Reading.{Reading, reading, complete, bad, partial}
use Rattle.http_head.specs.Fields.{is_complete}
use Rattle.http_head.proofs.ReadingLemmas.{complete_stays}
use Rattle.rule_table.specs.Matching.{admits, admits_in}
use Rattle.rule_table.specs.Setups.{SetupView}
use Rattle.tcp_end.specs.EndState.{EndState}
use Rattle.world_model.specs.declared.client.ClientSpec.{ClientSpec}
use Rattle.world_model.specs.Clients.{flow_of}
use Rattle.world_model.specs.Posted.{Posted}
use Rattle.world_model.specs.Streams.{written_by, closed_by}
use Rattle.world_model.specs.World.{World, ServerEnd, end_of_server, end_of_client}
use Rattle.world_model.proofs.Conclude.{admits_head}
use Rattle.world_model.proofs.Growth.{either, StreamGrows, has_grows, held_grows}
use Rattle.world_model.proofs.Invariant.{Calls, IsSentBy, ClientIs, ServerIs, IsProposed, Inv}
use Rattle.world_model.proofs.Later.{Later, opened_later, owns_later, made_later, received_later, opens_end_later, sent_later}

-- what admits a server admits it when more is written
pub admits_more : (setup : SetupView) (bytes more : List ℕ) (server : ℕ) → admits setup bytes server ≡ true → admits setup (bytes ++ more) server ≡ true
admits_more setup bytes more server e = by (reading bytes) refl (admits_head setup.rules (reading bytes) server e)
  where
    by : (r : Reading) → reading bytes ≡ r → IsTrue (is_complete r) → admits setup (bytes ++ more) server ≡ true
    by (complete h) is yes_ = ap (λ r. admits_in setup.rules r server) (complete_stays bytes more h is ∙ sym is) ∙ e
    by bad is yes_ = absurd (cc)
    by partial is yes_ = absurd (cc)

pub admits_grows : (setup : SetupView) (stream stream' : List ℕ) (closed closed' : Bool) (server : ℕ) → StreamGrows stream closed stream' closed' → admits setup stream server ≡ true → admits setup stream' server ≡ true
admits_grows setup stream stream' closed closed' server grows e = subst (λ s. admits setup s server ≡ true) (sym grows.is) (admits_more setup stream grows.more server e)

-- a list that was sent, and one more
pub pushed : {X : Type 0} (xs : List X) (y : X) (n : ℕ) (x : X) → slice_get (xs ++ y ∷ []) n ≡ Some x → (slice_get xs n ≡ Some x) ⊎ ((n ≡ length xs) × (y ≡ x))
pushed [] y zero x is = inr (refl, same_Some y x is)
pushed [] y (suc n) x is = absurd (none-some x is)
pushed (z ∷ xs) y zero x is = inl is
pushed (z ∷ xs) y (suc n) x is = either (λ h. h) (λ h. (ap suc h.0, h.1)) (pushed xs y n x is)

pub still_there : {X : Type 0} (xs ys : List X) (n : ℕ) (x : X) → slice_get xs n ≡ Some x → slice_get (xs ++ ys) n ≡ Some x
still_there [] ys n x is = absurd (none-some x is)
still_there (z ∷ xs) ys zero x is = is
still_there (z ∷ xs) ys (suc n) x is = still_there xs ys n x is

module _ (setup : SetupView) (clients : List ClientSpec) (w : World) (calls : Calls) (w' : World) (calls' : Calls) (later : Later setup w calls w' calls') where
  -- a client's end that the event leaves alone
  pub client_later : (k : ℕ) (e : EndState) → ClientIs setup clients w calls k e → ClientIs setup clients w' calls' k e
  client_later k e c = record {
    client = c.client;
    is = c.is;
    first = c.first;
    number = c.number;
    peer = c.peer;
    acked = either (opened_later setup clients w calls w' calls' later (flow_of setup c.client)) (λ h. h) c.acked;
    received = either (λ h. h) (received_later setup clients w calls w' calls' later (flow_of setup c.client) e) c.received;
  }

  -- a server's
  pub server_later : (server port : ℕ) (s : ServerEnd) → ServerIs setup clients w calls server port s → ServerIs setup clients w' calls' server port s
  server_later server port s c = record {
    known = c.known;
    number = c.number;
    peer = c.peer;
    knows = c.knows;
    flow = c.flow;
    made = made_later setup clients w calls w' calls' later s s c.flow refl c.made;
    owns = owns_later setup clients w calls w' calls' later c.flow server port c.owns;
    honest = λ k client is same.
        let h = c.honest k client is same in
        (h.0, has_grows (written_by (end_of_client w k)) (written_by (end_of_client w' k)) (closed_by (end_of_client w k)) (closed_by (end_of_client w' k)) (later.client k) s.state h.1);
  }

  pub proposed_later : (k : Key) (r : Record) → IsProposed setup clients w k r → IsProposed setup clients w' k r
  proposed_later (key.Syn flow) r p = p
  proposed_later (key.Choice flow) r p = λ k client is same.
      admits_grows setup (written_by (end_of_client w k)) (written_by (end_of_client w' k)) (closed_by (end_of_client w k)) (closed_by (end_of_client w' k)) _ (later.client k) (p k client is same)
  proposed_later (key.Port service server port) r p = p
  proposed_later (key.Open flow) r p = opens_end_later setup clients w calls w' calls' later r p
  proposed_later (key.Fin flow side) r p = p
  proposed_later (key.Gone flow) r p = p

-- The world with these ends and this list of what was sent: each of these is either what it was, or holds by itself.
module _ (w : World) (ends' : List (Option EndState)) (servers' : List ServerEnd) (sent' : List Posted) where
  abbrev pub changed_ends : World
  changed_ends = record { setup = w.setup; clients = w.clients; ends = ends'; servers = servers'; shards = w.shards; sent = sent' }

  pub frame : (calls : Calls) → Inv w calls → Later w.setup w calls changed_ends calls → length ends' ≡ length w.ends
      → ((n : ℕ) (x : Posted) → slice_get sent' n ≡ Some x → (slice_get w.sent n ≡ Some x) ⊎ IsSentBy w.setup w.clients changed_ends calls n x x.by)
      → ((k : ℕ) (e : EndState) → end_of_client changed_ends k ≡ Some e → (end_of_client w k ≡ Some e) ⊎ ClientIs w.setup w.clients changed_ends calls k e)
      → ((server port : ℕ) (s : ServerEnd) → end_of_server changed_ends server port ≡ Some s → (end_of_server w server port ≡ Some s) ⊎ ServerIs w.setup w.clients changed_ends calls server port s)
      → Inv changed_ends calls
  frame calls inv later long sent client server = record {
    good = inv.good;
    apart = inv.apart;
    end_count = long ∙ inv.end_count;
    shard_count = inv.shard_count;
    sent = λ n x is. elim (sent n x is) [
      | inl was ↦ sent_later w.setup w.clients w calls changed_ends calls later n x x.by (inv.sent n x was)
      | inr now ↦ now
    ];
    client = λ k e is. elim (client k e is) [
      | inl was ↦ client_later w.setup w.clients w calls changed_ends calls later k e (inv.client k e was)
      | inr now ↦ now
    ];
    server = λ v p s is. elim (server v p s is) [
      | inl was ↦ server_later w.setup w.clients w calls changed_ends calls later v p s (inv.server v p s was)
      | inr now ↦ now
    ];
    shard = λ g below.
        let s = inv.shard g below in
        record {
          are = s.are;
          bench = s.bench;
          proposals = λ k r p. proposed_later w.setup w.clients w calls changed_ends calls later k r (s.proposals k r p);
          places = s.places;
          jobs = λ i job here.
              let t = s.jobs i job here in
              record { index = t.index; last = t.last; entry = t.entry; sent = later.sent t.index t.entry t.sent; is = t.is; by = t.by };
          held = λ i k client is.
              held_grows (written_by (end_of_client w k)) (written_by (end_of_client changed_ends k)) (closed_by (end_of_client w k)) (closed_by (end_of_client changed_ends k)) (later.client k) _ (s.held i k client is);
        };
  }
