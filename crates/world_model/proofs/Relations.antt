-- What the tests of an event say, as relations.
use Rattle.std.proofs.Common.{◌≡◌, ℕ, zero, suc, ◌+◌, ◌<◌, ◌^◌, Bool, true, false, ◌&&◌, ◌||◌, ◌==◌, not, Option, Some, None, List, [], ◌∷◌, length, refl, ◌∙◌, ap}
use Rattle.std.specs.Prelude.{nat_lt, slice_get, is_none, is_some}
use Rattle.std.specs.List.{list_any}
use Rattle.std.proofs.lemmas.Bool.{ltb-true, eqb-true, eq-eqb, and_parts, and_from}
use Rattle.std.proofs.lemmas.Option.{none-some, same_Some}
use Rattle.job_core.specs.Jobs.{is_taken}
use Rattle.rule_table.specs.Matching.{place_of}
use Rattle.rule_table.specs.Setups.{SetupView}
use Rattle.seq_space.specs.declared.Num.{Num}
use Rattle.tcp_end.specs.EndState.{EndState, next_expected}
use Rattle.tcp_segment.specs.Flags.{has_syn}
use Rattle.tcp_segment.specs.declared.segment.Segment.{Segment}
use Rattle.world_model.specs.declared.at.At.{At}
use Rattle.world_model.specs.declared.at.At.TheVariants.{Client, Server}
use Rattle.world_model.specs.declared.client.ClientSpec.{ClientSpec}
use Rattle.world_model.specs.Clients.{IsClient}
use Rattle.world_model.specs.Enabled.{is_out, goes_back, goes_to_end, may_open, may_write, is_living, is_within, makes_end, may_receive, may_take, may_refuse, is_from, is_stray, may_handle}
use Rattle.world_model.specs.Flows.{aim_of}
use Rattle.world_model.specs.Posted.{Posted, Sender, end, balancer, stranger}
use Rattle.world_model.specs.Routes.{Route, route_of}
use Rattle.world_model.specs.World.{World, end_at, end_of_client}

-- ---- ways
-- the segment goes this way
pub record Goes (route : Route) (s : Segment) : Type 0 where
  pub source : s.source ≡ route.source
  pub source_port : s.head.source_port ≡ route.source_port
  pub target : s.target ≡ route.target
  pub target_port : s.head.target_port ≡ route.target_port

-- it goes this way back
pub record GoesBack (route : Route) (s : Segment) : Type 0 where
  pub source : s.source ≡ route.target
  pub source_port : s.head.source_port ≡ route.target_port
  pub target : s.target ≡ route.source
  pub target_port : s.head.target_port ≡ route.source_port

pub back_is : (route : Route) (s : Segment) → goes_back route s ≡ true → GoesBack route s
back_is route s e =
    let a = and_parts (s.source == route.target && s.head.source_port == route.target_port && s.target == route.source) (s.head.target_port == route.source_port) e in
    let b = and_parts (s.source == route.target && s.head.source_port == route.target_port) (s.target == route.source) a.0 in
    let c = and_parts (s.source == route.target) (s.head.source_port == route.target_port) b.0 in
    record { source = eqb-true _ _ c.0; source_port = eqb-true _ _ c.1; target = eqb-true _ _ b.1; target_port = eqb-true _ _ a.1 }

-- ---- senders
-- the balancer sent it
abbrev pub IsOut : Sender → Type 0
IsOut (end at) = ⊥
IsOut (balancer flow) = Unit {0}
IsOut stranger = ⊥

-- somebody else sent it
abbrev pub IsIn : Sender → Type 0
IsIn (end at) = Unit {0}
IsIn (balancer flow) = ⊥
IsIn stranger = Unit {0}

out_is : (by : Sender) → is_out by ≡ true → IsOut by
out_is (end at) e = absurd (cc)
out_is (balancer flow) e = tt
out_is stranger e = absurd (cc)

in_is : (by : Sender) → not (is_out by) ≡ true → IsIn by
in_is (end at) e = tt
in_is (balancer flow) e = absurd (cc)
in_is stranger e = tt

-- the segment with this index is the balancer's, and goes to this end
pub record GoesToEnd (w : World) (at : At) (n : ℕ) (x : Posted) : Type 0 where
  pub sent : slice_get w.sent n ≡ Some x
  pub out : IsOut x.by
  pub goes : GoesBack (route_of w.setup w.clients at) x.segment

pub to_end : (w : World) (at : At) (n : ℕ) (x : Posted) → slice_get w.sent n ≡ Some x → goes_to_end w at x ≡ true → GoesToEnd w at n x
to_end w at n x sent e =
    let a = and_parts (is_out x.by) (goes_back (route_of w.setup w.clients at) x.segment) e in
    record { sent = sent; out = out_is x.by a.0; goes = back_is (route_of w.setup w.clients at) x.segment a.1 }

-- ---- ends
none_is : {X : Type 0} (o : Option X) → is_none o ≡ true → o ≡ None
none_is None e = refl
none_is (Some x) e = absurd (cc)

not_is : (b : Bool) → not b ≡ true → b ≡ false
not_is false e = refl
not_is true e = absurd (cc)

-- less than 2 ^ 31 positions away, or nowhere
abbrev pub IsWithin : ℕ → Option ℕ → Type 0
IsWithin around None = Unit {0}
IsWithin around (Some p) = (p < around + 2 ^ 31) × (around < p + 2 ^ 31)

within_is : (around : ℕ) (o : Option ℕ) → is_within around o ≡ true → IsWithin around o
within_is around None e = tt
within_is around (Some p) e =
    let a = and_parts (nat_lt p (around + 2 ^ 31)) (nat_lt around (p + 2 ^ 31)) e in
    (ltb-true p (around + 2 ^ 31) a.0, ltb-true around (p + 2 ^ 31) a.1)

-- an end that is not there yet is a server's, and the segment is a SYN
abbrev pub MakesEnd : SetupView → At → Segment → Type 0
MakesEnd setup (Client k) s = ⊥
MakesEnd setup (Server server port) s = (server < length setup.servers) × (has_syn s.head.flags ≡ true)

makes_is : (setup : SetupView) (at : At) (s : Segment) → makes_end setup at s ≡ true → MakesEnd setup at s
makes_is setup (Client k) s e = absurd (cc)
makes_is setup (Server v p) s e =
    let a = and_parts (nat_lt v (length setup.servers)) (has_syn s.head.flags) e in
    (ltb-true v (length setup.servers) a.0, a.1)

abbrev pub MayReceive : SetupView → At → Num → Posted → Option EndState → Type 0
MayReceive setup at isn x (Some e) = IsWithin (next_expected e) x.position
MayReceive setup at isn x None = MakesEnd setup at x.segment × (isn.0 < 2 ^ 32)

receive_is : (w : World) (at : At) (isn : Num) (x : Posted) (o : Option EndState) → isn.0 < 2 ^ 32 → may_receive w at x o ≡ true → MayReceive w.setup at isn x o
receive_is w at isn x (Some d) small e = within_is (next_expected d) x.position e
receive_is w at isn x None small e = (makes_is w.setup at x.segment e, small)

-- the end is there, and this holds of it
abbrev pub HasEnd : World → At → (EndState → Type 0) → Type 0
HasEnd w at P = (e : EndState) × (end_at w at ≡ Some e) × P e

-- ---- events
pub open_is : (w : World) (k : ℕ) → may_open w k ≡ true → (k < length w.clients) × (end_of_client w k ≡ None)
open_is w k e = let a = and_parts (nat_lt k (length w.clients)) (is_none (end_of_client w k)) e in (ltb-true k (length w.clients) a.0, none_is (end_of_client w k) a.1)

pub write_is : (w : World) (at : At) (o : Option EndState) → end_at w at ≡ o → may_write o ≡ true → HasEnd w at (λ e. (e.closed ≡ false) × (e.dead ≡ false))
write_is w at None is e = absurd (cc)
write_is w at (Some d) is e = let a = and_parts (not d.closed) (not d.dead) e in (d, is, (not_is d.closed a.0, not_is d.dead a.1))

pub some_is : (w : World) (at : At) (o : Option EndState) → end_at w at ≡ o → is_some o ≡ true → HasEnd w at (λ e. Unit {0})
some_is w at None is e = absurd (cc)
some_is w at (Some d) is e = (d, is, tt)

pub living_is : (w : World) (at : At) (o : Option EndState) → end_at w at ≡ o → is_living o ≡ true → HasEnd w at (λ e. e.dead ≡ false)
living_is w at None is e = absurd (cc)
living_is w at (Some d) is e = (d, is, not_is d.dead e)

pub take_is : (w : World) (at : At) (n : ℕ) (isn : Num) (o : Option Posted) → isn.0 < 2 ^ 32 → slice_get w.sent n ≡ o → may_take w at o ≡ true
    → (x : Posted) × GoesToEnd w at n x × MayReceive w.setup at isn x (end_at w at)
take_is w at n isn None small is e = absurd (cc)
take_is w at n isn (Some x) small is e =
    let a = and_parts (goes_to_end w at x) (may_receive w at x (end_at w at)) e in
    (x, to_end w at n x is a.0, receive_is w at isn x (end_at w at) small a.1)

pub refuse_is : (w : World) (at : At) (n : ℕ) (o : Option Posted) → slice_get w.sent n ≡ o → may_refuse w at o ≡ true
    → (x : Posted) × GoesToEnd w at n x × MakesEnd w.setup at x.segment × (end_at w at ≡ None)
refuse_is w at n None is e = absurd (cc)
refuse_is w at n (Some x) is e =
    let a = and_parts (goes_to_end w at x && makes_end w.setup at x.segment) (is_none (end_at w at)) e in
    let b = and_parts (goes_to_end w at x) (makes_end w.setup at x.segment) a.0 in
    (x, to_end w at n x is b.0, makes_is w.setup at x.segment b.1, none_is (end_at w at) a.1)

pub handle_is : (w : World) (n : ℕ) (o : Option Posted) → slice_get w.sent n ≡ o → may_handle w o ≡ true
    → (x : Posted) × (slice_get w.sent n ≡ Some x) × IsIn x.by × (is_taken (aim_of w.setup x.segment) ≡ true)
handle_is w n None is e = absurd (cc)
handle_is w n (Some x) is e = let a = and_parts (not (is_out x.by)) (is_taken (aim_of w.setup x.segment)) e in (x, is, in_is x.by a.0, a.1)

-- ---- strangers
-- it comes neither from a server nor from a client
pub record IsStray (setup : SetupView) (clients : List ClientSpec) (s : Segment) : Type 0 where
  pub no_server : place_of setup.servers s.source s.head.source_port ≡ None
  pub no_client : (k : ℕ) (client : ClientSpec) → IsClient clients k client → client.address ≡ s.source → client.port ≡ s.head.source_port → ⊥

-- none of the clients is at the segment's source
no_source : (s : Segment) (clients : List ClientSpec) → list_any (is_from s) clients ≡ false → (k : ℕ) (client : ClientSpec) → IsClient clients k client → client.address ≡ s.source → client.port ≡ s.head.source_port → ⊥
no_source s [] none k client is address port = none-some client is
no_source s (c ∷ clients) none zero client is address port =
    first (is_from s c) (list_any (is_from s) clients) (ap (is_from s) (same_Some c client is) ∙ and_from _ _ (eq-eqb client.address s.source address) (eq-eqb client.port s.head.source_port port)) none
  where
    first : (a b : Bool) → a ≡ true → (a || b) ≡ false → ⊥
    first true b is none = absurd (cc)
    first false b is none = absurd (cc)
no_source s (c ∷ clients) none (suc k) client is address port = no_source s clients (rest (is_from s c) (list_any (is_from s) clients) none) k client is address port
  where
    rest : (a b : Bool) → (a || b) ≡ false → b ≡ false
    rest true b none = absurd (cc)
    rest false b none = none

pub stray_is : (setup : SetupView) (clients : List ClientSpec) (s : Segment) → is_stray setup clients s ≡ true → IsStray setup clients s
stray_is setup clients s e =
    let a = and_parts (is_none (place_of setup.servers s.source s.head.source_port)) (not (list_any (is_from s) clients)) e in
    record { no_server = none_is _ a.0; no_client = no_source s clients (not_is (list_any (is_from s) clients) a.1) }
