-- What the ends of an honest client's connection have received of each other, and from which server.
use Rattle.std.specs.Prelude.{◌≡◌, ◌⊎◌, ℕ, Option, Some, None, Bool, true, false, List, [], slice_get, IsTrue}
use Rattle.flow_id.specs.declared.key.Flow.{Flow}
use Rattle.http_head.specs.Reading.{reading}
use Rattle.http_head.specs.Fields.{is_complete}
use Rattle.rule_table.specs.Matching.{place_of, admits}
use Rattle.seq_space.specs.declared.Num.{Num}
use Rattle.tcp_end.specs.EndState.{EndState}
use Rattle.tcp_end.specs.Streams.{HasReceived}
use Rattle.tcp_segment.specs.Flags.{has_rst}
use Rattle.world_model.specs.Flows.{flow_made}
use Rattle.world_model.specs.Openings.{IsOpening}
use Rattle.world_model.specs.Posted.{Posted, balancer}
use Rattle.world_model.specs.World.{World, ServerEnd, AreApart, end_of_server}

-- what an end has written, and whether it has closed; nothing before it opens
abbrev pub written_by : Option EndState → List ℕ
written_by None = []
written_by (Some e) = e.written

abbrev pub closed_by : Option EndState → Bool
closed_by None = false
closed_by (Some e) = e.closed

-- this is the end of the server towards the port, and a SYN of the flow made it
pub record IsEndFor (w : World) (flow : Flow) (server port : ℕ) (s : ServerEnd) : Type 0 where
  pub here : end_of_server w server port ≡ Some s
  pub made : flow_made w s ≡ Some flow

-- the segment with this index was sent in a handling of the flow's, to this server from this port
pub record IsServerBound (w : World) (flow : Flow) (server port n : ℕ) (x : Posted) : Type 0 where
  pub sent : slice_get w.sent n ≡ Some x
  pub by : x.by ≡ balancer (Some flow)
  pub goes_to : place_of w.setup.servers x.segment.target x.segment.head.target_port ≡ Some server
  pub from_port : x.segment.head.source_port ≡ port

-- the bytes begin with a request head, and by it the rules admit the server
pub record AdmitsServer (w : World) (bytes : List ℕ) (server : ℕ) : Type 0 where
  pub head : IsTrue (is_complete (reading bytes))
  pub admitted : admits w.setup bytes server ≡ true

-- The ends of one client's connection: there is one server's end at most. What either end has received is a prefix of
-- what the other has written, and all of it where it saw the close, which then stands; while there is no server's end the
-- client has received nothing. All that is sent for the flow goes to the client or to one server, which the client's head
-- admits, and from one port; what is sent for no known flow is a reset.
pub record StreamsAgreeFor (w : World) (flow : Flow) (state : Option EndState) : Type 0 where
  pub one_end : (server port server' port' : ℕ) (s t : ServerEnd) → IsEndFor w flow server port s → IsEndFor w flow server' port' t → (server ≡ server') × (port ≡ port')
  pub client : (server port : ℕ) (s : ServerEnd) (e : EndState) → IsEndFor w flow server port s → state ≡ Some e → HasReceived s.state.written s.state.closed e
  pub alone : (e : EndState) → state ≡ Some e → ((server port : ℕ) (s : ServerEnd) → IsEndFor w flow server port s → ⊥) → (e.received ≡ []) × (e.saw_close ≡ false)
  pub server : (server port : ℕ) (s : ServerEnd) → IsEndFor w flow server port s → HasReceived (written_by state) (closed_by state) s.state
  pub one_server : (server port server' port' n m : ℕ) (x y : Posted) → IsServerBound w flow server port n x → IsServerBound w flow server' port' m y → (server ≡ server') × (port ≡ port')
  pub admitted : (server port n : ℕ) (x : Posted) → IsServerBound w flow server port n x → AdmitsServer w (written_by state) server
  pub nowhere_else : (n : ℕ) (x : Posted) → slice_get w.sent n ≡ Some x → x.by ≡ balancer (Some flow)
      → ((x.segment.target ≡ flow.address) × (x.segment.head.target_port ≡ flow.port)) ⊎ ((server : ℕ) × (port : ℕ) × IsServerBound w flow server port n x)
  pub untold : (n : ℕ) (x : Posted) → slice_get w.sent n ≡ Some x → x.by ≡ balancer None → has_rst x.segment.head.flags ≡ true

-- so it is for each, and no two ends are of the same server and port
pub record StreamsAgree (w : World) : Type 0 where
  pub apart : AreApart w.servers
  pub each : (k : ℕ) (flow : Flow) (first : Num) (state : Option EndState) → IsOpening w k flow first state → StreamsAgreeFor w flow state
