-- What an instance keeps of flows that it opened or passed on: an entry for a flow has its decided Syn and Open. The
-- entries are a list, the most recently used first.
use Rattle.std.specs.Prelude.{◌≡◌, ℕ, Bool, true, ◌==◌, ◌&&◌, if◌then◌else◌, Option, Some, None, List, [], ◌∷◌}
use Rattle.std.specs.List.{AllByRecursion, IsDistinct}
use Rattle.std.specs.Map.{keys_of, lookup, remove_entry}
use Rattle.lru.specs.LruCache.{promoted}
use Rattle.flow_id.specs.Keys.{same_flow}
use Rattle.flow_id.specs.declared.key.Flow.{Flow}
use Rattle.flow_record.specs.Records.{is_syn, is_open, open_server, open_port}
use Rattle.kept_records.specs.declared.entry.Kept.{Kept}
use Rattle.kept_records.specs.declared.entry.ServerPort.{ServerPort}

abbrev pub Entries : Type 0
Entries = List (Flow × Kept)

-- what is kept of a flow
abbrev pub kept_of : Entries → Flow → Option Kept
kept_of entries flow = lookup (same_flow flow) entries

-- the entry of the flow goes to the front
abbrev pub in_front : Entries → Flow → Entries
in_front entries flow = promoted (same_flow flow) entries

-- the entry of the flow is dropped
abbrev pub without : Entries → Flow → Entries
without entries flow = remove_entry (same_flow flow) entries

-- an Open names this server and port
abbrev pub opens_to : ℕ → ℕ → Kept → Bool
opens_to server port kept = open_server kept.opened == server && open_port kept.opened == port

-- the flow of the first entry whose Open names this server and port
abbrev pub owner_of : Entries → ℕ → ℕ → Option Flow
owner_of [] server port = None
owner_of (e ∷ entries) server port = if opens_to server port e.1 then Some e.0 else owner_of entries server port

-- an entry has a Syn and an Open
abbrev pub IsKept : Kept → Type 0
IsKept kept = (is_syn kept.syn ≡ true) × (is_open kept.opened ≡ true)

abbrev pub AreKept : Entries → Type 0
AreKept entries = AllByRecursion (λ e. IsKept e.1) entries

-- no two entries are of one flow
abbrev pub AreDistinct : Entries → Type 0
AreDistinct entries = IsDistinct same_flow (keys_of entries)

-- the server and port that an Open names
abbrev pub server_port : Kept → ServerPort
server_port kept = record { server = open_server kept.opened; port = open_port kept.opened }
