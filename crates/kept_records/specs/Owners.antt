-- The index of the entries by the server and port of their Opens.
use Rattle.std.specs.Prelude.{◌≡◌, Bool, false, ◌==◌, ◌&&◌, cond, List, Option, Some, None}
use Rattle.std.specs.List.{AllByRecursion}
use Rattle.std.specs.Map.{lookup}
use Rattle.flow_id.specs.declared.key.Flow.{Flow}
use Rattle.kept_records.specs.Entries.{Entries, server_port}
use Rattle.kept_records.specs.declared.entry.ServerPort.{ServerPort}
use Rattle.kept_records.specs.declared.owners.Owners.{Owners}

abbrev pub same_server_port : ServerPort → ServerPort → Bool
same_server_port a b = a.server == b.server && a.port == b.port

abbrev pub Index : Type 0
Index = List (ServerPort × Flow)

abbrev pub flow_at : Index → ServerPort → Option Flow
flow_at index at = lookup (same_server_port at) index

-- the index has each entry's flow at the server and port of its Open
abbrev pub IsIndexed : Index → Entries → Type 0
IsIndexed index entries = AllByRecursion (λ e. flow_at index (server_port e.1) ≡ Some e.0) entries

-- .. unless two entries may share them
abbrev pub AreOwners : Owners → Entries → Type 0
AreOwners owners entries = owners.shared ≡ false → IsIndexed owners.flows.entries entries

-- the index has this at one place, and at each other what it had
abbrev pub Sets : Index → Index → ServerPort → Option Flow → Type 0
Sets old new at o = (other : ServerPort) → flow_at new other ≡ cond (same_server_port at other) o (flow_at old other)

-- an owner was added, where there was none; else two entries may share the place
abbrev pub Adds : Owners → Owners → ServerPort → Flow → Type 0
Adds old new at flow = new.shared ≡ false → (old.shared ≡ false) × (flow_at old.flows.entries at ≡ None) × Sets old.flows.entries new.flows.entries at (Some flow)

abbrev pub Drops : Owners → Owners → ServerPort → Type 0
Drops old new at = (new.shared ≡ old.shared) × Sets old.flows.entries new.flows.entries at None
