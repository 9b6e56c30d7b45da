-- What holds after every run of a store, whatever is asked and whichever cells fail.
use Rattle.std.specs.Prelude.{◌≡◌, ◌↔◌, ℕ, ◌≤◌, false, Option, Some, None, List, [], ◌∷◌, ◌++◌, length, slice_get, Contains, if◌then◌else◌}
use Rattle.std.specs.List.{AllByRecursion}
use Rattle.flow_id.specs.declared.key.Key.{Key}
use Rattle.flow_record.specs.Records.{asked_key}
use Rattle.flow_record.specs.declared.record.Record.{Record}
use Rattle.flow_record.specs.declared.record.Ask.TheVariants.{Add}
use Rattle.replica_cell.specs.Cells.{Replica, kept}
use Rattle.replica_cell.specs.Stores.{InOrder, Lives, word}
use Rattle.replica_cell.specs.Walks.{Agrees, IsGet}
use Rattle.replica_cell.specs.declared.walk.Stepped.TheVariants.{Going, Decided, Absent, Down}
use Rattle.store_walk.specs.Runs.{Event, Asked, Store, after}
use Rattle.store_walk.specs.Runs.Event.{Start, Step}

-- an ask of this key ended with this record
abbrev pub DecidedIn : Store → Key → Record → Type 0
DecidedIn s k r = (n : ℕ) × (a : Asked) × (slice_get s.asks n ≡ Some a) × (asked_key a.walk.ask ≡ k) × (a.said ≡ Decided r)

-- an Add of this key and record was started
abbrev pub AddedIn : List Event → Key → Record → Type 0
AddedIn events k r = Contains events (Start (Add k r))

-- ---- order
-- what a living cell has, each living cell before it has
abbrev pub OrderLaw : Type 0
OrderLaw = (count : ℕ) (events : List Event) → InOrder (after count events).cells

-- ---- origin
-- each record on a cell is that of an Add of its key that was started
abbrev pub OriginOnCells : Type 0
OriginOnCells =
    (count : ℕ) (events : List Event) (place : ℕ) (c : Replica) (i : ℕ) (p : Key × Record)
    → slice_get (after count events).cells place ≡ Some c → slice_get c.pairs i ≡ Some p → AddedIn events p.0 p.1

-- so is each record that a walk carries
abbrev pub OriginInWalks : Type 0
OriginInWalks =
    (count : ℕ) (events : List Event) (n : ℕ) (a : Asked) (r : Record)
    → slice_get (after count events).asks n ≡ Some a → a.walk.carried ≡ Some r → AddedIn events (asked_key a.walk.ask) r

-- so is each decided record
abbrev pub OriginOfDecided : Type 0
OriginOfDecided = (count : ℕ) (events : List Event) (k : Key) (r : Record) → DecidedIn (after count events) k r → AddedIn events k r

-- ---- agreement and the store's word
-- while a cell lives, all decided records of a key are one
abbrev pub AgreementLaw : Type 0
AgreementLaw =
    (count : ℕ) (events : List Event) (k : Key) (r q : Record)
    → Lives (after count events).cells → DecidedIn (after count events) k r → DecidedIn (after count events) k q → r ≡ q

-- and it is the store's word on the key
abbrev pub WordLaw : Type 0
WordLaw =
    (count : ℕ) (events : List Event) (k : Key) (r : Record)
    → Lives (after count events).cells → DecidedIn (after count events) k r → word (after count events).cells k ≡ Some r

-- a word that is there stays while a cell lives, so it changes at most once, from nothing to a record
abbrev pub WordStays : Type 0
WordStays =
    (count : ℕ) (early late : List Event) (k : Key) (r : Record)
    → Lives (after count (early ++ late)).cells → word (after count early).cells k ≡ Some r → word (after count (early ++ late)).cells k ≡ Some r

-- an ask that was started after a record of its key was decided goes on, or says that record, or Down; no cell need live
abbrev pub LateLaw : Type 0
LateLaw =
    (count : ℕ) (early late : List Event) (k : Key) (r : Record) (n : ℕ) (a : Asked)
    → DecidedIn (after count early) k r → length (after count early).asks ≤ n
    → slice_get (after count (early ++ late)).asks n ≡ Some a → asked_key a.walk.ask ≡ k → Agrees r a.said

-- ---- absence
-- where a step ends an ask with Absent, no record of its key had been decided
abbrev pub AbsentLaw : Type 0
AbsentLaw =
    (count : ℕ) (events : List Event) (n : ℕ) (a b : Asked) (r : Record)
    → slice_get (after count events).asks n ≡ Some a → a.said ≡ Going
    → slice_get (after count (events ++ Step n ∷ [])).asks n ≡ Some b → b.said ≡ Absent
    → DecidedIn (after count events) (asked_key a.walk.ask) r → ⊥

-- ---- causes
abbrev pub IsFailed : Replica → Type 0
IsFailed c = c.living ≡ false

-- the first living replica of the list
abbrev pub first_living : List Replica → Option Replica
first_living [] = None
first_living (c ∷ cells) = if c.living then Some c else first_living cells

abbrev pub Lacks : Key → Option Replica → Type 0
Lacks k None = ⊥
Lacks k (Some c) = kept c k ≡ None

-- an ask says Absent exactly where it is a Get, and the first living cell that it met lacked the key at its step there
abbrev pub AbsentCause : Type 0
AbsentCause =
    (count : ℕ) (events : List Event) (n : ℕ) (a : Asked) → slice_get (after count events).asks n ≡ Some a
    → (a.said ≡ Absent) ↔ (IsGet a.walk.ask × Lacks (asked_key a.walk.ask) (first_living a.seen))

-- an ask says Down exactly where it made a step at each cell, and each was failed at that step
abbrev pub DownCause : Type 0
DownCause =
    (count : ℕ) (events : List Event) (n : ℕ) (a : Asked) → slice_get (after count events).asks n ≡ Some a
    → (a.said ≡ Down) ↔ ((length a.seen ≡ count) × AllByRecursion IsFailed a.seen)
