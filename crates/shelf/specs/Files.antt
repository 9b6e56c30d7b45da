-- A shelf in memory: its files, the numbers of the calls that fail, and its two counters.
use Rattle.shelf.specs.declared.outside.Kind.{Kind}
use Rattle.shelf.specs.declared.counters.Counters.{Counters}
use Rattle.shelf.specs.Counters.{count_of}
use Rattle.shelf.specs.Shelf.{Contents, Counts}
use Rattle.common.specs.Causes.{risen}
use Rattle.std.specs.Prelude.{◌≡◌, ℕ, ◌<◌, Bool, not, ◌&&◌, ◌==◌, List, [], Option, Some, IsSome, is_some, Vec, String, find, All}
use Rattle.std.specs.List.{list_any}
use Rattle.std.specs.String.{string_bytes}
use Rattle.std.specs.Str.{bytes_eq}
use Rattle.std.specs.Option.{option_map, unwrap_or}
use Rattle.std.specs.declared.alloc.Global.{Global}

-- a name and what it holds
abbrev pub Entry : Type 0
Entry = String Global × Vec ℕ Global

-- a file has this name
abbrev pub is_named : List ℕ → Entry → Bool
is_named name f = bytes_eq (string_bytes f.0) name

-- what the first file of that name holds, if there is one
abbrev pub bytes_of : List Entry → List ℕ → Option (List ℕ)
bytes_of files name = option_map (λ f. f.1.items) (find (is_named name) files)

-- what is told of a name: one that is not there holds nothing
abbrev pub told : List Entry → List ℕ → Option (List ℕ)
told files name = Some (unwrap_or (bytes_of files name) [])

-- no call that is still to come fails
abbrev pub NoneToCome : List ℕ → ℕ → Type 0
NoneToCome fails calls = All (λ k. k < calls) fails

-- a shelf in memory, as contracts see it
pub record Memory : Type 0 where
  pub files : List Entry
  -- the numbers of the calls that fail, counted from 0
  pub fails : List ℕ
  -- the number of the next call
  pub calls : ℕ
  pub faults : Counters

-- how many faults of a kind there have been, at whatever name
abbrev pub fault_count : Memory → Kind → ℕ
fault_count s k = count_of s.faults k

-- the three meanings of a shelf: every content is told
abbrev pub contents : Memory → Contents
contents s name = told s.files name

-- .. one counter serves all names of a kind
abbrev pub counts : Memory → Counts
counts s k name = fault_count s k

-- .. and a name is sure where it is there and no call that is still to come fails
abbrev pub IsSure : Memory → List ℕ → Type 0
IsSure s name = IsSome (bytes_of s.files name) × NoneToCome s.fails s.calls

-- the next call is one of those that fail
abbrev pub is_listed : Memory → Bool
is_listed s = list_any (λ k. k == s.calls) s.fails

-- the next call can read this name
abbrev pub can_read : Memory → List ℕ → Bool
can_read s name = not (is_listed s) && is_some (bytes_of s.files name)

-- a call took its number, and left the list of those that fail
pub record TookNumber (old new : Memory) : Type 0 where
  pub calls : new.calls ≡ risen old.calls
  pub fails : new.fails ≡ old.fails
