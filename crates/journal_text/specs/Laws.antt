-- What a journal shows of the histories.
use Rattle.std.specs.Prelude.{◌≡◌, ℕ, ◌<◌, ◌^◌, List, map}
use Rattle.std.specs.List.{AllByRecursion}
use Rattle.bench.specs.declared.call.Call.{Call}
use Rattle.bench.specs.declared.call.Call.TheVariants.{Take, Step, Crash, Fail}
use Rattle.seen_lock.specs.declared.object.Entry.{Entry}
use Rattle.journal_text.specs.Journals.{journal_text}

-- what the line of a call shows of it: of a take the instance and the record, of a step and of a crash the instance, of a
-- failure the place
pub data Shown : Type 0 where
  take : ℕ → ℕ → Shown
  step : ℕ → Shown
  crash : ℕ → Shown
  fail : ℕ → Shown

abbrev pub shown_call : Call → Shown
shown_call (Take instance item aim segment) = take instance item
shown_call (Step instance) = step instance
shown_call (Crash instance) = crash instance
shown_call (Fail place) = fail place

abbrev pub shown : Entry Call → Shown
shown entry = shown_call entry.call

-- the numbers that the line names fit 64 bits
abbrev pub FitsWords : Call → Type 0
FitsWords (Take instance item aim segment) = (instance < 2 ^ 64) × (item < 2 ^ 64)
FitsWords (Step instance) = instance < 2 ^ 64
FitsWords (Crash instance) = instance < 2 ^ 64
FitsWords (Fail place) = place < 2 ^ 64

-- so do those of each call of these histories
abbrev pub AllFitWords : List (List (Entry Call)) → Type 0
AllFitWords histories = AllByRecursion (AllByRecursion (λ e. FitsWords e.call)) histories

-- histories with one journal show the same, shard for shard and call for call
abbrev pub JournalShows : Type 0
JournalShows =
    (h k : List (List (Entry Call))) → AllFitWords h → AllFitWords k → journal_text h ≡ journal_text k → map (map shown) h ≡ map (map shown) k
