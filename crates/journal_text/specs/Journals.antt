-- The text of a journal: for each shard its number, and then a line for each call of its history, in their order.
use Rattle.std.specs.Prelude.{ℕ, ◌+◌, List, [], ◌∷◌, ◌++◌, codes}
use Rattle.std.specs.List.{flat_map}
use Rattle.std.specs.Fmt.{decimal}
use Rattle.bench.specs.declared.call.Call.{Call}
use Rattle.bench.specs.declared.call.Call.TheVariants.{Take, Step, Crash, Fail}
use Rattle.seen_lock.specs.declared.object.Entry.{Entry}

-- take INSTANCE RECORD, step INSTANCE, crash INSTANCE, fail PLACE: the place is that of the cell in the shard's list of copies
abbrev pub call_text : Call → List ℕ
call_text (Take instance item aim segment) = codes "take " ++ decimal instance ++ codes " " ++ decimal item ++ codes "\n"
call_text (Step instance) = codes "step " ++ decimal instance ++ codes "\n"
call_text (Crash instance) = codes "crash " ++ decimal instance ++ codes "\n"
call_text (Fail place) = codes "fail " ++ decimal place ++ codes "\n"

abbrev pub entry_text : Entry Call → List ℕ
entry_text entry = call_text entry.call

-- shard SHARD, and the lines of its calls
abbrev pub shard_text : ℕ → List (Entry Call) → List ℕ
shard_text shard history = codes "shard " ++ decimal shard ++ codes "\n" ++ flat_map entry_text history

-- the texts of shards with these histories, whose numbers begin with this one
abbrev pub shards_text : ℕ → List (List (Entry Call)) → List ℕ
shards_text shard [] = []
shards_text shard (history ∷ histories) = shard_text shard history ++ shards_text (shard + 1) histories

abbrev pub journal_text : List (List (Entry Call)) → List ℕ
journal_text histories = shards_text 0 histories
