-- Whose the records of a trace are.
use Rattle.std.specs.Prelude.{◌≡◌, ℕ, ◌<◌, List, length, slice_index_or}
use Rattle.bench.specs.Prepared.{prepared_of}
use Rattle.bench.specs.declared.input.inputs.Inputs.{Inputs}
use Rattle.bench.specs.declared.input.prepared.Prepared.{Prepared}
use Rattle.bench.specs.declared.input.prepared.Prepared.TheVariants.{Ended, Work}
use Rattle.pcap_file.specs.declared.capture.Frame.{Frame}
use Rattle.run_threads.specs.declared.owner.Owner.{Owner}
use Rattle.run_threads.specs.declared.owner.Owner.TheVariants.{Nobody, Worker}

-- the worker of the instance that handles the record, or nobody where it has a verdict already
abbrev pub owner_of : Prepared → Owner
owner_of (Ended v) = Nobody v
owner_of (Work a segment instance shard) = Worker instance

-- the worker is one of so many
abbrev pub IsOneOf : ℕ → Owner → Type 0
IsOneOf instances (Nobody v) = Unit {0}
IsOneOf instances (Worker worker) = worker < instances

-- these are the owners of the records with these frames
pub record AreOwners (inputs : Inputs) (frames : List Frame) (owners : List Owner) : Type 0 where
  pub many : length owners ≡ length frames
  pub which : (item : ℕ) (who : Owner) (f : Frame) → item < length frames → slice_index_or owners item who ≡ owner_of (prepared_of inputs item (slice_index_or frames item f))
  pub there : (item : ℕ) (who : Owner) → item < length frames → IsOneOf inputs.setup.instances (slice_index_or owners item who)
