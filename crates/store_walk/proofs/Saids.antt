-- What a walk says fits the key that it asks for.
use Rattle.std.proofs.Common.{ℕ, Bool, true, false, Option, Some, None}
use Rattle.std.specs.Prelude.{nat_lt, IfSome, IsTrue}
use Rattle.flow_id.specs.declared.key.Key.{Key}
use Rattle.flow_record.specs.Records.{asked_key, fits_key}
use Rattle.flow_record.specs.declared.record.Record.{Record}
use Rattle.replica_cell.specs.Walks.{CarriedFits, standing_by, standing}
use Rattle.replica_cell.specs.declared.walk.Walk.{Walk}
use Rattle.store_walk.specs.Steps.{SaidFits}

by : (k : Key) (left met : Bool) (o : Option Record) → IfSome o (λ r. IsTrue (fits_key k r)) → SaidFits k (standing_by left met o)
by k left true None fits = tt
by k true true (Some r) fits = tt
by k false true (Some r) fits = fits
by k true false o fits = tt
by k false false o fits = tt

pub said_fits : (count : ℕ) (w : Walk) → CarriedFits w → SaidFits (asked_key w.ask) (standing count w)
said_fits count w fits = by (asked_key w.ask) (nat_lt w.place count) w.met w.carried fits
