-- What a step of an ask says, and what it leaves where it is taken back.
use Rattle.std.specs.Prelude.{IsTrue}
use Rattle.flow_id.specs.declared.key.Key.{Key}
use Rattle.flow_record.specs.Records.{fits_key}
use Rattle.replica_cell.specs.Cells.{CellView, taken_back}
use Rattle.replica_cell.specs.declared.walk.Stepped.{Stepped}
use Rattle.replica_cell.specs.declared.walk.Stepped.TheVariants.{Going, Decided, Absent, Down}

-- a decided record fits the key
abbrev pub SaidFits : Key → Stepped → Type 0
SaidFits k Going = Unit {0}
SaidFits k (Decided r) = IsTrue (fits_key k r)
SaidFits k Absent = Unit {0}
SaidFits k Down = Unit {0}

-- the cell without the pair of the key; its count of faults stays
abbrev pub view_taken_back : Key → CellView → CellView
view_taken_back k c = record { replica = taken_back k c.replica; faults = c.faults }
