-- One counter for each kind of call.
use Rattle.std.specs.Prelude.{ℕ, Bool, true, false}
use Rattle.common.specs.Causes.{risen}
use Rattle.shelf.specs.declared.counters.Counters.{Counters}
use Rattle.shelf.specs.declared.outside.Kind.{Kind}
use Rattle.shelf.specs.declared.outside.Kind.TheVariants.{Reading, Writing}

-- what a kind's counter shows
abbrev pub count_of : Counters → Kind → ℕ
count_of c Reading = c.reading
count_of c Writing = c.writing

-- the counters after a call of this kind, by whether it failed
abbrev pub counted : Bool → Kind → Counters → Counters
counted false kind c = c
counted true Reading c = record { reading = risen c.reading; writing = c.writing }
counted true Writing c = record { reading = c.reading; writing = risen c.writing }
