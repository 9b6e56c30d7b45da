-- The faults of a line that has a form, after the lines before it.
use Rattle.std.specs.Prelude.{ℕ, Bool, true, false, ◌&&◌, not, ◌==◌, nat_lt, nat_le, List, [], ◌∷◌, fold, Option, Some, None, if◌then◌else◌}
use Rattle.std.specs.List.{list_any}
use Rattle.std.specs.Option.{is_some}
use Rattle.common.specs.Faults.{first}
use Rattle.script_text.specs.declared.line.Line.{Line}
use Rattle.script_text.specs.declared.line.Line.TheVariants.{Give, Crash, Back, Fail}
use Rattle.script_text.specs.declared.line.TheConstants.{LAST_ITEM, MOST_STEPS}
use Rattle.script_text.specs.declared.fault.ScriptFault.{ScriptFault}
use Rattle.script_text.specs.declared.fault.ScriptFault.TheVariants.{Range, Twice, Order}
use Rattle.script_text.specs.Lives.{given}

-- each number of the line is in its range, with so many instances and replicas
abbrev pub is_ranged : ℕ → ℕ → Line → Bool
is_ranged instances replicas (Give item instance) = nat_le item LAST_ITEM && nat_lt instance instances
is_ranged instances replicas (Crash instance item after) = nat_lt instance instances && nat_le item LAST_ITEM && nat_le after MOST_STEPS
is_ranged instances replicas (Back instance item) = nat_lt instance instances && nat_le item LAST_ITEM
is_ranged instances replicas (Fail replica item) = nat_lt replica replicas && nat_le item LAST_ITEM

-- a `fail` of this replica
abbrev pub fails : ℕ → Line → Bool
fails number (Fail replica item) = replica == number
fails number _ = false

-- a second `give` of one record, or a second `fail` of one replica
abbrev pub is_twice : List Line → Line → Bool
is_twice earlier (Give item instance) = is_some (given earlier item)
is_twice earlier (Fail replica item) = list_any (fails replica) earlier
is_twice earlier _ = false

-- a `crash` or `back` of this instance
abbrev pub turns : ℕ → Line → Bool
turns number (Crash instance item after) = instance == number
turns number (Back instance item) = instance == number
turns number _ = false

-- the last `crash` or `back` of this instance
abbrev pub last_turn : ℕ → List Line → Option Line
last_turn number lines = fold (λ last line. if turns number line then Some line else last) None lines

-- a `crash` may stand first, or after a `back` at a record that is not above its own
abbrev pub may_crash : Option Line → ℕ → Bool
may_crash None item = true
may_crash (Some (Back instance before)) item = nat_le before item
may_crash _ item = false

-- a `back` may stand after a `crash` at a record that is below its own
abbrev pub may_back : Option Line → ℕ → Bool
may_back (Some (Crash instance before after)) item = nat_lt before item
may_back _ item = false

-- a `crash` or `back` that may not stand after the last one of its instance
abbrev pub is_disordered : List Line → Line → Bool
is_disordered earlier (Crash instance item after) = not (may_crash (last_turn instance earlier) item)
is_disordered earlier (Back instance item) = not (may_back (last_turn instance earlier) item)
is_disordered earlier _ = false

-- the first fault of the line with this number, after the lines before it
abbrev pub fault_of : ℕ → ℕ → ℕ → List Line → Line → Option ScriptFault
fault_of number instances replicas earlier line =
    first ((not (is_ranged instances replicas line), Range number)
    ∷ (is_twice earlier line, Twice number)
    ∷ (is_disordered earlier line, Order number) ∷ [])
