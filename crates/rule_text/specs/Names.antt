-- How a fault names a field: with its table before it, and arrays counted from 0.
use Rattle.std.specs.Prelude.{ℕ, List, ◌++◌, codes}
use Rattle.std.specs.Fmt.{decimal}
use Rattle.rule_text.specs.declared.fault.Place.{Place}
use Rattle.rule_text.specs.declared.fault.Place.TheVariants.{Top, Service, Server, Rule}

unfoldable pub field_name : Place → List ℕ → List ℕ
field_name Top key = key
field_name Service key = codes "service." ++ key
field_name (Server n) key = codes "server." ++ decimal n ++ codes "." ++ key
field_name (Rule n) key = codes "rule." ++ decimal n ++ codes "." ++ key
