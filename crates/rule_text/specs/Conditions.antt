-- The conditions of a rule, as the code names them.
use Rattle.std.specs.Prelude.{ℕ, Bool, List, codes}
use Rattle.rule_table.specs.Forms.{is_host, is_path, is_cookie}
use Rattle.rule_text.specs.declared.forms.Condition.{Condition}
use Rattle.rule_text.specs.declared.forms.Condition.TheVariants.{Host, Path, Cookie}

-- the field of a condition
abbrev pub key_of : Condition → List ℕ
key_of Host = codes "host"
key_of Path = codes "path"
key_of Cookie = codes "cookie"

-- the texts that a condition may have
abbrev pub allows : Condition → List ℕ → Bool
allows Host = is_host
allows Path = is_path
allows Cookie = is_cookie
