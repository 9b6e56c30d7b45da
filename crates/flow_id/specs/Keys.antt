-- When two names are the same: their kinds are, and each of their fields is.
use Rattle.std.specs.Prelude.{Bool, true, false, ◌==◌, ◌&&◌}
use Rattle.flow_id.specs.declared.key.Flow.{Flow}
use Rattle.flow_id.specs.declared.key.Side.{Side}
use Rattle.flow_id.specs.declared.key.Side.TheVariants.{Client, Server}
use Rattle.flow_id.specs.declared.key.Key.{Key}
use Rattle.flow_id.specs.declared.key.Key.TheVariants.{Syn, Choice, Port, Open, Fin, Gone}

abbrev pub same_flow : Flow → Flow → Bool
same_flow a b = a.service == b.service && (a.address == b.address && (a.port == b.port && a.life == b.life))

abbrev pub same_side : Side → Side → Bool
same_side Client Client = true
same_side Server Server = true
same_side _ _ = false

abbrev pub same_key : Key → Key → Bool
same_key (Syn f) (Syn g) = same_flow f g
same_key (Choice f) (Choice g) = same_flow f g
same_key (Port v s p) (Port w t q) = v == w && (s == t && p == q)
same_key (Open f) (Open g) = same_flow f g
same_key (Fin f s) (Fin g t) = same_flow f g && same_side s t
same_key (Gone f) (Gone g) = same_flow f g
same_key _ _ = false
