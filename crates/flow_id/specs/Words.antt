-- A flow and a key as words that a hasher takes in.
use Rattle.std.specs.Prelude.{ℕ, ◌+◌, ◌*◌, ◌^◌}
use Rattle.flow_id.specs.declared.key.Flow.{Flow}
use Rattle.flow_id.specs.declared.key.Key.{Key}
use Rattle.flow_id.specs.declared.key.Key.TheVariants.{Syn, Choice, Port, Open, Fin, Gone}
use Rattle.flow_id.specs.declared.key.Side.TheVariants.{Client, Server}

-- the service, the address and the port
abbrev pub flow_word : Flow → ℕ
flow_word flow = flow.service * 2 ^ 48 + flow.address * 2 ^ 16 + flow.port

-- the same and the life behind the kind of key; of a port its service, server and port
abbrev pub key_words : Key → ℕ × ℕ
key_words (Syn flow) = (flow_word flow, flow.life)
key_words (Choice flow) = (flow_word flow, flow.life + 65536)
key_words (Open flow) = (flow_word flow, flow.life + 131072)
key_words (Gone flow) = (flow_word flow, flow.life + 196608)
key_words (Fin flow Client) = (flow_word flow, flow.life + 262144)
key_words (Fin flow Server) = (flow_word flow, flow.life + 327680)
key_words (Port service server port) = (service * 2 ^ 48 + server * 2 ^ 16 + port, 393216)
