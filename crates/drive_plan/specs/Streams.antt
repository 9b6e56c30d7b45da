-- What clients and servers write in a generated run.
use Rattle.std.specs.Prelude.{ℕ, ◌+◌, ◌%◌, List, ◌++◌, codes}
use Rattle.std.specs.Fmt.{decimal}

-- byte j of what a client writes behind its head
abbrev pub client_byte_at : ℕ → ℕ → ℕ
client_byte_at client j = (client + j) % 251

-- byte j of what a server writes
abbrev pub server_byte_at : ℕ → ℕ
server_byte_at j = j % 241

-- a client's request head (RFC 9112, 2.1)
abbrev pub head_text : ℕ → List ℕ
head_text client = codes "GET /" ++ decimal client ++ codes " HTTP/1.1\r\nHost: d.example\r\n\r\n"
