-- The forms of the texts in a rules file.
use Rattle.std.specs.Prelude.{ℕ, Bool, ◌&&◌, ◌||◌, ◌==◌, nat_lt, nat_le, List, [], ◌∷◌, length, Option, Some, None, if◌then◌else◌}
use Rattle.std.specs.Char.{is_ascii_alphanumeric}
use Rattle.std.specs.Int.{w32, from_be_bytes}
use Rattle.std.specs.List.{list_all}
use Rattle.std.specs.Net.Reader.{read_ipv4}
use Rattle.std.specs.Option.{option_and_then}
use Rattle.std.specs.Result.{result_ok}
use Rattle.hex.specs.Hex.{decode_sized}

-- the text, if the test takes it
abbrev pub kept_if : (List ℕ → Bool) → List ℕ → Option (List ℕ)
kept_if test text = if test text then Some text else None

-- a letter, a digit, `-` or `_`
abbrev pub is_name_byte : ℕ → Bool
is_name_byte b = is_ascii_alphanumeric b || b == 45 || b == 95

-- the name of a server
abbrev pub is_server_name : List ℕ → Bool
is_server_name name = nat_lt 0 (length name) && nat_le (length name) 64 && list_all is_name_byte name

-- the address of octets behind which nothing is left
abbrev pub whole_address : List ℕ × List ℕ → Option ℕ
whole_address (octets, []) = Some (from_be_bytes w32 octets)
whole_address (octets, b ∷ rest) = None

-- the IPv4 address that a text writes: four decimal numbers below 256 without leading zeros, and dots between them
unfoldable pub address_of : List ℕ → Option ℕ
address_of text = option_and_then whole_address (read_ipv4 text)

-- the 32 bytes that 64 hex digits write
unfoldable pub secret_of : List ℕ → Option (List ℕ)
secret_of text = result_ok (decode_sized text 32)
