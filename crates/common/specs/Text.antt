-- Numbers as the texts of reports, captures' dumps and messages write them.
use Rattle.std.specs.Prelude.{ℕ, ◌/◌, ◌%◌, ◌-◌, ◌^◌, false, List, [], ◌++◌, codes}
use Rattle.std.specs.Fmt.{decimal, digits, padded_integral, format_spec}

-- the lower-case hex digits of a number, with zeros in front up to this width
abbrev pub hex_digits : ℕ → ℕ → List ℕ
hex_digits width n = padded_integral (format_spec 32 0 4 width (2 ^ 64 - 1)) false [] (digits 16 false n)

-- an IPv4 address as four decimal numbers, the highest byte first (RFC 1123, 2.1)
abbrev pub dotted : ℕ → List ℕ
dotted address =
    decimal (address / 2 ^ 24) ++ codes "." ++ decimal (address / 2 ^ 16 % 256) ++ codes "."
    ++ decimal (address / 2 ^ 8 % 256) ++ codes "." ++ decimal (address % 256)

-- an end of a connection: its address, a colon and its port
abbrev pub end_text : ℕ → ℕ → List ℕ
end_text address port = dotted address ++ codes ":" ++ decimal port
