-- How bytes and words are printed in hexadecimal: by two capital digits, and by eight.
use Rattle.std.specs.Prelude.{ℕ, ◌-◌, ◌^◌, false, true, List, []}
use Rattle.std.specs.Fmt.{digits, format_spec, padded_integral}

abbrev pub hex_byte : ℕ → List ℕ
hex_byte n = padded_integral (format_spec 32 0 4 2 (2 ^ 64 - 1)) false [] (digits 16 true n)

abbrev pub hex_word : ℕ → List ℕ
hex_word n = padded_integral (format_spec 32 0 4 8 (2 ^ 64 - 1)) false [] (digits 16 true n)
