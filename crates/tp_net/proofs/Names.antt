-- Names as text.
use Rattle.std.proofs.Common.{◌≡◌, ℕ, ◌<◌, true, List, length, get_or, inl, inr, arith}
use Rattle.std.specs.Prelude.{◌&&◌, ◌||◌, ◌==◌, nat_le}
use Rattle.tp_net.proofs.Lower.{list_all, IsUtf8, IsAscii, cases_lt, and_parts, or_cases, leb-true, eqb-true, get_or_past, IsUtf8-from_ascii, is_letter, is_digit, is_name_byte, is_name, MAX_NAME}
use Rattle.tp_net.proofs.Numerals.{list_all_at}

name_byte_below : (byte : ℕ) → is_name_byte byte ≡ true → byte < 128
name_byte_below byte h = elim (or_cases (is_letter byte) (is_digit byte || (byte == 45)) h) [
  | inl letter ↦ omega (arith, leb-true byte 122 (and_parts (nat_le 97 byte) (nat_le byte 122) letter).1)
  | inr other ↦ elim (or_cases (is_digit byte) (byte == 45) other) [
    | inl digit ↦ omega (arith, leb-true byte 57 (and_parts (nat_le 48 byte) (nat_le byte 57) digit).1)
    | inr dash ↦ omega (arith, eqb-true byte 45 dash)
  ]
]

name_ascii : (word : List ℕ) → list_all is_name_byte word ≡ true → IsAscii word
name_ascii word h i = elim (cases_lt i (length word)) [
  | inl lt ↦ name_byte_below (get_or word i 0) (list_all_at is_name_byte word i 0 h lt)
  | inr past ↦ omega (arith, get_or_past word i 0 past)
]

-- a name is text
pub IsUtf8-name : (word : List ℕ) → is_name word ≡ true → IsUtf8 word
IsUtf8-name word h =
    let rest = and_parts (is_letter (get_or word 0 0)) (nat_le (length word) MAX_NAME && list_all is_name_byte word) h in
    IsUtf8-from_ascii word (name_ascii word (and_parts (nat_le (length word) MAX_NAME) (list_all is_name_byte word) rest.1).1)
