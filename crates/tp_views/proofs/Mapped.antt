-- Reading a map.
use Rattle.std.proofs.Common.{◌≡◌, ℕ, ◌+◌, ◌-◌, ◌<◌, ◌≤◌, ◌^◌, Bool, true, false, cond, List, [], ◌∷◌, length, take, drop, get_or, refl, sym, ap, subst, ◌∙◌, arith, inl, inr, Option, Some, None, Result, Ok, Err, length-drop}
use Rattle.std.specs.Prelude.{◌&&◌, ◌==◌, IfErr, IfSome, nat_le, position}
use Rattle.tp_views.proofs.Lower.{Bor, digit_value, list_all, IsAscii, IsUtf8, is_utf8, AllDigits, IsNumeral, ParsesUnsigned, digits_value, without_leading_plus, and_parts, and_right, cases_lt, cond-true, cond-false, eqb-true, leb-true, or_cases, nat_tests, digits_value-lt, get_or_past, take_all, IsUtf8-from_ascii, IsUtf8-from_is_utf8, is_utf8-from_IsUtf8, ◌>>=◌, is_digit, list_all_at}
use Rattle.tp_views.specs.declared.maps.MapFault.{MapFault}
use Rattle.tp_views.specs.declared.maps.MapFault.TheVariants.{Line, Memory}
use Rattle.tp_views.specs.Maps.{IsMapFault, Row, after_line, after_lines, cut_row, is_address, is_hex_digit, is_plain, is_text, line_row, row_if}

-- ## Addresses

hex_bounds : (byte : ℕ) → is_hex_digit byte ≡ true → (byte < 128) × (digit_value byte < 16) × (44 ≤ byte)
hex_bounds byte h = elim (or_cases (is_digit byte) (nat_le 65 byte && nat_le byte 70) h) [
  | inl digit ↦
      let parts = and_parts (nat_le 48 byte) (nat_le byte 57) digit in
      let low = leb-true 48 byte parts.0 in
      let high = leb-true byte 57 parts.1 in
      (omega arith, grind (arith, nat_tests), omega arith)
  | inr letter ↦
      let parts = and_parts (nat_le 65 byte) (nat_le byte 70) letter in
      let low = leb-true 65 byte parts.0 in
      let high = leb-true byte 70 parts.1 in
      (omega arith, grind (arith, nat_tests), omega arith)
]

hex_ascii : (word : List ℕ) → list_all is_hex_digit word ≡ true → IsAscii word
hex_ascii word h i = elim (cases_lt i (length word)) [
  | inl lt ↦ (hex_bounds (get_or word i 0) (list_all_at is_hex_digit word i 0 h lt)).0
  | inr past ↦ omega (arith, get_or_past word i 0 past)
]

hex_digits : (word : List ℕ) → list_all is_hex_digit word ≡ true → AllDigits 16 word
hex_digits [] h = tt
hex_digits (byte ∷ word) h =
    let parts = and_parts (is_hex_digit byte) (list_all is_hex_digit word) h in
    ((hex_bounds byte parts.0).1, hex_digits word parts.1)

address_parts : (word : List ℕ) → is_address word ≡ true → (length word ≡ 8) × (list_all is_hex_digit word ≡ true)
address_parts word h =
    let parts = and_parts (length word == 8) (list_all is_hex_digit word) h in
    (eqb-true (length word) 8 parts.0, parts.1)

-- an address is text
pub IsUtf8-address : (word : List ℕ) → is_address word ≡ true → IsUtf8 word
IsUtf8-address word h = IsUtf8-from_ascii word (hex_ascii word (address_parts word h).1)

-- it has no sign
bare : (word : List ℕ) → is_address word ≡ true → without_leading_plus word ≡ word
bare [] h = refl
bare (byte ∷ word) h =
    let parts = and_parts (is_hex_digit byte) (list_all is_hex_digit word) (address_parts (byte ∷ word) h).1 in
    let above = (hex_bounds byte parts.0).2 in
    let other : (byte == 43) ≡ false = grind (arith, nat_tests) in
    ap (λ b. drop (cond b 1 0) (byte ∷ word)) other

small : (word : List ℕ) → is_address word ≡ true → digits_value 16 word < 2 ^ 32
small word h =
    let parts = address_parts word h in
    let below : digits_value 16 word < 16 ^ length word = digits_value-lt 16 word (hex_digits word parts.1) in
    let P : ℕ → Type 0 = λ n. digits_value 16 word < 16 ^ n in
    subst P parts.0 below

-- what reading its digits gives
address_read : {E : Type 0} (word : List ℕ) (r : Result ℕ E) → is_address word ≡ true → ParsesUnsigned 32 16 word r → r ≡ Ok (digits_value 16 word)
address_read word (Ok n) h reads = ap Ok (reads.1 ∙ ap (digits_value 16) (bare word h))
address_read word (Err e) h reads =
    let parts = address_parts word h in
    let P : List ℕ → Type 0 = λ ds. IsNumeral 16 ds × (digits_value 16 ds < 2 ^ 32) in
    absurd (reads (subst P (sym (bare word h)) ((omega arith, hex_digits word parts.1), small word h)))

err-ok : {E : Type 0} (e : E) (n : ℕ) → Err e ≡ Ok n → ⊥
err-ok e n h = cc

pub unread : {E : Type 0} (word : List ℕ) (e : E) → is_address word ≡ true → ParsesUnsigned 32 16 word (Err e) → ⊥
unread word e h reads = err-ok e (digits_value 16 word) (address_read word (Err e) h reads)

-- ## Texts

pub text_of : (bytes text : List ℕ) → list_all is_plain bytes ≡ true → text ≡ bytes → IsUtf8 bytes
    → Some text ≡ cond (is_text bytes) (Some bytes) None
text_of bytes text plain is utf8 =
    ap Some is ∙ sym (cond-true (is_text bytes) (Some bytes) None (ap (λ b. b && is_utf8 bytes) plain ∙ is_utf8-from_IsUtf8 bytes utf8))

no_text_of : (bytes : List ℕ) (b : Bool) → is_utf8 bytes ≡ b → (IsUtf8 bytes → ⊥) → cond (list_all is_plain bytes && b) (Some bytes) None ≡ None
no_text_of bytes true e none = absurd (none (IsUtf8-from_is_utf8 bytes e))
no_text_of bytes false e none = cond-false (list_all is_plain bytes && false) (Some bytes) None (and_right (list_all is_plain bytes) false refl)

pub no_text : (bytes : List ℕ) → (IsUtf8 bytes → ⊥) → None ≡ cond (is_text bytes) (Some bytes) None
no_text bytes none = sym (no_text_of bytes (is_utf8 bytes) refl none)

-- ## Lines

-- a line with a space after its address
pub line_cut : (line : List ℕ) → get_or line 8 0 ≡ 32 → line_row line ≡ cut_row (take 8 line) (drop 9 line) (position (λ byte. byte == 32) (drop 9 line))
line_cut line h =
    cond-true (get_or line 8 0 == 32) (cut_row (take 8 line) (drop 9 line) (position (λ byte. byte == 32) (drop 9 line))) None (ap (λ n. n == 32) h)

-- what is left of a list after its first elements
pub behind : (xs : List ℕ) (n : ℕ) → take (length xs - n) (drop n xs) ≡ drop n xs
behind xs n = take_all (length xs - n) (drop n xs) (omega (arith, length-drop n xs))

-- a line with no space after its name
pub row_none : (line : List ℕ) → get_or line 8 0 ≡ 32 → position (λ byte. byte == 32) (take (length line - 9) (drop 9 line)) ≡ None → None ≡ line_row line
row_none line space none =
    let p : ℕ → Bool = λ byte. byte == 32 in
    sym (line_cut line space ∙ ap (cut_row (take 8 line) (drop 9 line)) (ap (position p) (sym (behind line 9)) ∙ none))

-- a line with a space there
pub row_cut : (line rest : List ℕ) (at : ℕ) → get_or line 8 0 ≡ 32 → rest ≡ take (length line - 9) (drop 9 line) → position (λ byte. byte == 32) rest ≡ Some at
    → row_if (take 8 line) (take at rest) (take (length rest - (at + 1)) (drop (at + 1) rest)) ≡ line_row line
row_cut line rest at space is found =
    let p : ℕ → Bool = λ byte. byte == 32 in
    let same = is ∙ behind line 9 in
    ap (λ place. row_if (take 8 line) (take at rest) place) (behind rest (at + 1))
    ∙ ap (λ rest. row_if (take 8 line) (take at rest) (drop (at + 1) rest)) same
    ∙ sym (line_cut line space ∙ ap (cut_row (take 8 line) (drop 9 line)) (ap (position p) (sym same) ∙ found))

-- how many bytes are left, and 1 for the end that is before them
abbrev pub bytes_left : Option (Bor (List ℕ)) → ℕ
bytes_left None = 0
bytes_left (Some rest) = length rest.now + 1

-- fewer are left after a line
pub fewer : (rest : Option (Bor (List ℕ))) (text : Bor (List ℕ)) (left : Option (Bor (List ℕ))) (number total : ℕ) → rest ≡ Some text
    → IfSome left (λ more. length more.now < length text.now) → number + bytes_left rest ≤ total → number + 1 + bytes_left left ≤ total
fewer rest text None number total e h le = let f : bytes_left rest ≡ length text.now + 1 = ap bytes_left e in omega arith
fewer rest text (Some more) number total e h le = let f : bytes_left rest ≡ length text.now + 1 = ap bytes_left e in omega arith

-- nothing is left
pub lines_end : (rows : List Row) (number : ℕ) → after_lines rows number [] ≡ Ok rows
unfolding after_lines
lines_end rows number = refl

-- the first line has no fault
pub lines_more : (rows : List Row) (number : ℕ) (line : List ℕ) (rest : List (List ℕ)) (after : List Row)
    → after_line rows number line ≡ Ok after → after_lines rows number (line ∷ rest) ≡ after_lines after (number + 1) rest
unfolding after_lines
lines_more rows number line rest after h = ap (λ r. r >>= (λ next. after_lines next (number + 1) rest)) h

-- a fault of the first line is one of them all
pub fault_first : (rows : List Row) (number : ℕ) (line : List ℕ) (rest : List (List ℕ)) (fault : MapFault)
    → IsMapFault (after_line rows number line) fault → IsMapFault (after_lines rows number (line ∷ rest)) fault
unfolding after_lines
fault_first rows number line rest Memory h = tt
fault_first rows number line rest (Line n) h = ap (λ r. r >>= (λ after. after_lines after (number + 1) rest)) h

pub IfErr-fault : {T E : Type 0} (P : E → Type 0) (r : Result T E) (fault : E) → r ≡ Err fault → P fault → IfErr r P
IfErr-fault P r fault e h = subst (λ (r : Result _ _). IfErr r P) (sym e) h
