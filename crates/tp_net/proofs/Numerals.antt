-- Decimal numbers, read digit by digit.
use Rattle.std.proofs.Common.{◌≡◌, ℕ, zero, suc, ◌+◌, ◌-◌, ◌*◌, ◌<◌, Bool, true, false, cond, List, [], ◌∷◌, length, get_or, take, arith, Some, None}
use Rattle.std.specs.Prelude.{◌&&◌, ◌==◌, not, nat_le}
use Rattle.tp_net.proofs.Lower.{list_all, digits_value, digit_value, and_parts, and_right, leb-true, lt-leb, cond-false, digits_value_more, digit_value_digit, digits_value-take-le, MIN_PAGES, MAX_PAGES, is_page_count, is_digit, is_pages}

-- each byte of a numeral is a digit
pub list_all_at : {X : Type 0} (p : X → Bool) (xs : List X) (i : ℕ) (d : X) → list_all p xs ≡ true → i < length xs → p (get_or xs i d) ≡ true
list_all_at p [] i d h lt = absurd (omega arith)
list_all_at p (x ∷ xs) zero d h lt = (and_parts (p x) (list_all p xs) h).0
list_all_at p (x ∷ xs) (suc i) d h lt = list_all_at p xs i d (and_parts (p x) (list_all p xs) h).1 (omega arith)

-- one more digit
pub digits_value_next : (word : List ℕ) (i pages digit : ℕ) → list_all is_digit word ≡ true → i < length word → pages ≡ digits_value 10 (take i word)
    → digit ≡ get_or word i 0 - 48 → pages * 10 + digit ≡ digits_value 10 (take (i + 1) word)
digits_value_next word i pages digit h lt e d =
    let byte = get_or word i 0 in
    let parts = and_parts (nat_le 48 byte) (nat_le byte 57) (list_all_at is_digit word i 0 h lt) in
    let low = leb-true 48 byte parts.0 in
    let high = leb-true byte 57 parts.1 in
    let value : digit_value byte + 48 ≡ byte = digit_value_digit byte (omega arith, omega arith) in
    let more = digits_value_more 10 word i lt in
    omega (arith, value, more)

-- a front of the digits is too much already
pub not_pages : (word : List ℕ) (i : ℕ) → MAX_PAGES < digits_value 10 (take i word) → cond (is_pages word) (Some (digits_value 10 word)) None ≡ None
not_pages word i above =
    let value = digits_value 10 word in
    let more : MAX_PAGES < value = omega (arith, digits_value-take-le 10 word i (omega arith)) in
    let count : is_page_count value ≡ false = and_right (nat_le MIN_PAGES value) (nat_le value MAX_PAGES) (lt-leb value MAX_PAGES more) in
    cond-false (is_pages word) (Some value) None
    (and_right (list_all is_digit word) (not (get_or word 0 0 == 48) && is_page_count value) (and_right (not (get_or word 0 0 == 48)) (is_page_count value) count))
