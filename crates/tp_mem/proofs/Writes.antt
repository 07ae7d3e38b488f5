-- A write outside memory isn't possible; any other keeps the length. What holds of all memories is in `tp_law_machine`, and callers find it
-- here, too.
use Rattle.std.proofs.Common.{Bool, ◌≡◌, ℕ, ◌+◌, ◌%◌, ◌<◌, ◌≤◌, true, false, ◌&&◌, cond, List, [], ◌∷◌, length, Option, Some, None, ◌||◌, ltb, leb, eqb, refl, ap, ◌∙◌, arith}
use Rattle.std.specs.Prelude.{option_and_then, is_some}
use Rattle.tp_mem.proofs.Lower.{cond_both, ltb-true, lt-ltb, offset, word_offset, set_byte, set_word, byte_stored, stored, is_inside, moved, copied, changed}
use Rattle.tp_mem.specs.After.{changed_after}
use Rattle.tp_mem.specs.Bytes.{byte_changed}
use Rattle.tp_mem.specs.Ranges.{are_inside}
pub use Rattle.tp_law_machine.proofs.Writes.{word_within, length-set_word, length-set_byte, length-stored, length-byte_stored, length-copied, length-then, length-changed}

-- if a write is outside memory of n bytes, the writes aren't possible
pub stored_outside : (memory : List ℕ) (writes : List (ℕ × ℕ)) (n : ℕ) → length memory ≡ n → n % 4 ≡ 0 → are_inside n writes ≡ false → stored memory writes ≡ None
stored_outside memory [] n same whole out = cc
stored_outside memory (write ∷ writes) n same whole out =
    cond_both (ltb (word_offset write.0) (length memory)) (stored (set_word memory (word_offset write.0) write.1) writes) None (λ o. o ≡ None)
    (λ inside.
    let within : word_offset write.0 < n = omega (arith, ltb-true) in
    let fits : word_offset write.0 + 4 ≤ length memory = omega (arith, word_within write.0 n whole within) in
    let inside_n : ltb (word_offset write.0) n ≡ true = lt-ltb (word_offset write.0) n within in
    stored_outside (set_word memory (word_offset write.0) write.1) writes n (length-set_word memory (word_offset write.0) write.1 fits ∙ same) whole (rw inside_n at out))
    (λ _. refl)

-- writes outside memory give none, also after a first change that keeps its length
pub then_outside : (first : Option (List ℕ)) (writes : List (ℕ × ℕ)) (n : ℕ) → ((memory : List ℕ) → first ≡ Some memory → length memory ≡ n) → n % 4 ≡ 0 → are_inside n writes ≡ false → option_and_then (λ memory. stored memory writes) first ≡ None
then_outside None writes n keeps whole out = refl
then_outside (Some memory) writes n keeps whole out = stored_outside memory writes n (keeps memory refl) whole out

pub byte_changed_outside : (memory : List ℕ) (address byte : ℕ) (writes : List (ℕ × ℕ)) → length memory % 4 ≡ 0 → are_inside (length memory) writes ≡ false → byte_changed memory address byte writes ≡ None
byte_changed_outside memory address byte writes whole out = then_outside (byte_stored memory address byte) writes (length memory) (length-byte_stored memory address byte) whole out

pub changed_outside : (memory : List ℕ) (to from count : ℕ) (writes : List (ℕ × ℕ)) → length memory % 4 ≡ 0 → are_inside (length memory) writes ≡ false → changed memory to from count writes ≡ None
changed_outside memory to from count writes whole out = then_outside (copied memory to from count) writes (length memory) (length-copied memory to from count) whole out

is_some-cond : (b : Bool) (o : Option (List ℕ)) (rest : Bool) → (b ≡ true → is_some o ≡ rest) → is_some (cond b o None) ≡ (b && rest)
is_some-cond true o rest same = same refl
is_some-cond false o rest same = refl

-- writes are possible exactly if each goes to a word inside
pub is_some-stored : (memory : List ℕ) (writes : List (ℕ × ℕ)) → length memory % 4 ≡ 0 → is_some (stored memory writes) ≡ are_inside (length memory) writes
is_some-stored memory [] whole = refl
is_some-stored memory (write ∷ writes) whole =
    let after = set_word memory (word_offset write.0) write.1 in
    is_some-cond (ltb (word_offset write.0) (length memory)) (stored after writes) (are_inside (length memory) writes)
    (λ inside.
    let within : word_offset write.0 < length memory = ltb-true (word_offset write.0) (length memory) inside in
    let same = length-set_word memory (word_offset write.0) write.1 (word_within write.0 (length memory) whole within) in
    let whole_after : length after % 4 ≡ 0 = rw same whole in
    is_some-stored after writes whole_after ∙ ap (λ n. are_inside n writes) same)

-- a block and words that are inside can be written
pub is_some-changed : (memory : List ℕ) (to from count : ℕ) (writes : List (ℕ × ℕ)) → length memory % 4 ≡ 0 → is_inside memory to count ≡ true → is_inside memory from count ≡ true → are_inside (length memory) writes ≡ true
    → is_some (changed memory to from count writes) ≡ true
is_some-changed memory to from count writes whole inside_to inside_from inside =
    let after = cond (eqb count 0) memory (moved memory (offset to) (offset from) count) in
    let here : copied memory to from count ≡ Some after = rw (inside_to, inside_from) refl in
    let long = length-copied memory to from count after here in
    let whole_after : length after % 4 ≡ 0 = rw long whole in
    ap (λ o. is_some (option_and_then (λ m. stored m writes) o)) here ∙ is_some-stored after writes whole_after ∙ ap (λ n. are_inside n writes) long ∙ inside

pub is_some-byte_changed : (memory : List ℕ) (address byte : ℕ) (writes : List (ℕ × ℕ)) → length memory % 4 ≡ 0 → offset address < length memory → are_inside (length memory) writes ≡ true → is_some (byte_changed memory address byte writes) ≡ true
is_some-byte_changed memory address byte writes whole within inside =
    let after = set_byte memory (offset address) byte in
    let here : byte_stored memory address byte ≡ Some after = rw (lt-ltb (offset address) (length memory) within) refl in
    let long = length-byte_stored memory address byte after here in
    let whole_after : length after % 4 ≡ 0 = rw long whole in
    ap (λ o. is_some (option_and_then (λ m. stored m writes) o)) here ∙ is_some-stored after writes whole_after ∙ ap (λ n. are_inside n writes) long ∙ inside

pub is_inside-long : (memory after : List ℕ) (address count : ℕ) → length after ≡ length memory → is_inside after address count ≡ is_inside memory address count
is_inside-long memory after address count long = ap (λ n. (eqb count 0) || leb (offset address + count) n) long

pub is_some-changed_after : (memory : List ℕ) (first : ℕ × ℕ) (to from count : ℕ) (writes : List (ℕ × ℕ)) → length memory % 4 ≡ 0 → word_offset first.0 < length memory → is_inside memory to count ≡ true → is_inside memory from count ≡ true
    → are_inside (length memory) writes ≡ true → is_some (changed_after memory first to from count writes) ≡ true
is_some-changed_after memory first to from count writes whole within inside_to inside_from inside =
    let after = set_word memory (word_offset first.0) first.1 in
    let here : stored memory (first ∷ []) ≡ Some after = rw (lt-ltb (word_offset first.0) (length memory) within) refl in
    let long = length-set_word memory (word_offset first.0) first.1 (word_within first.0 (length memory) whole within) in
    let whole_after : length after % 4 ≡ 0 = rw long whole in
    ap (λ o. is_some (option_and_then (λ m. changed m to from count writes) o)) here
    ∙ is_some-changed after to from count writes whole_after (is_inside-long memory after to count long ∙ inside_to) (is_inside-long memory after from count long ∙ inside_from) (ap (λ n. are_inside n writes) long ∙ inside)

pub ruleset behind_a_word = (changed_outside, length-set_word, length-copied)
