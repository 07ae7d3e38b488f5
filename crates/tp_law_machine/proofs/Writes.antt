-- Writes to memory keep its length.
use Rattle.std.proofs.Common.{◌≡◌, ℕ, ◌+◌, ◌%◌, ◌<◌, ◌≤◌, true, cond, List, [], ◌∷◌, length, Option, Some, None, ltb, eqb, sym, refl, ap, ◌∙◌, arith, rules}
use Rattle.std.specs.Prelude.{◌&&◌, option_and_then}
use Rattle.tp_law_machine.proofs.Lower.{cond_both, ltb-true, leb-true, and_parts, common_steps, offset, word_offset, set_byte, set_word, byte_stored, stored, is_inside, moved, copied, changed}

-- a word that begins inside memory of whole words ends inside it
pub word_within : (address n : ℕ) → n % 4 ≡ 0 → word_offset address < n → word_offset address + 4 ≤ n
word_within address n whole within = omega arith

pub length-set_word : (memory : List ℕ) (at word : ℕ) → at + 4 ≤ length memory → length (set_word memory at word) ≡ length memory
length-set_word memory at word within = search (rules, common_steps)

pub length-set_byte : (memory : List ℕ) (at byte : ℕ) → at < length memory → length (set_byte memory at byte) ≡ length memory
length-set_byte memory at byte within = search (rules, common_steps)

pub length-moved : (memory : List ℕ) (to from count : ℕ) → to + count ≤ length memory → from + count ≤ length memory → length (moved memory to from count) ≡ length memory
length-moved memory to from count a b = search (rules, common_steps)

-- the memory that writes leave, if they are possible, is as long as it was
pub length-stored : (memory : List ℕ) (writes : List (ℕ × ℕ)) (after : List ℕ) → length memory % 4 ≡ 0 → stored memory writes ≡ Some after → length after ≡ length memory
length-stored memory [] after whole is = ap length (cc)
length-stored memory (write ∷ writes) after whole is =
    cond_both (ltb (word_offset write.0) (length memory)) (stored (set_word memory (word_offset write.0) write.1) writes) None (λ o. o ≡ Some after → length after ≡ length memory)
    (λ inside is.
    let within : word_offset write.0 < length memory = ltb-true (word_offset write.0) (length memory) inside in
    let same = length-set_word memory (word_offset write.0) write.1 (word_within write.0 (length memory) whole within) in
    let whole_after : length (set_word memory (word_offset write.0) write.1) % 4 ≡ 0 = rw same whole in
    length-stored (set_word memory (word_offset write.0) write.1) writes after whole_after is ∙ same)
    (λ _ is. absurd (cc))
    is

pub length-byte_stored : (memory : List ℕ) (address byte : ℕ) (after : List ℕ) → byte_stored memory address byte ≡ Some after → length after ≡ length memory
length-byte_stored memory address byte after =
    cond_both (ltb (offset address) (length memory)) (Some (set_byte memory (offset address) byte)) None (λ o. o ≡ Some after → length after ≡ length memory)
    (λ inside is.
    let same = length-set_byte memory (offset address) byte (ltb-true (offset address) (length memory) inside) in
    let here : set_byte memory (offset address) byte ≡ after = cc in
    ap length (sym here) ∙ same)
    (λ _ is. absurd (cc))

pub length-copied : (memory : List ℕ) (to from count : ℕ) (after : List ℕ) → copied memory to from count ≡ Some after → length after ≡ length memory
length-copied memory to from count after =
    cond_both (is_inside memory to count && is_inside memory from count) (Some (cond (eqb count 0) memory (moved memory (offset to) (offset from) count))) None
    (λ o. o ≡ Some after → length after ≡ length memory)
    (λ inside is.
    let both = and_parts (is_inside memory to count) (is_inside memory from count) inside in
    let here : cond (eqb count 0) memory (moved memory (offset to) (offset from) count) ≡ after = cc in
    ap length (sym here) ∙ cond_both (eqb count 0) memory (moved memory (offset to) (offset from) count) (λ m. length m ≡ length memory)
    (λ _. refl)
    (λ some. length-moved memory (offset to) (offset from) count (leb-true _ _ (rw some at both.0)) (leb-true _ _ (rw some at both.1))))
    (λ _ is. absurd (cc))

-- the length after a first change that keeps it
pub length-then : (first : Option (List ℕ)) (writes : List (ℕ × ℕ)) (n : ℕ) (after : List ℕ) → ((memory : List ℕ) → first ≡ Some memory → length memory ≡ n) → n % 4 ≡ 0 → option_and_then (λ memory. stored memory writes) first ≡ Some after → length after ≡ n
length-then None writes n after keeps whole is = absurd (cc)
length-then (Some memory) writes n after keeps whole is =
    let same = keeps memory refl in
    let whole_here : length memory % 4 ≡ 0 = rw same whole in
    length-stored memory writes after whole_here is ∙ same

pub length-changed : (memory : List ℕ) (to from count : ℕ) (writes : List (ℕ × ℕ)) (after : List ℕ) → length memory % 4 ≡ 0 → changed memory to from count writes ≡ Some after → length after ≡ length memory
length-changed memory to from count writes after whole is =
    length-then (copied memory to from count) writes (length memory) after (length-copied memory to from count) whole is
