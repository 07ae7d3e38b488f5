-- Writes leave the bytes of every page in which they write none.
use Rattle.std.proofs.Common.{◌≡◌, ℕ, zero, suc, ◌+◌, ◌-◌, ◌*◌, ◌%◌, ◌<◌, ◌≤◌, ◌⊎◌, inl, inr, Bool, true, false, ◌&&◌, cond, List, [], ◌∷◌, ◌++◌, length, Option, Some, None, get_or, take, drop, refl, sym, ap, subst, ◌∙◌, arith, ltb, eqb, min, append_assoc}
use Rattle.std.specs.Prelude.{slice_range, option_and_then}
use Rattle.tp_mem.proofs.Lower.{cond_both, ltb-true, lt-ltb, and_parts, or_parts, leb-true, ext_get_or, get_or-take, get_or-drop, length-take, length-take-le, length-drop, length-append, list_any-append, list_any, to_le_bytes, w32, PAGE_BYTES, offset, word_offset, set_byte, set_word, byte_stored, stored, is_inside, moved, copied, changed, touches, word_ranges, block_ranges, byte_ranges}
use Rattle.tp_mem.specs.After.{changed_after}
use Rattle.tp_mem.specs.Bytes.{byte_changed}
use Rattle.tp_mem.specs.Contents.{page_of}
use Rattle.tp_mem.proofs.Copies.{page_of-take}
use Rattle.tp_mem.proofs.Writes.{word_within, length-set_word}

pub record KeepsPages (ranges : List (ℕ × ℕ)) (before after : List ℕ) : Type 0 where
  pub long : length after ≡ length before
  pub page : (p : ℕ) → list_any (touches p) ranges ≡ false → page_of after p ≡ page_of before p

pub KeepsPages-then : (ranges others : List (ℕ × ℕ)) (before between after : List ℕ) → KeepsPages ranges before between → KeepsPages others between after → KeepsPages (ranges ++ others) before after
KeepsPages-then ranges others before between after one two = record {
  long = two.long ∙ one.long;
  page = λ p none. (let parts = or_parts (list_any (touches p) ranges) (list_any (touches p) others) (sym (list_any-append (touches p) ranges others) ∙ none) in two.page p parts.1 ∙ one.page p parts.0);
}

pub KeepsPages-none : (before : List ℕ) → KeepsPages [] before before
KeepsPages-none before = record { long = refl; page = λ p none. refl }

-- ---- some bytes in a place
behind : (memory ws : List ℕ) (j : ℕ) → length ws ≤ length memory → length ws ≤ j → get_or (ws ++ drop (length ws) memory) j 0 ≡ get_or memory j 0
behind memory [] j fits past = refl
behind [] (w ∷ ws) j fits past = absurd (omega arith)
behind (m ∷ memory) (w ∷ ws) zero fits past = absurd (omega arith)
behind (m ∷ memory) (w ∷ ws) (suc j) fits past = behind memory ws j (omega arith) (omega arith)

shifted : (at n j : ℕ) → (suc j < suc at) ⊎ (suc at + n ≤ suc j) → (j < at) ⊎ (at + n ≤ j)
shifted at n j (inl before) = inl (omega arith)
shifted at n j (inr past) = inr (omega arith)

outside : (memory ws : List ℕ) (at j : ℕ) → at + length ws ≤ length memory → (j < at) ⊎ (at + length ws ≤ j) → get_or (take at memory ++ (ws ++ drop (at + length ws) memory)) j 0 ≡ get_or memory j 0
outside memory ws zero j fits (inl before) = absurd (omega arith)
outside memory ws zero j fits (inr past) = let e : 0 + length ws ≡ length ws = omega arith in ap (λ n. get_or (ws ++ drop n memory) j 0) e ∙ behind memory ws j (omega arith) (omega arith)
outside [] ws (suc at) j fits side = absurd (omega arith)
outside (m ∷ memory) ws (suc at) zero fits side = refl
outside (m ∷ memory) ws (suc at) (suc j) fits side =
    let e : suc at + length ws ≡ suc (at + length ws) = omega arith in
    ap (λ n. get_or (take at memory ++ (ws ++ drop n (m ∷ memory))) j 0) e ∙ outside memory ws at j (omega arith) (shifted at (length ws) j side)

one_more : (j at : ℕ) → (j < at) ⊎ (at ≤ j) → (suc j < suc at) ⊎ (suc at ≤ suc j)
one_more j at (inl before) = inl (omega arith)
one_more j at (inr past) = inr (omega arith)

side_of : (j at : ℕ) → (j < at) ⊎ (at ≤ j)
side_of j zero = inr (omega arith)
side_of zero (suc at) = inl (omega arith)
side_of (suc j) (suc at) = one_more j at (side_of j at)

touched : (p at len : ℕ) → 0 < len → at < PAGE_BYTES * p + PAGE_BYTES → PAGE_BYTES * p < at + len → touches p (at, len) ≡ true
touched p at len some begins ends =
    ap (λ b. b && ltb at (PAGE_BYTES * p + PAGE_BYTES) && ltb (PAGE_BYTES * p) (at + len)) (lt-ltb 0 len some)
    ∙ ap (λ b. b && ltb (PAGE_BYTES * p) (at + len)) (lt-ltb at (PAGE_BYTES * p + PAGE_BYTES) begins) ∙ lt-ltb (PAGE_BYTES * p) (at + len) ends

within_second : (p at len j : ℕ) → touches p (at, len) ≡ false → PAGE_BYTES * p ≤ j → j < PAGE_BYTES * p + PAGE_BYTES → at ≤ j → (j < at + len) ⊎ (at + len ≤ j) → (j < at) ⊎ (at + len ≤ j)
within_second p at len j none low high from (inr past) = inr past
within_second p at len j none low high from (inl inside) = absurd (let so = touched p at len (omega arith) (omega arith) (omega arith) in cc)

within_first : (p at len j : ℕ) → touches p (at, len) ≡ false → PAGE_BYTES * p ≤ j → j < PAGE_BYTES * p + PAGE_BYTES → (j < at) ⊎ (at ≤ j) → (j < at) ⊎ (at + len ≤ j)
within_first p at len j none low high (inl before) = inl before
within_first p at len j none low high (inr from) = within_second p at len j none low high from (side_of j (at + len))

side_within : (p at len j : ℕ) → touches p (at, len) ≡ false → PAGE_BYTES * p ≤ j → j < PAGE_BYTES * p + PAGE_BYTES → (j < at) ⊎ (at + len ≤ j)
side_within p at len j none low high = within_first p at len j none low high (side_of j at)

length-splice : (memory ws : List ℕ) (at : ℕ) → at + length ws ≤ length memory → length (take at memory ++ (ws ++ drop (at + length ws) memory)) ≡ length memory
length-splice memory ws at fits =
    omega (arith, length-append (take at memory) (ws ++ drop (at + length ws) memory), length-append ws (drop (at + length ws) memory), length-take-le at memory (omega arith), length-drop (at + length ws) memory)

length-taken : (xs ys : List ℕ) → length xs ≡ length ys → length (take PAGE_BYTES xs) ≡ length (take PAGE_BYTES ys)
length-taken xs ys long = length-take PAGE_BYTES xs ∙ ap (min PAGE_BYTES) long ∙ sym (length-take PAGE_BYTES ys)

length-take-most : (xs : List ℕ) → length (take PAGE_BYTES xs) ≤ PAGE_BYTES
length-take-most xs = omega (arith, length-take PAGE_BYTES xs)

same_page : (after memory : List ℕ) (p : ℕ) → length after ≡ length memory → ((j : ℕ) → PAGE_BYTES * p ≤ j → j < PAGE_BYTES * p + PAGE_BYTES → get_or after j 0 ≡ get_or memory j 0) → take PAGE_BYTES (drop (PAGE_BYTES * p) after) ≡ take PAGE_BYTES (drop (PAGE_BYTES * p) memory)
same_page after memory p long same =
    ext_get_or 0 (take PAGE_BYTES (drop (PAGE_BYTES * p) after)) (take PAGE_BYTES (drop (PAGE_BYTES * p) memory))
    (length-taken (drop (PAGE_BYTES * p) after) (drop (PAGE_BYTES * p) memory) (omega (arith, length-drop (PAGE_BYTES * p) after, length-drop (PAGE_BYTES * p) memory)))
    (λ i within.
    let small : i < PAGE_BYTES = omega (arith, length-take-most (drop (PAGE_BYTES * p) after)) in
    get_or-take PAGE_BYTES (drop (PAGE_BYTES * p) after) i 0 small ∙ get_or-drop (PAGE_BYTES * p) after i 0 ∙ same (PAGE_BYTES * p + i) (omega arith) (omega arith)
    ∙ sym (get_or-drop (PAGE_BYTES * p) memory i 0) ∙ sym (get_or-take PAGE_BYTES (drop (PAGE_BYTES * p) memory) i 0 small))

pub KeepsPages-splice : (memory ws : List ℕ) (at : ℕ) → at + length ws ≤ length memory → KeepsPages ((at, length ws) ∷ []) memory (take at memory ++ (ws ++ drop (at + length ws) memory))
KeepsPages-splice memory ws at fits = record {
  long = length-splice memory ws at fits;
  page = λ p none. (
      let after = take at memory ++ (ws ++ drop (at + length ws) memory) in
      let apart = (or_parts (touches p (at, length ws)) false none).0 in
      page_of-take after p ∙ same_page after memory p (length-splice memory ws at fits) (λ j low high. outside memory ws at j fits (side_within p at (length ws) j apart low high)) ∙ sym (page_of-take memory p));
}

pub KeepsPages-set_byte : (memory : List ℕ) (at byte : ℕ) → at < length memory → KeepsPages ((at, 1) ∷ []) memory (set_byte memory at byte)
KeepsPages-set_byte memory at byte within = KeepsPages-splice memory (byte ∷ []) at (omega arith)

pub KeepsPages-set_word : (memory : List ℕ) (at word : ℕ) → at + 4 ≤ length memory → KeepsPages ((at, 4) ∷ []) memory (set_word memory at word)
KeepsPages-set_word memory at word within =
    subst (λ after. KeepsPages ((at, 4) ∷ []) memory after) (sym (append_assoc (take at memory) (to_le_bytes w32 word) (drop (at + 4) memory))) (KeepsPages-splice memory (to_le_bytes w32 word) at within)

pub KeepsPages-stored : (memory : List ℕ) (writes : List (ℕ × ℕ)) (after : List ℕ) → length memory % 4 ≡ 0 → stored memory writes ≡ Some after → KeepsPages (word_ranges writes) memory after
KeepsPages-stored memory [] after whole is = let e : memory ≡ after = cc in subst (λ m. KeepsPages [] memory m) e (KeepsPages-none memory)
KeepsPages-stored memory (write ∷ writes) after whole is =
    cond_both (ltb (word_offset write.0) (length memory)) (stored (set_word memory (word_offset write.0) write.1) writes) None (λ o. o ≡ Some after → KeepsPages (word_ranges (write ∷ writes)) memory after)
    (λ inside is.
    let within : word_offset write.0 < length memory = ltb-true (word_offset write.0) (length memory) inside in
    let fits = word_within write.0 (length memory) whole within in
    let here = set_word memory (word_offset write.0) write.1 in
    let whole_after : length here % 4 ≡ 0 = rw (length-set_word memory (word_offset write.0) write.1 fits) whole in
    KeepsPages-then ((word_offset write.0, 4) ∷ []) (word_ranges writes) memory here after (KeepsPages-set_word memory (word_offset write.0) write.1 fits) (KeepsPages-stored here writes after whole_after is))
    (λ _ is. absurd (cc))
    is

length-slice : (memory : List ℕ) (from count : ℕ) → from + count ≤ length memory → length (slice_range memory from (from + count)) ≡ count
length-slice memory from count fits =
    let size : from + count - from ≡ count = omega arith in
    ap (λ n. length (take n (drop from memory))) size ∙ length-take-le count (drop from memory) (omega (arith, length-drop from memory))

KeepsPages-moved : (memory : List ℕ) (to from count : ℕ) → to + count ≤ length memory → from + count ≤ length memory → KeepsPages ((to, count) ∷ []) memory (moved memory to from count)
KeepsPages-moved memory to from count fits fits_from =
    let ws = slice_range memory from (from + count) in
    let long = length-slice memory from count fits_from in
    subst (λ after. KeepsPages ((to, count) ∷ []) memory after) (sym (append_assoc (take to memory) ws (drop (to + count) memory)))
    (subst (λ n. KeepsPages ((to, n) ∷ []) memory (take to memory ++ (ws ++ drop (to + n) memory))) long (KeepsPages-splice memory ws to (omega (arith, long))))

elim_zero : (is_zero : Bool) (memory : List ℕ) (to from count : ℕ) → (is_zero ≡ false → KeepsPages ((offset to, count) ∷ []) memory (moved memory (offset to) (offset from) count))
    → KeepsPages (cond is_zero [] ((offset to, count) ∷ [])) memory (cond is_zero memory (moved memory (offset to) (offset from) count))
elim_zero true memory to from count goes = KeepsPages-none memory
elim_zero false memory to from count goes = goes refl

pub KeepsPages-copied : (memory : List ℕ) (to from count : ℕ) (after : List ℕ) → copied memory to from count ≡ Some after → KeepsPages (block_ranges to count) memory after
KeepsPages-copied memory to from count after =
    cond_both (is_inside memory to count && is_inside memory from count) (Some (cond (eqb count 0) memory (moved memory (offset to) (offset from) count))) None
    (λ o. o ≡ Some after → KeepsPages (block_ranges to count) memory after)
    (λ inside is.
    let both = and_parts (is_inside memory to count) (is_inside memory from count) inside in
    let here : cond (eqb count 0) memory (moved memory (offset to) (offset from) count) ≡ after = cc in
    subst (λ m. KeepsPages (block_ranges to count) memory m) here
    (elim_zero (eqb count 0) memory to from count
    (λ some. KeepsPages-moved memory (offset to) (offset from) count (leb-true _ _ (rw some at both.0)) (leb-true _ _ (rw some at both.1)))))
    (λ _ is. absurd (cc))

-- words after a first change
KeepsPages-words : (first : Option (List ℕ)) (ranges : List (ℕ × ℕ)) (memory : List ℕ) (writes : List (ℕ × ℕ)) (after : List ℕ) → length memory % 4 ≡ 0 → ((between : List ℕ) → first ≡ Some between → KeepsPages ranges memory between)
    → option_and_then (λ m. stored m writes) first ≡ Some after → KeepsPages (ranges ++ word_ranges writes) memory after
KeepsPages-words None ranges memory writes after whole keeps is = absurd (cc)
KeepsPages-words (Some between) ranges memory writes after whole keeps is =
    let one = keeps between refl in
    let whole_between : length between % 4 ≡ 0 = rw one.long whole in
    KeepsPages-then ranges (word_ranges writes) memory between after one (KeepsPages-stored between writes after whole_between is)

KeepsPages-byte_stored : (memory : List ℕ) (address byte : ℕ) (after : List ℕ) → byte_stored memory address byte ≡ Some after → KeepsPages (byte_ranges address) memory after
KeepsPages-byte_stored memory address byte after =
    cond_both (ltb (offset address) (length memory)) (Some (set_byte memory (offset address) byte)) None (λ o. o ≡ Some after → KeepsPages (byte_ranges address) memory after)
    (λ inside is.
    let here : set_byte memory (offset address) byte ≡ after = cc in
    subst (λ m. KeepsPages (byte_ranges address) memory m) here (KeepsPages-set_byte memory (offset address) byte (ltb-true (offset address) (length memory) inside)))
    (λ _ is. absurd (cc))

pub KeepsPages-byte_changed : (memory : List ℕ) (address byte : ℕ) (writes : List (ℕ × ℕ)) (after : List ℕ) → length memory % 4 ≡ 0 → byte_changed memory address byte writes ≡ Some after → KeepsPages (byte_ranges address ++ word_ranges writes) memory after
KeepsPages-byte_changed memory address byte writes after whole is = KeepsPages-words (byte_stored memory address byte) (byte_ranges address) memory writes after whole (KeepsPages-byte_stored memory address byte) is

pub KeepsPages-changed : (memory : List ℕ) (to from count : ℕ) (writes : List (ℕ × ℕ)) (after : List ℕ) → length memory % 4 ≡ 0 → changed memory to from count writes ≡ Some after → KeepsPages (block_ranges to count ++ word_ranges writes) memory after
KeepsPages-changed memory to from count writes after whole is = KeepsPages-words (copied memory to from count) (block_ranges to count) memory writes after whole (KeepsPages-copied memory to from count) is

KeepsPages-behind : (first : Option (List ℕ)) (ranges : List (ℕ × ℕ)) (memory : List ℕ) (to from count : ℕ) (writes : List (ℕ × ℕ)) (after : List ℕ) → length memory % 4 ≡ 0 → ((between : List ℕ) → first ≡ Some between → KeepsPages ranges memory between)
    → option_and_then (λ m. changed m to from count writes) first ≡ Some after → KeepsPages (ranges ++ (block_ranges to count ++ word_ranges writes)) memory after
KeepsPages-behind None ranges memory to from count writes after whole keeps is = absurd (cc)
KeepsPages-behind (Some between) ranges memory to from count writes after whole keeps is =
    let one = keeps between refl in
    let whole_between : length between % 4 ≡ 0 = rw one.long whole in
    KeepsPages-then ranges (block_ranges to count ++ word_ranges writes) memory between after one (KeepsPages-changed between to from count writes after whole_between is)

pub KeepsPages-changed_after : (memory : List ℕ) (first : ℕ × ℕ) (to from count : ℕ) (writes : List (ℕ × ℕ)) (after : List ℕ) → length memory % 4 ≡ 0 → changed_after memory first to from count writes ≡ Some after
    → KeepsPages (word_ranges (first ∷ []) ++ (block_ranges to count ++ word_ranges writes)) memory after
KeepsPages-changed_after memory first to from count writes after whole is =
    KeepsPages-behind (stored memory (first ∷ [])) (word_ranges (first ∷ [])) memory to from count writes after whole (λ between here. KeepsPages-stored memory (first ∷ []) between whole here) is
