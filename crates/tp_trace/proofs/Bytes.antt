-- Bytes of memory, read one behind the other.
use Rattle.std.proofs.Common.{◌≡◌, ◌∙◌, ◌+◌, ◌≤◌, ◌++◌, ◌∷◌, ℕ, List, [], length, take, drop, Some, None, slice_get, sym, ap, arith, append-nil}
use Rattle.tp_trace.proofs.Lower.{take-add, drop-drop, take-append-drop, take_all, bytes_from, no_bytes_from}

-- a byte more
pub one_more : (memory items : List ℕ) (first at byte : ℕ) → at ≡ first + length items → items ≡ take (length items) (drop first memory) → slice_get memory at ≡ Some byte
    → items ++ byte ∷ [] ≡ take (length items + 1) (drop first memory)
one_more memory items first at byte place is some =
    let here : drop (length items) (drop first memory) ≡ byte ∷ drop (at + 1) memory =
    drop-drop (length items) first memory ∙ ap (λ n. drop n memory) (sym place) ∙ bytes_from memory at byte some in
    sym (take-add (length items) 1 (drop first memory) ∙ ap (λ xs. take (length items) (drop first memory) ++ take 1 xs) here ∙ ap (λ xs. xs ++ byte ∷ []) (sym is))

-- no byte more
pub no_more : (memory items : List ℕ) (first at count : ℕ) → at ≡ first + length items → items ≡ take (length items) (drop first memory) → length items ≤ count → slice_get memory at ≡ None
    → items ≡ take count (drop first memory)
no_more memory items first at count place is few none =
    let all = drop first memory in
    let rest : drop (length items) all ≡ [] = drop-drop (length items) first memory ∙ ap (λ n. drop n memory) (sym place) ∙ no_bytes_from memory at none in
    let whole : items ≡ all = is ∙ sym (append-nil (take (length items) all)) ∙ ap (λ xs. take (length items) all ++ xs) (sym rest) ∙ take-append-drop (length items) all in
    let same = ap length whole in
    whole ∙ sym (take_all count all (omega (arith, same, few)))

-- a place on
pub next_place : (first at items now : ℕ) → at ≡ first + items → now ≡ items + 1 → at + 1 ≡ first + now
next_place first at items now place longer = omega (arith, place, longer)
