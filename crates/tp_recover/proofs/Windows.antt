-- What a window has of a device's bytes.
use Rattle.std.proofs.Common.{◌≡◌, ℕ, ◌+◌, ◌-◌, ◌≤◌, List, take, drop, sym, ap, ◌∙◌, arith}
use Rattle.std.proofs.lemmas.List.{drop-drop, drop-take, take-take}

-- a part of the first bytes is one of all
part_of_first : (from n count : ℕ) (bytes : List ℕ) → from + n ≤ count → take n (drop from (take count bytes)) ≡ take n (drop from bytes)
part_of_first from n count bytes within =
    let left : ℕ = count - from in
    let whole : count ≡ from + left = omega arith in
    ap (λ k. take n (drop from (take k bytes))) whole
    ∙ ap (take n) (drop-take from left bytes)
    ∙ take-take n left (drop from bytes) (omega arith)

-- what is in a window from a place on is there on the device
pub part_of_window : (from at n count : ℕ) (own bytes : List ℕ) → take count own ≡ take count (drop from bytes) → from ≤ at → at + n ≤ from + count
    → take n (drop (at - from) own) ≡ take n (drop at bytes)
part_of_window from at n count own bytes is behind within =
    let start : ℕ = at - from in
    let there : from + start ≡ at = omega arith in
    sym (part_of_first start n count own (omega arith))
    ∙ ap (λ xs. take n (drop start xs)) is
    ∙ part_of_first start n count (drop from bytes) (omega arith)
    ∙ ap (take n) (drop-drop start from bytes ∙ ap (λ k. drop k bytes) there)
