-- Ranges that are copied one after the other are copied as one.
use Rattle.std.proofs.Common.{◌≡◌, ℕ, ◌+◌, ◌≤◌, List, ◌++◌, length, take, drop, sym, ap, ◌∙◌, arith, length-drop}
use Rattle.tp_recover.proofs.Lower.{take-add, drop-drop, length-take-le, written_twice, written}
use Rattle.tp_recover.specs.Copies.{with_range}

-- a piece more
pub more_copied : (at done n : ℕ) (source old : List ℕ) → at + (done + n) ≤ length source → at ≤ length old
    → with_range (at + done) n source (with_range at done source old) ≡ with_range at (done + n) source old
more_copied at done n source old inside room =
    let first = take done (drop at source) in
    let second = take n (drop (at + done) source) in
    let size : length first ≡ done = length-take-le done (drop at source) (omega (arith, inside, length-drop at source)) in
    let behind : take n (drop done (drop at source)) ≡ second = ap (take n) (drop-drop done at source) in
    let whole : first ++ second ≡ take (done + n) (drop at source) =
    sym (take-add done n (drop at source) ∙ ap (λ xs. first ++ xs) behind) in
    ap (λ m. written (written old at first) (at + m) second) (sym size)
    ∙ written_twice old at first second room
    ∙ ap (λ xs. written old at xs) whole

-- a range grows by a piece, if the devices have these bytes
pub piece_copied : (at done n count : ℕ) (source then_source old mid new : List ℕ) → n ≡ count → then_source ≡ source → mid ≡ with_range at done source old
    → new ≡ with_range (at + done) n then_source mid → at + (done + count) ≤ length source → at ≤ length old
    → new ≡ with_range at (done + count) source old
piece_copied at done n count source then_source old mid new size kept was now inside room =
    now
    ∙ ap (λ m. with_range (at + done) m then_source mid) size
    ∙ ap (λ xs. with_range (at + done) count xs mid) kept
    ∙ ap (λ xs. with_range (at + done) count source xs) was
    ∙ more_copied at done count source old inside room
