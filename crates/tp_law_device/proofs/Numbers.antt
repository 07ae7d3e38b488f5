-- The numbers of a tail.
use Rattle.std.proofs.Common.{◌≡◌, ℕ, ◌+◌, Bool, not, List, length, sym, ap, ◌∙◌}
use Rattle.std.specs.Prelude.{map, nat_lt}
use Rattle.tp_law_device.proofs.Lower.{Entry, NodeState, Network, length-map, process, pre, post, AreNumbered, WholeCut, count_in, chosen-map, numbered_outside, tail_of}

-- The numbers of a tail are numbers after the cut.
pub tail_numbered : (start : Network NodeState) (cut : WholeCut) (kept : List (Entry × ℕ)) (base : ℕ) → AreNumbered 0 base (map (λ (e : Entry × ℕ). e.1) kept)
    → AreNumbered 0 (base + length (pre (process start.wires (length start.nodes)) (count_in cut) (map (λ (e : Entry × ℕ). e.0) kept))) (map (λ (e : Entry × ℕ). e.1) (tail_of start cut kept))
tail_numbered start cut kept base h =
    let of : Entry × ℕ → ℕ = λ e. process start.wires (length start.nodes) e.0 in
    let inside : ℕ → ℕ → Bool = λ p n. nat_lt n (count_in cut p) in
    let none : ℕ → ℕ = λ p. 0 in
    let same : length (pre (process start.wires (length start.nodes)) (count_in cut) (map (λ (e : Entry × ℕ). e.0) kept)) ≡ length (pre of (count_in cut) kept) =
    ap length (chosen-map (process start.wires (length start.nodes)) (λ (e : Entry × ℕ). e.0) inside none kept) ∙ length-map (pre of (count_in cut) kept) (λ (e : Entry × ℕ). e.0) in
    numbered_outside (λ (e : Entry × ℕ). e.1) of (count_in cut) kept base (length (pre (process start.wires (length start.nodes)) (count_in cut) (map (λ (e : Entry × ℕ). e.0) kept))) h (sym same)

-- Its entries are those outside the cut.
pub tail_entries : (start : Network NodeState) (cut : WholeCut) (kept : List (Entry × ℕ)) → map (λ (e : Entry × ℕ). e.0) (tail_of start cut kept) ≡ post (process start.wires (length start.nodes)) (count_in cut) (map (λ (e : Entry × ℕ). e.0) kept)
tail_entries start cut kept = sym (chosen-map (process start.wires (length start.nodes)) (λ (e : Entry × ℕ). e.0) (λ p n. not (nat_lt n (count_in cut p))) (λ p. 0) kept)
