-- Contents that are equal outside one range, and what a crash may leave as such contents.
use Rattle.std.proofs.Common.{◌≡◌, ℕ, ◌+◌, ◌-◌, ◌<◌, ◌≤◌, ◌⊎◌, inl, inr, List, [], ◌++◌, length, take, drop, get_or, refl, sym, ap, ◌∙◌, arith, min, length-append, length-drop}
use Rattle.tp_disk.proofs.Lower.{cases_lt, length-take, length-take-le, get_or_append_left, get_or-take, get_or-append_right, get_or-drop, get_or_past, same_number_lists, IsWithin, SameOutside, written}
use Rattle.tp_disk.proofs.Moments.{outside_inner}

-- ## The relation

pub same_refl : (at count : ℕ) (bytes : List ℕ) → SameOutside at count bytes bytes
same_refl at count bytes = record { same_length = refl; same = λ place out. refl }

pub same_sym : (at count : ℕ) (old new : List ℕ) → SameOutside at count old new → SameOutside at count new old
same_sym at count old new same = record { same_length = sym same.same_length; same = λ place out. sym (same.same place out) }

pub same_trans : (at count : ℕ) (old between new : List ℕ) → SameOutside at count old between → SameOutside at count between new → SameOutside at count old new
same_trans at count old between new one two = record {
  same_length = two.same_length ∙ one.same_length;
  same = λ place out. two.same place out ∙ one.same place out;
}

-- a range that contains the other one
pub same_wider : (outer inner : ℕ × ℕ) (old new : List ℕ) → IsWithin outer inner → SameOutside inner.0 inner.1 old new → SameOutside outer.0 outer.1 old new
same_wider outer inner old new inside same = record {
  same_length = same.same_length;
  same = λ place out. same.same place (outside_inner outer inner place inside out);
}

-- ## Parts

-- a part that has nothing of the range
pub same_apart : (at count : ℕ) (old new : List ℕ) (from size : ℕ) → SameOutside at count old new → (from + size ≤ at) ⊎ (at + count ≤ from)
    → take size (drop from new) ≡ take size (drop from old)
same_apart at count old new from size same apart =
    let drops : length (drop from new) ≡ length (drop from old) =
    length-drop from new ∙ ap (λ n. n - from) same.same_length ∙ sym (length-drop from old) in
    let sizes : length (take size (drop from new)) ≡ length (take size (drop from old)) =
    length-take size (drop from new) ∙ ap (min size) drops ∙ sym (length-take size (drop from old)) in
    same_number_lists (take size (drop from new)) (take size (drop from old)) sizes (λ k short.
    let k_low : k < size = let bound = length-take size (drop from new) in omega arith in
    get_or-take size (drop from new) k 0 k_low ∙ get_or-drop from new k 0
    ∙ same.same (from + k) (outside from size k k_low apart)
    ∙ sym (get_or-drop from old k 0) ∙ sym (get_or-take size (drop from old) k 0 k_low))
  where
    outside : (from size k : ℕ) → k < size → (from + size ≤ at) ⊎ (at + count ≤ from) → (from + k < at) ⊎ (at + count ≤ from + k)
    outside from size k low (inl before) = inl (omega arith)
    outside from size k low (inr behind) = inr (omega arith)

-- the range within all from a place on
pub same_dropped : (at count : ℕ) (old new : List ℕ) (from : ℕ) → SameOutside at count old new → from ≤ at
    → SameOutside (at - from) count (drop from old) (drop from new)
same_dropped at count old new from same low = record {
  same_length = length-drop from new ∙ ap (λ n. n - from) same.same_length ∙ sym (length-drop from old);
  same = λ place out. get_or-drop from new place 0 ∙ same.same (from + place) (outside place out) ∙ sym (get_or-drop from old place 0);
}
  where
    outside : (place : ℕ) → (place < at - from) ⊎ (at - from + count ≤ place) → (from + place < at) ⊎ (at + count ≤ from + place)
    outside place (inl before) = inl (omega arith)
    outside place (inr behind) = inr (omega arith)

-- the range within a front that has it
pub same_taken : (at count : ℕ) (old new : List ℕ) (n : ℕ) → SameOutside at count old new → SameOutside at count (take n old) (take n new)
same_taken at count old new n same = record {
  same_length = sizes;
  same = λ place out. elim (cases_lt place n) [
    | inl low ↦ get_or-take n new place 0 low ∙ same.same place out ∙ sym (get_or-take n old place 0 low)
    | inr high ↦ beyond (take n new) place (let bound = length-take n new in omega arith) ∙ sym (beyond (take n old) place (let bound = length-take n old in omega arith))
  ];
}
  where
    sizes : length (take n new) ≡ length (take n old)
    sizes = length-take n new ∙ ap (min n) same.same_length ∙ sym (length-take n old)

    beyond : (bytes : List ℕ) (place : ℕ) → length bytes ≤ place → get_or bytes place 0 ≡ 0
    beyond bytes place high = get_or_past bytes place 0 high

-- the range within a part that has it
pub same_in : (at count : ℕ) (old new : List ℕ) (from size : ℕ) → SameOutside at count old new → from ≤ at
    → SameOutside (at - from) count (take size (drop from old)) (take size (drop from new))
same_in at count old new from size same low = same_taken (at - from) count (drop from old) (drop from new) size (same_dropped at count old new from same low)

-- ## What is in the range

-- ## What a crash may leave

-- a place that was written
pub inside_written : (old : List ℕ) (at : ℕ) (bytes : List ℕ) (place : ℕ) → at + length bytes ≤ length old → at ≤ place → place < at + length bytes
    → get_or (written old at bytes) place 0 ≡ get_or bytes (place - at) 0
inside_written old at bytes place room low high =
    let front : length (take at old) ≡ at = length-take-le at old (omega arith) in
    let size : length (take at old ++ bytes) ≡ at + length bytes = omega (arith, length-append (take at old) bytes) in
    get_or_append_left (take at old ++ bytes) (drop (at + length bytes) old) 0 place (omega arith)
    ∙ get_or-append_right (take at old) bytes at place 0 front low
