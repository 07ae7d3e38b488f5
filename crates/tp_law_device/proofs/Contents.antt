-- Where the areas are, and which bytes their contents are.
use Rattle.std.proofs.Common.{◌≡◌, ℕ, ◌+◌, ◌-◌, ◌<◌, ◌≤◌, ◌⊎◌, inl, inr, Bool, true, false, not, List, ◌++◌, length, take, drop, get_or, refl, sym, ap, ◌∙◌, arith, length-take, length-drop}
use Rattle.tp_law_device.proofs.Lower.{take-take, take-append-drop, get_or-take, get_or-drop, same_number_lists, TwoAreas, area_start, content_of}
use Rattle.tp_law_device.proofs.Fronts.{SameFront, part_from, u64_front}
use Rattle.tp_law_device.proofs.Chosen.{age_in}

-- the two areas are side by side
pub places : (areas : TwoAreas) (second : Bool)
    → ((area_start areas second ≡ areas.first) × (area_start areas (not second) ≡ areas.first + areas.length)) ⊎ ((area_start areas second ≡ areas.first + areas.length) × (area_start areas (not second) ≡ areas.first))
places areas false = inl (refl, refl)
places areas true = inr (refl, refl)

pub length-content_of : (areas : TwoAreas) (second : Bool) (bytes : List ℕ) → area_start areas second + areas.length ≤ length bytes → length (content_of areas second bytes) ≡ areas.length - 1
length-content_of areas second bytes room =
    omega (arith, length-take (areas.length - 1) (drop (area_start areas second + 1) bytes), length-drop (area_start areas second + 1) bytes)

pub get_or-content_of : (areas : TwoAreas) (second : Bool) (bytes : List ℕ) (place : ℕ) → place < areas.length - 1
    → get_or (content_of areas second bytes) place 0 ≡ get_or bytes (area_start areas second + 1 + place) 0
get_or-content_of areas second bytes place low =
    get_or-take (areas.length - 1) (drop (area_start areas second + 1) bytes) place 0 low ∙ get_or-drop (area_start areas second + 1) bytes place 0

-- contents of devices that agree there
pub content_front : (areas : TwoAreas) (second : Bool) (bytes left : List ℕ) (n : ℕ) → n ≤ areas.length - 1 → length left ≡ length bytes
    → ((q : ℕ) → area_start areas second + 1 ≤ q → q < area_start areas second + 1 + n → get_or left q 0 ≡ get_or bytes q 0)
    → SameFront n (content_of areas second bytes) (content_of areas second left)
content_front areas second bytes left n le size each =
    let at = area_start areas second + 1 in
    let part = part_from at n bytes left (sym size) (λ q low high. sym (each q low high)) in
    record { same = take-take n (areas.length - 1) (drop at bytes) le ∙ part.same ∙ sym (take-take n (areas.length - 1) (drop at left) le) }

pub content_same : (areas : TwoAreas) (second : Bool) (bytes left : List ℕ) → length left ≡ length bytes
    → ((q : ℕ) → area_start areas second + 1 ≤ q → q < area_start areas second + 1 + (areas.length - 1) → get_or left q 0 ≡ get_or bytes q 0)
    → content_of areas second left ≡ content_of areas second bytes
content_same areas second bytes left size each =
    let part = part_from (area_start areas second + 1) (areas.length - 1) bytes left (sym size) (λ q low high. sym (each q low high)) in
    sym part.same

pub age_same : (areas : TwoAreas) (second : Bool) (bytes left : List ℕ) → 8 ≤ areas.length - 1 → length left ≡ length bytes
    → ((q : ℕ) → area_start areas second + 1 ≤ q → q < area_start areas second + 1 + 8 → get_or left q 0 ≡ get_or bytes q 0)
    → age_in areas left second ≡ age_in areas bytes second
age_same areas second bytes left le size each =
    sym (u64_front 0 8 (content_of areas second bytes) (content_of areas second left) (omega arith) (content_front areas second bytes left 8 le size each))

-- a list that has another one from a place on
pub drop_there : (xs front : List ℕ) (at : ℕ) → at + length front ≤ length xs → ((k : ℕ) → k < length front → get_or xs (at + k) 0 ≡ get_or front k 0)
    → drop at xs ≡ front ++ drop (length front) (drop at xs)
drop_there xs front at room each =
    let rest = drop at xs in
    let whole : length front ≤ length rest = omega (arith, length-drop at xs) in
    let same : take (length front) rest ≡ front =
    same_number_lists (take (length front) rest) front (omega (arith, length-take (length front) rest))
    (λ k lt.
    let low : k < length front = omega (arith, length-take (length front) rest) in
    get_or-take (length front) rest k 0 low ∙ get_or-drop at xs k 0 ∙ each k low) in
    sym (take-append-drop (length front) rest) ∙ ap (λ first. first ++ drop (length front) rest) same
