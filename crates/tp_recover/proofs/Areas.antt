-- What is read of the fronts of areas.
use Rattle.std.proofs.Common.{◌≡◌, ℕ, ◌+◌, ◌-◌, ◌≤◌, List, take, drop, refl, sym, ap, ◌∙◌, arith, true, false, Bool, Ok}
use Rattle.tp_recover.proofs.Lower.{TwoAreas, Moment, u8_at, u64_at, area_start, content_of, generation_of, choice, chosen_area, Topology, AreaFront, area_front, front_given, u8_at-take, u32_at-take, u64_at-take, u8_at-drop, u64_at-drop}
use Rattle.tp_recover.specs.Reading.{found}

-- the front of the bytes that begin there
pub area_front-part : (start : ℕ) (xs : List ℕ) → area_front 0 (take 9 (drop start xs)) ≡ area_front start xs
area_front-part start xs =
    let gate : u8_at (take 9 (drop start xs)) 0 ≡ u8_at xs start = u8_at-take 9 0 (drop start xs) (omega arith) ∙ u8_at-drop start 0 start xs (omega arith) in
    let number : u64_at (take 9 (drop start xs)) 1 ≡ u64_at xs (start + 1) = u64_at-take 9 1 (drop start xs) (omega arith) ∙ u64_at-drop start 1 (start + 1) xs refl in
    rw (gate, number)

pub generation_of-content : (areas : TwoAreas) (second : Bool) (bytes : List ℕ) → 9 ≤ areas.length
    → generation_of (content_of areas second bytes) ≡ u64_at bytes (area_start areas second + 1)
generation_of-content areas second bytes le =
    u64_at-take (areas.length - 1) 0 (drop (area_start areas second + 1) bytes) (omega arith) ∙ u64_at-drop (area_start areas second + 1) 0 (area_start areas second + 1) bytes (omega arith)

-- the choice by the fronts of both areas
pub chosen_area-fronts : (areas : TwoAreas) (bytes : List ℕ) (first second : AreaFront) → 9 ≤ areas.length
    → first ≡ area_front (area_start areas false) bytes → second ≡ area_front (area_start areas true) bytes
    → chosen_area areas bytes ≡ choice (area_start areas true) first.is_open second.is_open first.generation second.generation
unfolding chosen_area
chosen_area-fronts areas bytes first second le is then_is =
    rw (is, then_is, generation_of-content areas false bytes le, generation_of-content areas true bytes le)

-- the choice by what was read of both areas, one after the other
pub chosen_area-read : (areas : TwoAreas) (here start : ℕ) (old new : Moment) (first second : AreaFront) → 9 ≤ areas.length
    → here ≡ area_start areas false → found (area_front here old.bytes) ≡ Ok first → new ≡ old
    → start ≡ area_start areas true → found (area_front start new.bytes) ≡ Ok second
    → chosen_area areas old.bytes ≡ choice start first.is_open second.is_open first.generation second.generation
chosen_area-read areas here start old new first second le before is kept at then_is =
    let one : first ≡ area_front (area_start areas false) old.bytes = cc in
    let other : second ≡ area_front (area_start areas true) old.bytes = cc in
    chosen_area-fronts areas old.bytes first second le one other ∙ ap (λ s. choice s first.is_open second.is_open first.generation second.generation) (sym at)

-- ## The fields before the images

front_given-take : (t : Topology) (at m : ℕ) (xs : List ℕ) → 20 ≤ m → front_given t at (take m xs) ≡ front_given t at xs
front_given-take t at m xs le = rw (u64_at-take m 0 xs (omega arith), u32_at-take m 8 xs (omega arith), u64_at-take m 12 xs (omega arith)) refl

-- the fields at the front, by what was read of a content
pub front_given-read : (t : Topology) (at : ℕ) (areas : TwoAreas) (second : Bool) (start : ℕ) (xs bytes : List ℕ) → 21 ≤ areas.length
    → start ≡ area_start areas second → bytes ≡ take 20 (drop (start + 1) xs) → front_given t at (content_of areas second xs) ≡ front_given t at bytes
front_given-read t at areas second start xs bytes le here read =
    front_given-take t at (areas.length - 1) (drop (area_start areas second + 1) xs) (omega arith)
    ∙ sym (front_given-take t at 20 (drop (area_start areas second + 1) xs) (omega arith))
    ∙ ap (λ s. front_given t at (take 20 (drop (s + 1) xs))) (sym here)
    ∙ ap (front_given t at) (sym read)
