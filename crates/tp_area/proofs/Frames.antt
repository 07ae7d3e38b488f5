-- What stays when a range of an area's groups is written: the head, the gates, the generations, and the other content.
use Rattle.std.proofs.Common.{◌≡◌, ℕ, ◌+◌, ◌-◌, ◌≤◌, inl, inr, Bool, true, false, List, [], ◌∷◌, ◌++◌, length, take, drop, ap, ◌∙◌, arith, append_assoc, length-append}
use Rattle.tp_area.proofs.Lower.{drop_at, length-take-le, take-append-add, TwoAreas, AREA_HEAD_BYTES, BASE_BYTES, GATE_OPEN, SameOutside, written, area_start, gate_of, content_of, is_open, generation_of, chosen_area, choice, length-written, written_same_outside, same_wider, same_trans, same_apart, same_in}
use Rattle.tp_area.proofs.SameFront.{SameFront, front_of_range, u64_same}

-- ## Written bytes

pub drop_written : (old : List ℕ) (at : ℕ) (bytes : List ℕ) → at ≤ length old → drop at (written old at bytes) ≡ bytes ++ drop (at + length bytes) old
drop_written old at bytes room =
    ap (drop at) (append_assoc (take at old) bytes (drop (at + length bytes) old))
    ∙ drop_at (take at old) (bytes ++ drop (at + length bytes) old) at (length-take-le at old room)

pub drop_behind : (old : List ℕ) (at : ℕ) (bytes : List ℕ) → at ≤ length old → drop (at + length bytes) (written old at bytes) ≡ drop (at + length bytes) old
drop_behind old at bytes room =
    let size : length (take at old ++ bytes) ≡ at + length bytes = omega (arith, length-append (take at old) bytes, length-take-le at old room) in
    drop_at (take at old ++ bytes) (drop (at + length bytes) old) (at + length bytes) size

-- bytes after a gate, and then the gate
abbrev pub with_gate : List ℕ → ℕ → List ℕ → List ℕ
with_gate old gate body = written (written old (gate + 1) body) gate (GATE_OPEN ∷ [])

pub gate_same : (old : List ℕ) (gate : ℕ) (body : List ℕ) → gate + 1 + length body ≤ length old → SameOutside gate (1 + length body) old (with_gate old gate body)
gate_same old gate body room =
    let mid = written old (gate + 1) body in
    let size : length mid ≡ length old = length-written old (gate + 1) body room in
    let one : SameOutside (gate + 1) (length body) old mid = written_same_outside old (gate + 1) body room in
    let two : SameOutside gate 1 mid (with_gate old gate body) = written_same_outside mid gate (GATE_OPEN ∷ []) (omega arith) in
    let outer : ℕ × ℕ = (gate, 1 + length body) in
    same_trans gate (1 + length body) old mid (with_gate old gate body)
    (same_wider outer (gate + 1, length body) old mid (omega arith, omega arith) one)
    (same_wider outer (gate, 1) mid (with_gate old gate body) (omega arith, omega arith) two)

pub drop_gate : (old : List ℕ) (gate : ℕ) (body : List ℕ) → gate + 1 + length body ≤ length old
    → drop gate (with_gate old gate body) ≡ GATE_OPEN ∷ (body ++ drop (gate + 1 + length body) old)
drop_gate old gate body room =
    let mid = written old (gate + 1) body in
    let size : length mid ≡ length old = length-written old (gate + 1) body room in
    drop_written mid gate (GATE_OPEN ∷ []) (omega arith)
    ∙ ap (λ xs. GATE_OPEN ∷ xs) (drop_written old (gate + 1) body (omega arith))

-- and a front of it, that has the body
pub taken_gate : (m : ℕ) (body rest : List ℕ) → 1 + length body ≤ m → take m (GATE_OPEN ∷ (body ++ rest)) ≡ GATE_OPEN ∷ (body ++ take (m - (1 + length body)) rest)
taken_gate m body rest le =
    let k = m - (1 + length body) in
    let parts : m ≡ length (GATE_OPEN ∷ body) + k = omega arith in
    ap (λ n. take n (GATE_OPEN ∷ (body ++ rest))) parts ∙ take-append-add (GATE_OPEN ∷ body) rest k

-- ## The areas

-- where a range is that holds none of the areas' gates and generations: in the groups of this area
pub record InGroups (areas : TwoAreas) (second : Bool) (at count : ℕ) : Type 0 where
  pub behind : area_start areas second + AREA_HEAD_BYTES + BASE_BYTES ≤ at
  pub inside : at + count ≤ area_start areas second + areas.length

gate_stays : (areas : TwoAreas) (at count : ℕ) (second which : Bool) (old new : List ℕ) → InGroups areas second at count → SameOutside at count old new
    → gate_of areas which new ≡ gate_of areas which old
gate_stays areas at count false false old new lies same = same.same areas.first (inl (let low = lies.behind in omega arith))
gate_stays areas at count false true old new lies same = same.same (areas.first + areas.length) (inr (let high = lies.inside in omega arith))
gate_stays areas at count true false old new lies same = same.same areas.first (inl (let low = lies.behind in omega arith))
gate_stays areas at count true true old new lies same = same.same (areas.first + areas.length) (inl (let low = lies.behind in omega arith))

-- the area's own content, from its own first byte on
pub own_content_same : (areas : TwoAreas) (at count : ℕ) (second : Bool) (old new : List ℕ) → InGroups areas second at count → SameOutside at count old new
    → SameFront (at - (area_start areas second + 1)) (content_of areas second old) (content_of areas second new)
own_content_same areas at count second old new lies same =
    let from = area_start areas second + 1 in
    let low = lies.behind in
    front_of_range (at - from) count (content_of areas second old) (content_of areas second new)
    (same_in at count old new from (areas.length - 1) same (omega arith))

own_generation : (areas : TwoAreas) (at count : ℕ) (second : Bool) (old new : List ℕ) → InGroups areas second at count → SameOutside at count old new
    → generation_of (content_of areas second new) ≡ generation_of (content_of areas second old)
own_generation areas at count second old new lies same =
    let low = lies.behind in
    u64_same 0 (at - (area_start areas second + 1)) (content_of areas second old) (content_of areas second new) (omega arith) (own_content_same areas at count second old new lies same)

generation_stays : (areas : TwoAreas) (at count : ℕ) (second which : Bool) (old new : List ℕ) → InGroups areas second at count → SameOutside at count old new
    → generation_of (content_of areas which new) ≡ generation_of (content_of areas which old)
generation_stays areas at count false false old new lies same = own_generation areas at count false old new lies same
generation_stays areas at count false true old new lies same =
    ap generation_of (same_apart at count old new (areas.first + areas.length + 1) (areas.length - 1) same (inr (let high = lies.inside in omega arith)))
generation_stays areas at count true false old new lies same =
    ap generation_of (same_apart at count old new (areas.first + 1) (areas.length - 1) same (inl (let low = lies.behind in omega arith)))
generation_stays areas at count true true old new lies same = own_generation areas at count true old new lies same

pub chosen_stays : (areas : TwoAreas) (at count : ℕ) (second : Bool) (old new : List ℕ) → InGroups areas second at count → SameOutside at count old new
    → chosen_area areas new ≡ chosen_area areas old
unfolding chosen_area
chosen_stays areas at count second old new lies same =
    let other = area_start areas true in
    let g0 = gate_stays areas at count second false old new lies same in
    let g1 = gate_stays areas at count second true old new lies same in
    let n0 = generation_stays areas at count second false old new lies same in
    let n1 = generation_stays areas at count second true old new lies same in
    ap (λ g. choice other (is_open g) (is_open (gate_of areas true new)) (generation_of (content_of areas false new)) (generation_of (content_of areas true new))) g0
    ∙ ap (λ g. choice other (is_open (gate_of areas false old)) (is_open g) (generation_of (content_of areas false new)) (generation_of (content_of areas true new))) g1
    ∙ ap (λ n. choice other (is_open (gate_of areas false old)) (is_open (gate_of areas true old)) n (generation_of (content_of areas true new))) n0
    ∙ ap (λ n. choice other (is_open (gate_of areas false old)) (is_open (gate_of areas true old)) (generation_of (content_of areas false old)) n) n1
