-- What bytes that are an image keep, and why others are none.
use Rattle.std.proofs.Common.{◌≡◌, ℕ, zero, suc, ◌+◌, ◌*◌, ◌<◌, ◌≤◌, true, false, List, [], ◌++◌, length, take, drop, Some, None, bytes_eq, refl, sym, ap, ◌∙◌, arith}
use Rattle.std.specs.Prelude.{◌&&◌}
use Rattle.tp_node.proofs.Lower.{cond_both, and_parts, eqb-true, leb-true, drop_all, drop_at, drop-append-le, get_or_append_left, length-drop, from_le_bytes, w16, w32, PAGE_BYTES, IMAGE_HEAD_BYTES, MIN_PAGES, MAX_PAGES, NodeState, u8_at, u16_at, u32_at, ends_at, out_end_at, in_end_at, transfer_at, cpu_at, page_count, image_head, node_at, is_node, node_of}
use Rattle.tp_node.specs.declared.head.Head.{Head}
use Rattle.tp_node.specs.StateWith.{state_with}

-- the node that the bytes spell, by its parts
pub node_at-parts : (bytes : List ℕ) (head : Head) → head.cpu ≡ cpu_at bytes → head.outputs ≡ ends_at out_end_at 4 (drop 44 bytes) → head.inputs ≡ ends_at in_end_at 4 (drop 108 bytes)
    → node_at bytes ≡ state_with head (drop IMAGE_HEAD_BYTES bytes)
unfolding node_at
node_at-parts bytes head cpu outputs inputs = rw (cpu, outputs, inputs) refl

-- bytes that are no image
pub node_of-short : (bytes : List ℕ) → length bytes < IMAGE_HEAD_BYTES → node_of bytes ≡ None
unfolding node_of node_at is_node
node_of-short bytes short =
    let empty : drop IMAGE_HEAD_BYTES bytes ≡ [] = drop_all IMAGE_HEAD_BYTES bytes (omega arith) in
    rw empty refl

pub node_of-unruly : (bytes : List ℕ) → is_node (node_at bytes) ≡ false → node_of bytes ≡ None
unfolding node_of
node_of-unruly bytes unruly = rw unruly refl

pub node_of-other_head : (bytes : List ℕ) → bytes_eq (take IMAGE_HEAD_BYTES bytes) (image_head (node_at bytes)) ≡ false → node_of bytes ≡ None
unfolding node_of
node_of-other_head bytes other =
    cond_both (is_node (node_at bytes) && bytes_eq (take IMAGE_HEAD_BYTES bytes) (image_head (node_at bytes))) (Some (node_at bytes)) None (λ o. o ≡ None)
    (λ both. let same = (and_parts (is_node (node_at bytes)) (bytes_eq (take IMAGE_HEAD_BYTES bytes) (image_head (node_at bytes))) both).1 in absurd (cc))
    (λ _. refl)

-- bytes that are one
pub node_of-image : (bytes : List ℕ) → is_node (node_at bytes) ≡ true → bytes_eq (take IMAGE_HEAD_BYTES bytes) (image_head (node_at bytes)) ≡ true → node_of bytes ≡ Some (node_at bytes)
unfolding node_of
node_of-image bytes ruly same = rw (ruly, same) refl

-- memory of a node that keeps the rules is whole pages, and not too many
pub record HasPages (memory : List ℕ) : Type 0 where
  pub whole : length memory ≡ PAGE_BYTES * page_count memory
  pub some : MIN_PAGES ≤ page_count memory
  pub few : page_count memory ≤ MAX_PAGES

pub has_pages : (n : NodeState) → is_node n ≡ true → HasPages n.memory
unfolding is_node
has_pages n ruly =
    let memory = n.memory in
    let parts = and_parts _ _ (and_parts _ _ ruly).0 in
    let bounds = and_parts _ _ parts.1 in
    record { whole = eqb-true _ _ parts.0; some = leb-true _ _ bounds.0; few = leb-true _ _ bounds.1 }

-- this is true of the memory of an image
pub image_pages : (bytes : List ℕ) (n : NodeState) → node_of bytes ≡ Some n → HasPages n.memory
unfolding node_of
image_pages bytes n =
    cond_both (is_node (node_at bytes) && bytes_eq (take IMAGE_HEAD_BYTES bytes) (image_head (node_at bytes))) (Some (node_at bytes)) None (λ o. o ≡ Some n → HasPages n.memory)
    (λ both is.
    let same : node_at bytes ≡ n = cc in
    has_pages n (ap is_node (sym same) ∙ (and_parts _ _ both).0))
    (λ _ is. absurd (cc))

-- ## A head with memory after it

-- what is in the front
u8_front : (front rest : List ℕ) (at : ℕ) → at < length front → u8_at (front ++ rest) at ≡ u8_at front at
u8_front front rest at lt = get_or_append_left front rest 0 at lt

u16_first : (front rest : List ℕ) → 2 ≤ length front → from_le_bytes w16 (front ++ rest) ≡ from_le_bytes w16 front
u16_first front rest le = rw (get_or_append_left front rest 0 0 (omega arith), get_or_append_left front rest 0 1 (omega arith)) refl

u32_first : (front rest : List ℕ) → 4 ≤ length front → from_le_bytes w32 (front ++ rest) ≡ from_le_bytes w32 front
u32_first front rest le =
    rw (get_or_append_left front rest 0 0 (omega arith), get_or_append_left front rest 0 1 (omega arith), get_or_append_left front rest 0 2 (omega arith), get_or_append_left front rest 0 3 (omega arith)) refl

u16_front : (front rest : List ℕ) (at : ℕ) → at + 2 ≤ length front → u16_at (front ++ rest) at ≡ u16_at front at
u16_front front rest at le =
    ap (from_le_bytes w16) (drop-append-le at front rest (omega arith)) ∙ u16_first (drop at front) rest (omega (arith, length-drop at front))

u32_front : (front rest : List ℕ) (at : ℕ) → at + 4 ≤ length front → u32_at (front ++ rest) at ≡ u32_at front at
u32_front front rest at le =
    ap (from_le_bytes w32) (drop-append-le at front rest (omega arith)) ∙ u32_first (drop at front) rest (omega (arith, length-drop at front))

transfer_front : (front rest : List ℕ) → 16 ≤ length front → transfer_at (front ++ rest) ≡ transfer_at front
transfer_front front rest le =
    rw (u32_front front rest 4 (omega arith), u32_front front rest 8 (omega arith), u32_front front rest 12 (omega arith)) refl

out_end_front : (front rest : List ℕ) → 16 ≤ length front → out_end_at (front ++ rest) ≡ out_end_at front
out_end_front front rest le = rw (u8_front front rest 0 (omega arith), transfer_front front rest le) refl

in_end_front : (front rest : List ℕ) → 16 ≤ length front → in_end_at (front ++ rest) ≡ in_end_at front
in_end_front front rest le =
    rw (u8_front front rest 0 (omega arith), u8_front front rest 1 (omega arith), u8_front front rest 2 (omega arith), transfer_front front rest le, u32_front front rest 4 (omega arith)) refl

ends_first : {End : Type 0} (end_at : List ℕ → End) → ((front rest : List ℕ) → 16 ≤ length front → end_at (front ++ rest) ≡ end_at front)
    → (count : ℕ) (front rest : List ℕ) → 16 * count ≤ length front → ends_at end_at count (front ++ rest) ≡ ends_at end_at count front
unfolding ends_at
ends_first end_at each zero front rest le = refl
ends_first end_at each (suc count) front rest le =
    rw (each front rest (omega arith), drop-append-le 16 front rest (omega arith), ends_first end_at each count (drop 16 front) rest (omega (arith, length-drop 16 front))) refl

ends_front : {End : Type 0} (end_at : List ℕ → End) → ((front rest : List ℕ) → 16 ≤ length front → end_at (front ++ rest) ≡ end_at front)
    → (front rest : List ℕ) (at : ℕ) → at + 64 ≤ length front → ends_at end_at 4 (drop at (front ++ rest)) ≡ ends_at end_at 4 (drop at front)
ends_front end_at each front rest at le =
    ap (ends_at end_at 4) (drop-append-le at front rest (omega arith)) ∙ ends_first end_at each 4 (drop at front) rest (omega (arith, length-drop at front))

cpu_front : (front rest : List ℕ) → 44 ≤ length front → cpu_at (front ++ rest) ≡ cpu_at front
cpu_front front rest le =
    rw (
      u32_front front rest 4 (omega arith),
      u32_front front rest 8 (omega arith),
      u32_front front rest 12 (omega arith),
      u32_front front rest 16 (omega arith),
      u32_front front rest 20 (omega arith),
      u32_front front rest 24 (omega arith),
      u32_front front rest 28 (omega arith),
      u32_front front rest 32 (omega arith),
      u32_front front rest 36 (omega arith),
      u8_front front rest 40 (omega arith),
      u8_front front rest 41 (omega arith),
      u16_front front rest 42 (omega arith),
      u8_front front rest 1 (omega arith),
    ) refl

-- the node that a head spells with memory after it, by its parts
pub node_at-front : (front memory : List ℕ) (head : Head) → length front ≡ IMAGE_HEAD_BYTES → head.cpu ≡ cpu_at front → head.outputs ≡ ends_at out_end_at 4 (drop 44 front) → head.inputs ≡ ends_at in_end_at 4 (drop 108 front)
    → node_at (front ++ memory) ≡ state_with head memory
node_at-front front memory head size cpu outputs inputs =
    node_at-parts (front ++ memory) head (cpu ∙ sym (cpu_front front memory (omega arith)))
    (outputs ∙ sym (ends_front out_end_at out_end_front front memory 44 (omega arith))) (inputs ∙ sym (ends_front in_end_at in_end_front front memory 108 (omega arith)))
    ∙ ap (state_with head) (drop_at front memory IMAGE_HEAD_BYTES size)
