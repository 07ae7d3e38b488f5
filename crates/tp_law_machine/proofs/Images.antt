-- The image of a node, read back: the node that the bytes spell.
use Rattle.std.proofs.Common.{◌≡◌, ℕ, ◌%◌, ◌^◌, ◌<◌, ◌≤◌, Bool, true, false, List, ◌++◌, length, take, drop, refl, sym, ap, subst, ◌∙◌, append_assoc, length-append, arith, Option, Some, None}
use Rattle.std.specs.Prelude.{not, ◌&&◌, ◌==◌, nat_le, flat_map, bytes_eq}
use Rattle.tp_law_machine.proofs.Lower.{AllByRecursion, take-append_seam, drop-append_seam, and_parts, leb-true, take-append-drop, cond_some, bytes_eq-Decides, from_le_bytes-to_le_bytes_2, from_le_bytes-to_le_bytes_4, Cpu, Fault, BadAddress, UnknownOp, LongPrefix, LinkBusy, State, NoneRuns, High, Low, OutEnd, InEnd, SLICE, bit, NodeState, out_end_bytes, in_end_bytes, out_end_at, in_end_at, ends_at, FitsOutEnd, FitsInEnd, words_of, image_head, image, halt_byte, halt_of, state_byte, state_of, cpu_at, node_at, is_memory, is_node, node_of, IsNode}
use Rattle.tp_law_machine.specs.NodeOfBytes.{HoldsByte, IsNodeOfBytes}
use Rattle.tp_law_machine.proofs.Numbers.{AreBytes, are_bytes-drop}
use Rattle.tp_law_machine.proofs.EndImages.{out_end_at-bytes, in_end_at-bytes, length-out_end, length-in_end, ends_back, length-ends, word_below, out_end_fits, in_end_fits, in_end_holds, ends_fit}

-- ## Single fields

halt_of-halt_byte : (halt : Option Fault) → halt_of (halt_byte halt) ≡ halt
halt_of-halt_byte None = refl
halt_of-halt_byte (Some BadAddress) = refl
halt_of-halt_byte (Some UnknownOp) = refl
halt_of-halt_byte (Some LongPrefix) = refl
halt_of-halt_byte (Some LinkBusy) = refl

state_of-state_byte : (state : State) → state_of (state_byte state) ≡ state
state_of-state_byte NoneRuns = refl
state_of-state_byte High = refl
state_of-state_byte Low = refl

flag-bit : (flag : Bool) → not (bit flag == 0) ≡ flag
flag-bit true = refl
flag-bit false = refl

-- ## The processor

abbrev cpu_of : ℕ → ℕ → ℕ → ℕ → ℕ → Bool → ℕ → ℕ → ℕ → ℕ → State → ℕ → Option Fault → Cpu
cpu_of iptr wptr a b c error high_front high_back low_front low_back state slice halt = record {
  iptr = iptr;
  wptr = wptr;
  regs = record { a = a; b = b; c = c; error = error };
  high = record { front = high_front; back = high_back };
  low = record { front = low_front; back = low_back };
  state = state;
  slice = slice;
  halt = halt;
}

same_cpu : (u : Cpu) (iptr wptr a b c : ℕ) (error : Bool) (high_front high_back low_front low_back : ℕ) (state : State) (slice : ℕ) (halt : Option Fault)
    → iptr ≡ u.iptr → wptr ≡ u.wptr → a ≡ u.regs.a → b ≡ u.regs.b → c ≡ u.regs.c → error ≡ u.regs.error
    → high_front ≡ u.high.front → high_back ≡ u.high.back → low_front ≡ u.low.front → low_back ≡ u.low.back
    → state ≡ u.state → slice ≡ u.slice → halt ≡ u.halt
    → cpu_of iptr wptr a b c error high_front high_back low_front low_back state slice halt ≡ u
same_cpu u iptr wptr a b c error high_front high_back low_front low_back state slice halt e0 e1 e2 e3 e4 e5 e6 e7 e8 e9 e10 e11 e12 =
    rw (e0, e1, e2, e3, e4, e5, e6, e7, e8, e9, e10, e11, e12) refl

-- the words of the head fit, and so does the slice count
cpu_back : (n : NodeState) → AllByRecursion (λ word. word < 2 ^ 32) (words_of n.cpu) → n.cpu.slice < 2 ^ 16 → cpu_at (image n) ≡ n.cpu
unfolding image image_head
cpu_back n (i, (w, (a, (b, (c, (hf, (hb, (lf, (lb, t))))))))) slice =
    same_cpu n.cpu _ _ _ _ _ _ _ _ _ _ _ _ _
    (from_le_bytes-to_le_bytes_4 n.cpu.iptr i) (from_le_bytes-to_le_bytes_4 n.cpu.wptr w)
    (from_le_bytes-to_le_bytes_4 n.cpu.regs.a a) (from_le_bytes-to_le_bytes_4 n.cpu.regs.b b) (from_le_bytes-to_le_bytes_4 n.cpu.regs.c c)
    (flag-bit n.cpu.regs.error)
    (from_le_bytes-to_le_bytes_4 n.cpu.high.front hf) (from_le_bytes-to_le_bytes_4 n.cpu.high.back hb)
    (from_le_bytes-to_le_bytes_4 n.cpu.low.front lf) (from_le_bytes-to_le_bytes_4 n.cpu.low.back lb)
    (state_of-state_byte n.cpu.state) (from_le_bytes-to_le_bytes_2 n.cpu.slice slice) (halt_of-halt_byte n.cpu.halt)

-- ## The whole image

module _ (n : NodeState) (links : (length n.outputs ≡ 4) × (length n.inputs ≡ 4)) where
  abbrev outs : List ℕ
  outs = flat_map out_end_bytes n.outputs

  abbrev inns : List ℕ
  inns = flat_map in_end_bytes n.inputs

  length-outs : length outs ≡ 64
  length-outs = omega (arith, length-ends FitsOutEnd out_end_bytes out_end_at out_end_at-bytes length-out_end n.outputs)

  length-inns : length inns ≡ 64
  length-inns = omega (arith, length-ends FitsInEnd in_end_bytes in_end_at in_end_at-bytes length-in_end n.inputs)

  behind_head : drop 44 (image n) ≡ outs ++ (inns ++ n.memory)
  unfolding image image_head
  behind_head = append_assoc outs inns n.memory

  behind_outputs : drop 108 (image n) ≡ inns ++ n.memory
  unfolding image image_head
  behind_outputs = ap (λ xs. drop 64 xs) (append_assoc outs inns n.memory)
      ∙ ap (λ k. drop k (outs ++ (inns ++ n.memory))) (sym length-outs) ∙ drop-append_seam outs (inns ++ n.memory)

  length-head : length (image_head n) ≡ 172
  unfolding image_head
  length-head = omega (arith, length-append outs inns, length-outs, length-inns)

  head_first : take 172 (image n) ≡ image_head n
  unfolding image
  head_first = ap (λ k. take k (image_head n ++ n.memory)) (sym length-head) ∙ take-append_seam (image_head n) n.memory

  memory_last : drop 172 (image n) ≡ n.memory
  unfolding image
  memory_last = ap (λ k. drop k (image_head n ++ n.memory)) (sym length-head) ∙ drop-append_seam (image_head n) n.memory

abbrev node_with : Cpu → List ℕ → List OutEnd → List InEnd → NodeState
node_with cpu memory outputs inputs = record { cpu = cpu; memory = memory; outputs = outputs; inputs = inputs }

same_node : (n : NodeState) (cpu : Cpu) (memory : List ℕ) (outputs : List OutEnd) (inputs : List InEnd)
    → cpu ≡ n.cpu → memory ≡ n.memory → outputs ≡ n.outputs → inputs ≡ n.inputs → node_with cpu memory outputs inputs ≡ n
same_node n cpu memory outputs inputs e0 e1 e2 e3 = rw (e0, e1, e2, e3) refl

-- the slice count of a node with an image
slice_fits : (n : NodeState) → is_node n ≡ true → n.cpu.slice < 2 ^ 16
unfolding is_node
slice_fits n h =
    let a = and_parts (is_memory n.memory) _ h in
    let b = and_parts (n.cpu.wptr % 4 == 0) _ a.1 in
    let c = and_parts (nat_le n.cpu.slice SLICE) _ b.1 in
    let most : n.cpu.slice ≤ 1024 = leb-true n.cpu.slice SLICE c.0 in
    omega arith

-- The image of a node with an image has that node's fields.
pub node_at-image : (n : NodeState) → IsNode n → node_at (image n) ≡ n
unfolding node_at
node_at-image n is =
    same_node n _ _ _ _ (cpu_back n is.words (slice_fits n is.keeps)) (memory_last n is.links)
    (rw (behind_head n is.links) (ap (λ k. ends_at out_end_at k (outs n is.links ++ (inns n is.links ++ n.memory))) (sym is.links.0)
    ∙ ends_back FitsOutEnd out_end_bytes out_end_at out_end_at-bytes length-out_end n.outputs (inns n is.links ++ n.memory) is.outputs))
    (rw (behind_outputs n is.links) (ap (λ k. ends_at in_end_at k (inns n is.links ++ n.memory)) (sym is.links.1)
    ∙ ends_back FitsInEnd in_end_bytes in_end_at in_end_at-bytes length-in_end n.inputs n.memory is.inputs))

-- The image of a node spells that node.
pub node_of-image : (n : NodeState) → IsNode n → node_of (image n) ≡ Some n
unfolding node_of
node_of-image n is =
    let same : bytes_eq (take 172 (image n)) (image_head n) ≡ true = (bytes_eq-Decides (take 172 (image n)) (image_head n)).1 (head_first n is.links) in
    rw (node_at-image n is, is.keeps, same) refl

-- Bytes that spell a node are its image.
from_head : (bytes : List ℕ) → take 172 bytes ≡ image_head (node_at bytes) → image (node_at bytes) ≡ bytes
unfolding image node_at
from_head bytes head = ap (λ xs. xs ++ drop 172 bytes) (sym head) ∙ take-append-drop 172 bytes

pub image-node_of : (bytes : List ℕ) (n : NodeState) → node_of bytes ≡ Some n → image n ≡ bytes
unfolding node_of
image-node_of bytes n e =
    let found = cond_some (is_node (node_at bytes) && bytes_eq (take 172 bytes) (image_head (node_at bytes))) (node_at bytes) n e in
    let head = (bytes_eq-Decides (take 172 bytes) (image_head (node_at bytes))).0 (and_parts (is_node (node_at bytes)) _ found.0).1 in
    ap image (sym found.1) ∙ from_head bytes head

-- ## Bytes that spell a node

node_at_is : (bytes : List ℕ) → AreBytes bytes → is_node (node_at bytes) ≡ true → IsNode (node_at bytes)
unfolding node_at ends_at
node_at_is bytes h keeps = record {
  keeps = keeps;
  links = (refl, refl);
  words =
      (word_below bytes h 4, (word_below bytes h 8, (word_below bytes h 12, (word_below bytes h 16, (word_below bytes h 20, (word_below bytes h 24, (word_below bytes h 28, (word_below bytes h 32, (word_below bytes h 36, tt)))))))));
  outputs = ends_fit FitsOutEnd out_end_at out_end_fits 4 (drop 44 bytes) (are_bytes-drop 44 bytes h);
  inputs = ends_fit FitsInEnd in_end_at in_end_fits 4 (drop 108 bytes) (are_bytes-drop 108 bytes h);
}

-- A node that bytes spell has an image.
pub is_node-node_of : (bytes : List ℕ) (n : NodeState) → AreBytes bytes → node_of bytes ≡ Some n → IsNode n
unfolding node_of
is_node-node_of bytes n h e =
    let found = cond_some (is_node (node_at bytes) && bytes_eq (take 172 bytes) (image_head (node_at bytes))) (node_at bytes) n e in
    subst IsNode found.1 (node_at_is bytes h (and_parts (is_node (node_at bytes)) _ found.0).0)

node_at_held : (bytes : List ℕ) → AreBytes bytes → AllByRecursion HoldsByte (node_at bytes).inputs
unfolding node_at ends_at
node_at_held bytes h = ends_fit HoldsByte in_end_at in_end_holds 4 (drop 108 bytes) (are_bytes-drop 108 bytes h)

node_at_memory : (bytes : List ℕ) → AreBytes bytes → AreBytes (node_at bytes).memory
unfolding node_at
node_at_memory bytes h = are_bytes-drop 172 bytes h

-- What it holds are bytes.
pub node_of_bytes : (bytes : List ℕ) (n : NodeState) → AreBytes bytes → node_of bytes ≡ Some n → IsNodeOfBytes n
unfolding node_of
node_of_bytes bytes n h e =
    let found = cond_some (is_node (node_at bytes) && bytes_eq (take 172 bytes) (image_head (node_at bytes))) (node_at bytes) n e in
    subst IsNodeOfBytes found.1 (record {
      image = node_at_is bytes h (and_parts (is_node (node_at bytes)) _ found.0).0;
      memory = node_at_memory bytes h;
      held = node_at_held bytes h;
    })
