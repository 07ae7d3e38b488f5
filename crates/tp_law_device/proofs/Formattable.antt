-- A device that was formatted, for each topology and each network of images.
use Rattle.std.proofs.Common.{◌≡◌, ℕ, ◌+◌, ◌-◌, ◌^◌, ◌<◌, ◌≤◌, true, false, List, ◌∷◌, ◌++◌, length, take, drop, get_or, sym, ap, ◌∙◌, arith, append_assoc, length-append, Some}
use Rattle.std.specs.Prelude.{nat_le, flat_map, sum_by}
use Rattle.tp_law_device.proofs.Lower.{and_from, le-leb, leb-true, take_at, drop_at, drop-drop, get_or_at, length-replicate, TwoAreas, GATE_OPEN, GATE_CLOSED, zeros, Form, NodeState, image, Network, EndsSeen, t414_ends, Topology, is_topology, image_length, is_roomy, areas_end, gate_of, content_of, head_length, head_bytes, version_for, line_bytes, port_bytes, cut_bytes, front_bytes, groups_place, start_of}
use Rattle.tp_law_device.specs.FormattedWorld.{WasFormatted}
use Rattle.tp_law_device.proofs.Heads.{version_keeps}
use Rattle.tp_law_device.proofs.Wires.{HasShape, has_shape}
use Rattle.tp_law_device.proofs.FreshHeads.{length-head_bytes}
use Rattle.tp_law_device.proofs.SpeltCuts.{ReadsBack, length-images, length-lines, length-ports}
use Rattle.tp_law_device.proofs.Formatted.{start_reads_back}

-- the fields and the cut are as long as the place of the groups says
pub length-front_bytes : (E : EndsSeen NodeState) (t : Topology) (L : HasShape t) (generation : ℕ) (form : Form) (base : ℕ) (s : Network NodeState) → ReadsBack E t base s → length (front_bytes t generation form base s) ≡ groups_place t
unfolding front_bytes cut_bytes
length-front_bytes E t L generation form base s C =
    let images = flat_map image s.nodes in
    let lines = flat_map line_bytes s.lines in
    let ports = flat_map port_bytes s.ports in
    let a : length images ≡ sum_by image_length t.pages = length-images s.nodes C.nodes ∙ ap (sum_by image_length) C.pages in
    let b = length-lines t.wires s.lines C.lines in
    let c = length-ports base s.ports C.ports in
    omega (arith, length-append images (lines ++ ports), length-append lines ports, C.count, L.lines)

module _ (t : Topology) (areas : TwoAreas) (form : Form) (given : List (List ℕ)) (s : Network NodeState) (topology : is_topology t ≡ true) (roomy : is_roomy t areas.length ≡ true) (starts : areas.first ≡ head_length (version_for t))
    (low : areas.length < 2 ^ 64) (start : start_of t given ≡ Some s) where
  limits : HasShape t
  limits = has_shape t topology

  abbrev head : List ℕ
  head = head_bytes (version_for t) t areas

  abbrev front : List ℕ
  front = front_bytes t 1 form 0 s

  size_front : length front ≡ groups_place t
  size_front = length-front_bytes t414_ends t limits 1 form 0 s (start_reads_back t given s start limits)

  size_head : length head ≡ areas.first
  size_head = length-head_bytes (version_for t) t limits (version_keeps t topology) areas starts

  wide : groups_place t + 2 ≤ areas.length
  wide = let room = leb-true _ _ roomy in omega arith

  -- the first area's content, the second area, and all of it
  abbrev behind : List ℕ
  behind = zeros (areas.length - 2 - length front)

  abbrev content : List ℕ
  content = front ++ GATE_CLOSED ∷ behind

  abbrev second : List ℕ
  second = GATE_CLOSED ∷ zeros (areas.length - 1)

  abbrev device : List ℕ
  device = head ++ GATE_OPEN ∷ (content ++ second)

  size_content : length content ≡ areas.length - 1
  size_content = omega (arith, length-append front (GATE_CLOSED ∷ behind), length-replicate {A = ℕ} (areas.length - 2 - length front) 0, size_front, wide)

  size_device : length device ≡ areas_end areas
  size_device = omega (arith, length-append head (GATE_OPEN ∷ (content ++ second)), length-append content second, length-replicate {A = ℕ} (areas.length - 1) 0, size_head, size_content, wide)

  first_content : content_of areas false device ≡ content
  first_content =
      let past : drop (areas.first + 1) device ≡ content ++ second = sym (drop-drop 1 areas.first device) ∙ ap (drop 1) (drop_at head (GATE_OPEN ∷ (content ++ second)) areas.first size_head) in
      ap (take (areas.length - 1)) past ∙ take_at content second (areas.length - 1) size_content

  second_gate : gate_of areas true device ≡ GATE_CLOSED
  second_gate =
      let front_part = head ++ GATE_OPEN ∷ content in
      let size : length front_part ≡ areas.first + areas.length = omega (arith, length-append head (GATE_OPEN ∷ content), size_head, size_content, wide) in
      ap (λ xs. get_or xs (areas.first + areas.length) 0) (sym (append_assoc head (GATE_OPEN ∷ content) second)) ∙ get_or_at front_part GATE_CLOSED (zeros (areas.length - 1)) 0 (areas.first + areas.length) size

  pub formattable_with : (bytes : List ℕ) × WasFormatted t areas form given s bytes
  formattable_with = (
    device,
    record {
      topology = topology;
      room = and_from (nat_le (areas_end areas) (length device)) (is_roomy t areas.length) (le-leb (areas_end areas) (length device) (omega (arith, size_device))) roomy;
      area_fits = low;
      network = start;
      format = record {
        first = starts;
        head = take_at head (GATE_OPEN ∷ (content ++ second)) areas.first size_head;
        open_gate = get_or_at head GATE_OPEN (content ++ second) 0 areas.first size_head;
        closed_gate = second_gate;
        rest = behind;
        content = first_content;
      };
    },
  )

pub formattable : (t : Topology) (areas : TwoAreas) (form : Form) (given : List (List ℕ)) (s : Network NodeState) → is_topology t ≡ true → is_roomy t areas.length ≡ true → areas.first ≡ head_length (version_for t) → areas.length < 2 ^ 64
    → start_of t given ≡ Some s → (bytes : List ℕ) × WasFormatted t areas form given s bytes
formattable t areas form given s topology roomy starts low start = formattable_with t areas form given s topology roomy starts low start
