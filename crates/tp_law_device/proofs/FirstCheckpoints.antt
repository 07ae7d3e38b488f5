-- The first checkpoint of a device that was formatted, without an entry yet.
use Rattle.std.proofs.Common.{◌≡◌, ℕ, ◌+◌, ◌-◌, ◌≤◌, true, false, cond, List, [], ◌∷◌, ◌++◌, length, take, drop, refl, sym, ap, subst, ◌∙◌, arith, append_assoc, length-append, length-take, Some, Ok}
use Rattle.std.specs.Prelude.{nat_le, map}
use Rattle.tp_law_device.proofs.Lower.{AllByRecursion, and_parts, leb-true, drop_at, take-append-add, TwoAreas, GATE_CLOSED, Form, Turns, NodeState, t414, t414_ends, Machine, Network, own, put, taken, pushed, sent, process, after, chosen, made, pre, post, MarkedNetwork, WholeCut, count_in, network_in, whole, Act, acted, happens, written, IsWithin, Held, Topology, is_roomy, area_start, areas_end, content_of, is_open, front_bytes, groups_bytes, Opened, groups_place, opening, verdict, device_areas, other_start, other_is_open, spare_of, World, Acts, HasCut, copy_of, fresh, is_trim, has_four_links, never_marks, bind_some, CutInvariant, acted_holds, opened_holds, cut_network, start_stays, whole_holds, acts_run}
use Rattle.tp_law_device.specs.FormattedWorld.{formatted_world, WasFormatted}
use Rattle.tp_law_device.specs.Checkpoints.{HasCheckpoint, HasSnapshot}
use Rattle.tp_law_device.proofs.Wires.{HasShape, has_shape}
use Rattle.tp_law_device.proofs.SpeltCuts.{ReadsBack}
use Rattle.tp_law_device.proofs.SpeltAreas.{SpeltArea}
use Rattle.tp_law_device.proofs.Formattable.{length-front_bytes}
use Rattle.tp_law_device.proofs.Formatted.{start_reads_back, found, formatted_opens, formatted_begins}
use Rattle.tp_law_device.proofs.Checkpoints.{ReadsCopy, checkpoint_switches}

-- ## Acts

acts_start : {Node : Type 0} (M : Machine Node) (w v : MarkedNetwork Node) (acts : List Act) → AllByRecursion (λ act. is_trim act ≡ false) acts → acted M w acts ≡ Some v → v.start ≡ w.start
unfolding acted
acts_start M w v [] none e = let same : w ≡ v = cc in ap (λ (u : MarkedNetwork _). u.start) (sym same)
acts_start M w v (act ∷ acts) none e =
    let F = bind_some (happens M w act) (λ u. acted M u acts) v e in
    acts_start M F.0 v acts none.1 F.2 ∙ start_stays M w F.0 act none.0 F.1

-- a cut of no entry is where the book starts
none_copied : (net : MarkedNetwork NodeState) → CutInvariant t414 net → net.entries ≡ [] → (cut : WholeCut) (nodes : List NodeState) → HasCut net cut nodes
    → copy_of net 0 cut nodes ≡ record { network = net.start; entries = []; base = 0 }
unfolding chosen after
none_copied net H none cut nodes has =
    let C = whole_holds t414 has_four_links net H cut has.is in
    let first : after t414 net.start (pre (process net.start.wires (length net.start.nodes)) (count_in cut) []) ≡ Some C.consistent.state = ap (λ es. after t414 net.start (pre (process net.start.wires (length net.start.nodes)) (count_in cut) es)) (sym none) ∙ C.consistent.is in
    let state : net.start ≡ C.consistent.state = cc in
    let network : network_in net.start cut nodes ≡ net.start = cut_network t414 has_four_links net cut nodes C has.images ∙ sym state in
    let entries : post (process net.start.wires (length net.start.nodes)) (count_in cut) net.entries ≡ [] = ap (post (process net.start.wires (length net.start.nodes)) (count_in cut)) none in
    let none_in : cut.size ≡ 0 = C.size ∙ ap (λ es. length (pre (process net.start.wires (length net.start.nodes)) (count_in cut) es)) none in
    let size : 0 + cut.size ≡ 0 = omega arith in
    λ i. record { network = network i; entries = entries i; base = size i }

-- ## The device

module _ (t : Topology) (areas : TwoAreas) (form : Form) (given : List (List ℕ)) (s : Network NodeState) (bytes : List ℕ) (W : WasFormatted t areas form given s bytes) where
  shape : HasShape t
  shape = has_shape t W.topology

  back : ReadsBack t414_ends t 0 s
  back = start_reads_back t given s W.network shape

  abbrev o : Opened
  o = found t414 t areas form given s bytes W

  opens : opening t414 t414_ends bytes ≡ Ok o
  opens = formatted_opens t414 t areas form given s bytes W

  abbrev place : ℕ
  place = area_start areas true + 1

  abbrev front : List ℕ
  front = front_bytes t 2 Turns 0 s

  abbrev piece : List ℕ
  piece = front ++ GATE_CLOSED ∷ []

  size_piece : length piece ≡ groups_place t + 1
  size_piece = omega (arith, length-append front (GATE_CLOSED ∷ []), length-front_bytes t414_ends t shape 2 Turns 0 s back)

  long : areas_end areas ≤ length bytes
  long = leb-true (areas_end areas) (length bytes) (and_parts (nat_le (areas_end areas) (length bytes)) (is_roomy t areas.length) W.room).0

  wide : groups_place t + 2 ≤ areas.length
  wide = let room = leb-true _ _ (and_parts (nat_le (areas_end areas) (length bytes)) (is_roomy t areas.length) W.room).1 in omega arith

  closed : other_is_open o bytes ≡ false
  closed = ap (λ gate. is_open gate) W.format.closed_gate

  spare_is : device_areas.spare bytes ≡ (other_start o + 1, areas.length - 1)
  unfolding spare_of
  spare_is = (λ i. spare_of (opens i) bytes) ∙ (λ i. cond (closed i) (0, 0) (other_start o + 1, areas.length - 1))

  inside : IsWithin (device_areas.spare bytes) (place, length piece)
  inside = subst (λ spare. IsWithin spare (place, length piece)) (sym spare_is) (omega arith, omega (arith, size_piece, wide))

  -- what the other area's content is then
  abbrev behind : List ℕ
  behind = drop (place + length piece) bytes

  abbrev rest : List ℕ
  rest = take (areas.length - 1 - length piece) behind

  content_is : content_of areas true (written bytes place piece) ≡ front ++ (GATE_CLOSED ∷ rest)
  content_is =
      let first : length (take place bytes) ≡ place = omega (arith, length-take place bytes, long, wide) in
      let count : length piece + (areas.length - 1 - length piece) ≡ areas.length - 1 = omega (arith, size_piece, wide) in
      ap (λ xs. take (areas.length - 1) (drop place xs)) (append_assoc (take place bytes) piece behind)
      ∙ ap (take (areas.length - 1)) (drop_at (take place bytes) (piece ++ behind) place first)
      ∙ ap (λ n. take n (piece ++ behind)) (sym count)
      ∙ take-append-add piece behind (areas.length - 1 - length piece)
      ∙ append_assoc front (GATE_CLOSED ∷ []) rest

  spelt : SpeltArea t414 t414_ends t (content_of areas true (written bytes place piece)) 2 Turns 0 s [] s
  unfolding groups_bytes after
  spelt = record {
    gate = GATE_CLOSED;
    rest = rest;
    shut = refl;
    spelled = content_is;
    generation_fits = omega arith;
    cut = back;
    each = tt;
    of_form = tt;
    numbers = tt;
    last = omega arith;
    leads = refl;
  }

  -- ## The run

  pub first_checkpoint : (acts : List Act) → AllByRecursion (λ act. is_trim act ≡ false) acts → (net : MarkedNetwork NodeState) → acted t414 (fresh s) acts ≡ Some net → net.entries ≡ []
      → (cut : WholeCut) (nodes : List NodeState) → HasCut net cut nodes → HasCheckpoint s bytes net cut nodes
  unfolding verdict
  first_checkpoint acts none net is empty cut nodes has =
      let run = acts_run t414 device_areas (formatted_world s bytes) acts net none is in
      let w : World NodeState = record (formatted_world s bytes) { net = net; journal = run.0 } in
      let H = acted_holds t414 has_four_links never_marks (fresh s) net acts (opened_holds t414 (fresh s) (formatted_begins t414 t areas form given s bytes W)) is in
      let start = acts_start t414 (fresh s) net acts none is in
      let copy : copy_of net 0 cut nodes ≡ record { network = s; entries = []; base = 0 } =
      none_copied net H empty cut nodes has ∙ (λ i. record { network = start i; entries = []; base = 0 }) in
      let S : ReadsCopy w o ((place, piece) ∷ []) (copy_of net 0 cut nodes) 2 Turns =
      subst (λ (h : Held NodeState). ReadsCopy w o ((place, piece) ∷ []) h 2 Turns) (sym copy)
      (record { opens = opens; closed = closed; inside = (inside, tt); groups = []; now = s; spelt = spelt; entries = refl; later = omega arith }) in
      record {
        events = map Acts acts;
        w = w;
        run = run.1;
        book = refl;
        first = o;
        opens = opens;
        age = refl;
        switches = checkpoint_switches w cut nodes o ((place, piece) ∷ []) 2 Turns refl has S;
      }

-- ## One node

pub one_snapshot : (node : NodeState) → HasSnapshot node
unfolding own put taken pushed sent process chosen made whole happens acted
one_snapshot node = record { net = _; is = refl; none = refl; cut = _; has = record { is = refl; images = refl } }
