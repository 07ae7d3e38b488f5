-- What a cut has that opening reads, each entry keeps.
use Rattle.std.proofs.Common.{◌≡◌, ℕ, ◌+◌, ◌*◌, ◌≤◌, List, [], ◌∷◌, length, ap, subst, ◌∙◌, arith, Some, true}
use Rattle.tp_law_device.proofs.Lower.{AllByRecursion, Entry, MAX_NODES, MAX_PORTS, NodeState, t414, t414_ends, Network, on_line, next, Sound, markers, after, Topology, is_topology, is_port_of, IsCut, HasByte, IsNodeOfBytes, has_four_links, keeps_flight, never_marks, all_at, next_shape, bind_some, step_markers, sound_kept}
use Rattle.tp_law_network.proofs.Local.{step_of}
use Rattle.tp_law_device.proofs.SpeltCuts.{pages_of}
use Rattle.tp_law_device.proofs.Wires.{has_shape}
use Rattle.tp_law_device.proofs.UnmarkedLines.{lines_unmarked}
use Rattle.tp_law_device.proofs.CutsAreSound.{cut_nodes, cut_wires, cut_lines, cut_sound}
use Rattle.tp_law_device.proofs.Nodes.{nodes_next}
use Rattle.tp_law_device.proofs.Ports.{PortsFit, port_fits, ports_next}

-- A network of this topology after `base` entries: sound, with no Marker, as many nodes and lines as it had, nodes of bytes
-- with their pages, and ports that fit.
pub record CutKeeps (t : Topology) (base : ℕ) (s : Network NodeState) : Type 0 where
  pub wires : s.wires ≡ t.wires
  pub wired : length s.wires ≡ 4 * length s.nodes + length s.ports
  pub lines : length s.lines ≡ length s.wires
  pub few_nodes : length s.nodes ≤ MAX_NODES
  pub few_ports : length s.ports ≤ MAX_PORTS
  pub count : length s.ports ≡ t.ports
  pub sound : Sound t414_ends s
  pub unmarked : (line : ℕ) → markers (on_line s.lines line) ≡ 0
  pub nodes : AllByRecursion IsNodeOfBytes s.nodes
  pub pages : pages_of s.nodes ≡ t.pages
  pub ports : PortsFit base s.ports

pub cut_keeps : (t : Topology) (base : ℕ) (s : Network NodeState) → is_topology t ≡ true → IsCut t414_ends t base s → AllByRecursion IsNodeOfBytes s.nodes → CutKeeps t base s
cut_keeps t base s topology C bytes =
    let shape = has_shape t topology in
    let nodes = cut_nodes t414_ends t base s topology C in
    record {
      wires = C.wires;
      wired = cut_wires t414_ends t base s topology C;
      lines = cut_lines t414_ends t base s topology C;
      few_nodes = omega (arith, shape.few_nodes, nodes);
      few_ports = omega (arith, shape.few_ports, C.count);
      count = C.count;
      sound = cut_sound t414_ends t base s topology C;
      unmarked = lines_unmarked t.wires s.lines C.lines;
      nodes = bytes;
      pages = C.pages;
      ports = λ p port at. port_fits base port (all_at (λ x. is_port_of base x ≡ true) s.ports p port C.ports at);
    }

pub keeps_next : (t : Topology) (base : ℕ) (s : Network NodeState) (e : Entry) (u : Network NodeState) → CutKeeps t base s → HasByte e → next t414 s e ≡ Some u → CutKeeps t (base + 1) u
keeps_next t base s e u K low h =
    let shape = next_shape t414 has_four_links s e u h in
    let stay = nodes_next s e u K.nodes low h in
    record {
      wires = shape.wires ∙ K.wires;
      wired = omega (arith, ap length shape.wires, shape.nodes, shape.ports, K.wired);
      lines = omega (arith, shape.lines, ap length shape.wires, K.lines);
      few_nodes = omega (arith, shape.nodes, K.few_nodes);
      few_ports = omega (arith, shape.ports, K.few_ports);
      count = shape.ports ∙ K.count;
      sound = sound_kept has_four_links keeps_flight s u e K.sound h;
      unmarked = λ line. step_markers t414 never_marks s e u has_four_links (step_of t414 s e u h) line ∙ K.unmarked line;
      nodes = stay.bytes;
      pages = stay.pages ∙ K.pages;
      ports = ports_next base s e u K.ports h;
    }

pub keeps_after : (t : Topology) (base : ℕ) (s : Network NodeState) (es : List Entry) (u : Network NodeState) → CutKeeps t base s → AllByRecursion HasByte es → after t414 s es ≡ Some u
    → CutKeeps t (base + length es) u
unfolding after
keeps_after t base s [] u K low h =
    let same : s ≡ u = cc in
    subst (λ n. CutKeeps t n u) (omega arith) (subst (CutKeeps t base) same K)
keeps_after t base s (e ∷ es) u K low h =
    let a = bind_some (next t414 s e) (λ x. after t414 x es) u h in
    subst (λ n. CutKeeps t n u) (omega arith) (keeps_after t (base + 1) a.0 es u (keeps_next t base s e a.0 K low.0 a.1) low.1 a.2)
