-- A network that a cut image can hold can be replayed from.
use Rattle.std.proofs.Common.{◌≡◌, ℕ, ◌+◌, true, [], length, ◌∙◌, arith}
use Rattle.std.specs.Prelude.{◌&&◌, nat_le}
use Rattle.tp_recover.proofs.Lower.{AllByRecursion, and_parts, leb-true, MAX_HELD, NodeState, t414_ends, Port, Network, EndsSeen, Topology, is_topology, is_port_of, IsCut, IsNodeOfBytes, all_at, IsCounted, AreCounted, IsFlat, has_shape, lines_unmarked, cut_nodes, cut_wires, cut_lines, cut_sound}
use Rattle.tp_recover.proofs.HeldPorts.{EachPort, IsHeld}

-- ## A network in one thread

pub cut_flat : (t : Topology) (base : ℕ) (s : Network NodeState) → is_topology t ≡ true → IsCut t414_ends t base s → AllByRecursion IsNodeOfBytes s.nodes → IsFlat s
cut_flat t base s topology C bytes =
    let shape = has_shape t topology in
    let nodes = cut_nodes t414_ends t base s topology C in
    let wires = cut_wires t414_ends t base s topology C in
    record {
      sound = cut_sound t414_ends t base s topology C;
      shaped = record {
        wires = wires;
        lines = cut_lines t414_ends t base s topology C ∙ wires;
        few_nodes = omega (arith, shape.few_nodes, nodes);
        few_ports = omega (arith, shape.few_ports, C.count);
      };
      marked = λ line. omega (arith, lines_unmarked t.wires s.lines C.lines line);
      nodes = λ i node at. all_at IsNodeOfBytes s.nodes i node bytes at;
    }

-- ## Ports

-- what a port of a cut keeps
record PortKeeps (base : ℕ) (port : Port) : Type 0 where
  counted : IsCounted base port
  held : IsHeld port

port_keeps : (base : ℕ) (port : Port) → is_port_of base port ≡ true → PortKeeps base port
port_keeps base port h =
    let all = and_parts (nat_le (length port.pending) MAX_HELD && nat_le (length port.outputs) MAX_HELD) (nat_le port.in_base base && nat_le (port.out_base + length port.outputs) base) h in
    let few = and_parts (nat_le (length port.pending) MAX_HELD) (nat_le (length port.outputs) MAX_HELD) all.0 in
    let low = and_parts (nat_le port.in_base base) (nat_le (port.out_base + length port.outputs) base) all.1 in
    record {
      counted = record { inputs = leb-true port.in_base base low.0; outputs = leb-true (port.out_base + length port.outputs) base low.1 };
      held = record { pending = leb-true (length port.pending) MAX_HELD few.0; outputs = leb-true (length port.outputs) MAX_HELD few.1 };
    }

cut_ports : (E : EndsSeen NodeState) (t : Topology) (base : ℕ) (s : Network NodeState) → IsCut E t base s → EachPort (PortKeeps base) s.ports
cut_ports E t base s C p port at = port_keeps base port (all_at (λ x. is_port_of base x ≡ true) s.ports p port C.ports at)

-- What a port of a cut has counted is no more than there are entries in it.
pub cut_counted : (E : EndsSeen NodeState) (t : Topology) (base : ℕ) (s : Network NodeState) → IsCut E t base s → AreCounted base s.ports
cut_counted E t base s C p port at = (cut_ports E t base s C p port at).counted

-- It holds no more than it has room for.
pub cut_held : (E : EndsSeen NodeState) (t : Topology) (base : ℕ) (s : Network NodeState) → IsCut E t base s → EachPort IsHeld s.ports
cut_held E t base s C p port at = (cut_ports E t base s C p port at).held

-- ## A cut that was read
