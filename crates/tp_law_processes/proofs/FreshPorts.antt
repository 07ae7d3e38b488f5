-- Ports of a device that was formatted have put out nothing, and nothing has arrived from them.
use Rattle.std.proofs.Common.{◌≡◌, ℕ, zero, suc, ◌+◌, true, inl, inr, List, [], ◌∷◌, length, drop, Some, Ok, ap, subst, ◌∙◌, arith}
use Rattle.std.specs.Prelude.{◌&&◌, nat_le, slice_get}
use Rattle.tp_law_processes.proofs.Lower.{AllByRecursion, and_parts, leb-true, get_or_past, nil_from_length, get_or_from_slice_get, slice_get_cases, MAX_HELD, NodeState, t414, t414_ends, Machine, Network, Port, EndsSeen, Topology, line_count, Held, is_port_of, lines_in, nodes_in, ports_in, area_start, content_of, device_areas, flights_in, Opened, base_of, cut_in, lines_place, network_of, nodes_place, opening, ports_place, verdict, World, BeginsFormatted, area_parts, bind_ok, held_opened, reads_of, ports_read, fresh_value, port_or_fresh}

-- ports of a cut with this many entries in it
abbrev ArePortsOf : ℕ → Network NodeState → Type 0
ArePortsOf base s = AllByRecursion (λ port. is_port_of base port ≡ true) s.ports

cut_ports : (E : EndsSeen NodeState) (t : Topology) (at : ℕ) (content : List ℕ) (s : Network NodeState) → cut_in E t at content ≡ Ok s → ArePortsOf (base_of content) s
unfolding cut_in
cut_ports E t at content s is =
    let a = bind_ok (nodes_in (at + nodes_place) t.pages (drop nodes_place content)) _ s is in
    let b = bind_ok (lines_in (at + lines_place t) t.wires (drop (lines_place t) content)) _ s a.2 in
    let c = bind_ok (ports_in (base_of content) (at + ports_place t) t.ports (drop (ports_place t) content)) _ s b.2 in
    let network = network_of t a.0 b.0 c.0 in
    let d = bind_ok (flights_in E network (at + lines_place t) 0 (line_count t)) _ s c.2 in
    let same : network ≡ s = let both = d.2 in cc in
    subst (ArePortsOf (base_of content)) same (ports_read (base_of content) (at + ports_place t) t.ports (drop (ports_place t) content) c.0 c.1).are_ports

opening_ports : (M : Machine NodeState) (E : EndsSeen NodeState) (bytes : List ℕ) (o : Opened) → opening M E bytes ≡ Ok o → ArePortsOf o.base o.cut
opening_ports M E bytes o is =
    let R = reads_of M E bytes o is in
    let content = content_of o.head.areas o.second bytes in
    let A = area_parts M E o.head o.second content o R.area in
    subst (λ (p : Opened). ArePortsOf p.base p.cut) A.is (cut_ports E o.head.topology (area_start o.head.areas o.second + 1) content A.cut A.cut_is)

formatted_ports : (start : Network NodeState) (w : World NodeState) → BeginsFormatted t414 device_areas start w → ArePortsOf 0 start
unfolding verdict
formatted_ports start w F =
    let H = held_opened (opening t414 t414_ends w.disk.bytes) (record { network = start; entries = []; base = 0 }) F.reads in
    subst (λ (h : Held NodeState). ArePortsOf h.base h.network) H.2 (opening_ports t414 t414_ends w.disk.bytes H.0 H.1)

-- ## One of them

pub record IsNew (port : Port) : Type 0 where
  pub out_base : port.out_base ≡ 0
  pub outputs : port.outputs ≡ []
  pub in_base : port.in_base ≡ 0

port_new : (port : Port) → is_port_of 0 port ≡ true → IsNew port
port_new port is =
    let parts = and_parts (nat_le (length port.pending) MAX_HELD && nat_le (length port.outputs) MAX_HELD) (nat_le port.in_base 0 && nat_le (port.out_base + length port.outputs) 0) is in
    let both = and_parts (nat_le port.in_base 0) (nat_le (port.out_base + length port.outputs) 0) parts.1 in
    let few = leb-true (port.out_base + length port.outputs) 0 both.1 in
    let arrived = leb-true port.in_base 0 both.0 in
    record { out_base = omega (arith, few); outputs = nil_from_length port.outputs (omega (arith, few)); in_base = omega (arith, arrived) }

port_there : (ports : List Port) (p : ℕ) (port : Port) → AllByRecursion (λ x. is_port_of 0 x ≡ true) ports → slice_get ports p ≡ Some port → is_port_of 0 port ≡ true
port_there [] p port all at = cc
port_there (x ∷ ports) zero port all at = let same : x ≡ port = cc in subst (λ q. is_port_of 0 q ≡ true) same all.0
port_there (x ∷ ports) (suc p) port all at = port_there ports p port all.1 at

pub formatted_port : (start : Network NodeState) (w : World NodeState) → BeginsFormatted t414 device_areas start w → (p : ℕ) (port : Port) → slice_get start.ports p ≡ Some port
    → IsNew port
formatted_port start w F p port at = port_new port (port_there start.ports p port (formatted_ports start w F) at)

-- of a port that is there, or isn't
pub none_arrived : (start : Network NodeState) (w : World NodeState) → BeginsFormatted t414 device_areas start w → (p : ℕ) → (port_or_fresh start p).in_base ≡ 0
none_arrived start w F p = elim (slice_get_cases start.ports p).1 [
  | inl at ↦
      let new = formatted_port start w F p at.0 at.2 in
      ap (λ (port : Port). port.in_base) (get_or_from_slice_get start.ports p at.0 fresh_value.port at.2) ∙ new.in_base
  | inr past ↦ ap (λ (port : Port). port.in_base) (get_or_past start.ports p fresh_value.port past.0)
]
