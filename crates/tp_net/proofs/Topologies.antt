-- What a topology keeps.
use Rattle.std.proofs.Common.{◌≡◌, ℕ, zero, suc, ◌+◌, ◌<◌, ◌≤◌, List, [], ◌∷◌, length, take, get_or, ap, arith, true, subst, Option, Some, None, length-take}
use Rattle.std.specs.Prelude.{◌&&◌, nat_le, nat_lt, nat_eq}
use Rattle.tp_net.proofs.Lower.{list_all, and_parts, leb-true, ltb-true, eqb-true, get_or-take, WireEnd, Link, AtPort, MAX_NODES, MAX_PORTS, HeadVersion, Narrow, Wide, head_nodes, first_port, end_number, Topology, all_lead_back, leads_back, is_end, joins_link, is_page_count, is_topology, line_count, node_count}

pub record HasShape (t : Topology) : Type 0 where
  pub some_nodes : 1 ≤ node_count t
  pub few_nodes : node_count t ≤ MAX_NODES
  pub some_ports : 1 ≤ t.ports
  pub few_ports : t.ports ≤ MAX_PORTS
  pub lines : length t.wires ≡ line_count t
  pub pages : list_all is_page_count t.pages ≡ true
  pub wires : all_lead_back (node_count t) t.ports t.wires 0 t.wires ≡ true

pub has_shape : (t : Topology) → is_topology t ≡ true → HasShape t
unfolding is_topology
has_shape t h =
    let N = node_count t in
    let wires = all_lead_back N t.ports t.wires 0 t.wires in
    let lines = nat_eq (length t.wires) (line_count t) in
    let pages = list_all is_page_count t.pages in
    let nodes = and_parts (nat_le 1 N && nat_le N MAX_NODES) ((nat_le 1 t.ports && nat_le t.ports MAX_PORTS) && (pages && (lines && wires))) h in
    let ports = and_parts (nat_le 1 t.ports && nat_le t.ports MAX_PORTS) (pages && (lines && wires)) nodes.1 in
    let rest = and_parts pages (lines && wires) ports.1 in
    let last = and_parts lines wires rest.1 in
    let n = and_parts (nat_le 1 N) (nat_le N MAX_NODES) nodes.0 in
    let p = and_parts (nat_le 1 t.ports) (nat_le t.ports MAX_PORTS) ports.0 in
    record {
      some_nodes = leb-true 1 N n.0;
      few_nodes = leb-true N MAX_NODES n.1;
      some_ports = leb-true 1 t.ports p.0;
      few_ports = leb-true t.ports MAX_PORTS p.1;
      lines = eqb-true (length t.wires) (line_count t) last.0;
      pages = rest.0;
      wires = last.1;
    }

-- each wire leads back
leads_back_at : (N H line i : ℕ) (wires ends : List (Option WireEnd)) → all_lead_back N H wires line ends ≡ true → i < length ends
    → leads_back N H wires (line + i) (get_or ends i None) ≡ true
unfolding all_lead_back
leads_back_at N H line i wires [] h lt = absurd (omega (arith, lt))
leads_back_at N H line zero wires (end ∷ ends) h lt =
    let here = and_parts (leads_back N H wires line end) (all_lead_back N H wires (line + 1) ends) h in
    subst (λ n. leads_back N H wires n end ≡ true) (omega arith) here.0
leads_back_at N H line (suc i) wires (end ∷ ends) h lt =
    let here = and_parts (leads_back N H wires line end) (all_lead_back N H wires (line + 1) ends) h in
    subst (λ n. leads_back N H wires n (get_or ends i None) ≡ true) (omega arith) (leads_back_at N H (line + 1) i wires ends here.1 (omega arith))

pub wire_leads_back : (t : Topology) (i : ℕ) → HasShape t → i < length t.wires
    → leads_back (node_count t) t.ports t.wires i (get_or t.wires i None) ≡ true
wire_leads_back t i shape lt =
    subst (λ n. leads_back (node_count t) t.ports t.wires n (get_or t.wires i None) ≡ true) (omega arith) (leads_back_at (node_count t) t.ports 0 i t.wires t.wires shape.wires lt)

-- a link that a wire leads to exists, and so does a port
link_there : (N H line : ℕ) (wires : List (Option WireEnd)) (j k : ℕ) → leads_back N H wires line (Some (Link j k)) ≡ true → (j < N) × (k < 4)
link_there N H line wires j k h =
    let parts = and_parts (is_end N H (Link j k) && joins_link N line (Link j k)) _ h in
    let both = and_parts (is_end N H (Link j k)) (joins_link N line (Link j k)) parts.0 in
    let ends = and_parts (nat_lt j N) (nat_lt k 4) both.0 in
    (ltb-true j N ends.0, ltb-true k 4 ends.1)

port_there : (N H line : ℕ) (wires : List (Option WireEnd)) (p : ℕ) → leads_back N H wires line (Some (AtPort p)) ≡ true → p < H
port_there N H line wires p h =
    let parts = and_parts (is_end N H (AtPort p) && joins_link N line (AtPort p)) _ h in
    let both = and_parts (is_end N H (AtPort p)) (joins_link N line (AtPort p)) parts.0 in
    ltb-true p H both.0

-- The number of an end that exists, in a head that has fields for all nodes. So a narrow head says it in a byte, and a wide one in two.
end_number-there : (version : HeadVersion) (N H line : ℕ) (wires : List (Option WireEnd)) (end : Option WireEnd) → N ≤ head_nodes version → H ≤ MAX_PORTS
    → leads_back N H wires line end ≡ true → end_number version end < first_port version + MAX_PORTS
end_number-there Narrow N H line wires None few few_ports h = omega arith
end_number-there Wide N H line wires None few few_ports h = omega arith
end_number-there Narrow N H line wires (Some (Link j k)) few few_ports h = let ends = link_there N H line wires j k h in omega (arith, ends.0, ends.1, few)
end_number-there Wide N H line wires (Some (Link j k)) few few_ports h = let ends = link_there N H line wires j k h in omega (arith, ends.0, ends.1, few)
end_number-there Narrow N H line wires (Some (AtPort p)) few few_ports h = omega (arith, port_there N H line wires p h, few_ports)
end_number-there Wide N H line wires (Some (AtPort p)) few few_ports h = omega (arith, port_there N H line wires p h, few_ports)

pub end_number-bound : (version : HeadVersion) (t : Topology) (wires : List (Option WireEnd)) (n i : ℕ) → HasShape t → node_count t ≤ head_nodes version → wires ≡ t.wires
    → i < length (take n wires) → end_number version (get_or (take n wires) i None) < first_port version + MAX_PORTS
end_number-bound version t wires n i shape few is lt =
    let first : i < n = omega (arith, length-take n wires) in
    let there : i < length t.wires = omega (arith, length-take n wires, ap length is) in
    rw (get_or-take n wires i None first, is)
    (end_number-there version (node_count t) t.ports i t.wires (get_or t.wires i None) few shape.few_ports (wire_leads_back t i shape there))
