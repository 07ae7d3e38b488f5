-- Networks that a device's parts are picked for.
use Rattle.std.proofs.Common.{◌≡◌, ℕ, get_or, length, sym, ap, ◌∙◌}
use Rattle.tp_stream.proofs.Lower.{length-map, page_count, NodeState, Network, t414_ends, Opened, book_of, MarkedNetwork, IsCut, node_count, BookValue, world_of, accepted_of, port_in, fresh_value, RaiserValue, PartsValue, IsMadeOf}
use Rattle.tp_stream.specs.Standing.{accepted_opened}

-- such a network has the nodes of the topology
pub nodes_of : (o : Opened) (b : BookValue) (start : Network NodeState) → world_of b ≡ book_of o → IsCut t414_ends o.head.topology o.base o.cut → length b.state.start.nodes ≡ length start.nodes
    → length start.nodes ≡ node_count o.head.topology
nodes_of o b start world cut same =
    sym same ∙ ap (λ (n : MarkedNetwork NodeState). length n.start.nodes) world ∙ sym (length-map o.cut.nodes (λ (n : NodeState). page_count n.memory)) ∙ ap length cut.pages

-- its ports, and its wires
pub ports_of : (o : Opened) (b : BookValue) (start : Network NodeState) → length b.state.ports ≡ o.head.topology.ports → length b.state.ports ≡ length start.ports → length start.ports ≡ o.head.topology.ports
ports_of o b start made same = sym same ∙ made

pub wires_of : (o : Opened) (b : BookValue) (start : Network NodeState) → world_of b ≡ book_of o → IsCut t414_ends o.head.topology o.base o.cut → b.state.start.wires ≡ start.wires
    → start.wires ≡ o.head.topology.wires
wires_of o b start world cut same = sym same ∙ ap (λ (n : MarkedNetwork NodeState). n.start.wires) world ∙ cut.wires

-- what its ports have accepted
pub accepted_made : (o : Opened) (b : BookValue) (p : ℕ) → world_of b ≡ book_of o → accepted_of (port_in b p) ≡ accepted_opened o p
accepted_made o b p world = ap (λ (n : MarkedNetwork NodeState). accepted_of (get_or n.live.ports p fresh_value.port)) world

-- such a network is of the kept cut's shape
pub shape_is : (o other : Opened) (parts : PartsValue) (raiser : RaiserValue) → other ≡ o → IsMadeOf o parts raiser → IsCut t414_ends o.head.topology o.base o.cut
    → (parts.book.state.start.wires ≡ other.cut.wires) × (length parts.book.state.start.nodes ≡ length other.cut.nodes) × (length parts.book.state.ports ≡ length other.cut.ports)
shape_is o other parts raiser same S cut = (
  ap (λ (n : MarkedNetwork NodeState). n.start.wires) S.book ∙ ap (λ (x : Opened). x.cut.wires) (sym same),
  ap (λ (n : MarkedNetwork NodeState). length n.start.nodes) S.book ∙ ap (λ (x : Opened). length x.cut.nodes) (sym same),
  S.ports ∙ sym cut.count ∙ ap (λ (x : Opened). length x.cut.ports) (sym same),
)
