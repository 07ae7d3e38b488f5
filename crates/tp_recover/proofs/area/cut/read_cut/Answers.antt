use Rattle.std.proofs.Common.{◌≡◌, ◌+◌, ◌∙◌, ap, sym, subst, arith, rules, length, map, true, Ok, Err}
use Rattle.tp_recover.proofs.Lower.{are_lines, port_made, length-map, area_start, content_of, flights_in, t414_ends, base_of, cut_in, ◌>>=◌, is_topology, line_count, HasShape, has_shape}
use Rattle.tp_recover.specs.Cuts.{network_of_cut, records_at}
use Rattle.tp_recover.proofs.Cuts.{cut_in-records, cut_ok, cut_fault, cut_error, tested}
use Rattle.tp_recover.specs.Nodes.{live_node, HaveImages}
use Rattle.tp_recover.proofs.ReadParts.{parts_cut}
use Rattle.tp_recover.proofs.Room.{area_room}
use Rattle.tp_recover.proofs.area.cut.read_cut.Given as given
use Rattle.tp_recover.proofs.area.cut.read_cut.Goals as goal
use Rattle.tp_recover.proofs.area.cut.read_cut.Goals.{After-read_records, After-wires, After-wires-2}

-- the topology that was lent keeps its rules
lent : (g : given.Over) (c : After-wires g) → HasShape c.topology-topology.result.now
lent g c = has_shape c.topology-topology.result.now (subst (λ t. is_topology t ≡ true) (sym c.topology-topology.ensures.value) c.topology-topology.ensures.valid)

pub read_records-requires-clause-lines : goal.read_records-requires-clause-lines
read_records-requires-clause-lines g c =
    let shape = has_shape c.args.head.now.topology c.topology-topology.ensures.valid in
    let wires = ap length (c.wires.ensures.value ∙ ap (λ s. s.wires) c.topology-topology.ensures.value) in
    omega (arith, shape.lines, wires, c.places_in-places.ensures.lines, c.places_in-places.ensures.ports)

pub check_flights-requires-clause-fits : goal.check_flights-requires-clause-fits
check_flights-requires-clause-fits g c =
    let shape = has_shape c.args.head.now.topology c.topology-topology.ensures.valid in
    let wires = ap length (c.wires-2.ensures.value ∙ ap (λ s. s.wires) c.topology-topology.ensures.value) in
    omega (arith, shape.lines, wires, c.places_in-places.ensures.lines, c.places_in-places.ensures.groups, c.places_in-places.ensures.inside, c.places_in-places.ensures.counted)

pub check_flights-requires-clause-few_ports : goal.check_flights-requires-clause-few_ports
check_flights-requires-clause-few_ports g c =
    let shape = lent g (goal.at.check_flights-requires-clause-few_ports g c).After-wires in
    omega (arith, shape.few_ports, c.in_ok-cut.ensures.ports, c.port_count.ensures.value)

pub check_flights-requires-clause-wired : goal.check_flights-requires-clause-wired
check_flights-requires-clause-wired g c =
    let shape = lent g (goal.at.check_flights-requires-clause-wired g c).After-wires in
    omega (arith, shape.lines, ap length c.wires-2.ensures.value, ap length c.pages.ensures.value, c.in_ok-cut.ensures.nodes, c.in_ok-cut.ensures.ports, c.port_count.ensures.value)

-- the cut is that of the records that were read
is_cut : (g : given.Over) (c : After-read_records g)
    → c.args.base ≡ base_of (content_of c.args.head.now.areas c.args.second (g.D.Disk.state c.args.disk.now).now.bytes)
    → cut_in t414_ends c.args.head.now.topology (area_start c.args.head.now.areas c.args.second + 1) (content_of c.args.head.now.areas c.args.second (g.D.Disk.state c.args.disk.now).now.bytes)
    ≡ (records_at c.pages.result.now c.wires.result.now c.port_count.result c.args.base c.places_in-places.result (g.D.Disk.state c.args.disk.now).now.bytes >>= tested t414_ends c.places_in-places.result.lines (line_count c.args.head.now.topology))
is_cut g c base =
    let t = c.args.head.now.topology in
    let value = c.topology-topology.ensures.value in
    let shape = has_shape t c.topology-topology.ensures.valid in
    cut_in-records t414_ends t c.args.head.now.areas c.args.second c.args.base c.port_count.result c.pages.result.now c.wires.result.now c.places_in-places.result (g.D.Disk.state c.args.disk.now).now.bytes
    (area_room t c.args.head.now.areas.length c.places_in-places.ensures.roomy) shape.lines
    (c.pages.ensures.value ∙ ap (λ s. s.pages) value) (c.wires.ensures.value ∙ ap (λ s. s.wires) value) (c.port_count.ensures.value ∙ ap (λ s. s.ports) value) base
    c.places_in-places.ensures.nodes c.places_in-places.ensures.lines c.places_in-places.ensures.ports

pub returns-in_err-cut-clause-is : goal.returns-in_err-cut-clause-is
returns-in_err-cut-clause-is g c k base =
    let told : c.from_residual.result ≡ Err c.in_err-cut.field-0.0 = search rules in
    cut_error (network_of_cut c.args.head.now.topology.wires) t414_ends c.places_in-places.result.lines (line_count c.args.head.now.topology) _
    (records_at c.pages.result.now c.wires.result.now c.port_count.result c.args.base c.places_in-places.result (g.D.Disk.state c.args.disk.now).now.bytes) c.in_err-cut.field-0.0 c.from_residual.result
    (is_cut g (goal.at.returns-in_err-cut-clause-is g c).After-read_records base) (c.in_err-cut.ensures.is k) told

-- the wires that were lent, both times
wires_are : (g : given.Over) (c : After-wires-2 g) → (c.wires.result.now ≡ c.args.head.now.topology.wires) × (c.wires-2.result.now ≡ c.args.head.now.topology.wires)
wires_are g c =
    (c.wires.ensures.value ∙ ap (λ s. s.wires) c.topology-topology.ensures.value, c.wires-2.ensures.value ∙ ap (λ s. s.wires) c.topology-topology.ensures.value)

pub returns-in-Ok-clause-is : goal.returns-in-Ok-clause-is
returns-in-Ok-clause-is g c k base =
    let t = c.args.head.now.topology in
    let shape = has_shape t c.topology-topology.ensures.valid in
    let wires = wires_are g (goal.at.returns-in-Ok-clause-is g c).After-wires-2 in
    cut_ok t414_ends c.places_in-places.result.lines (line_count t) (network_of_cut c.wires.result.now c.in_ok-cut.cut) _
    (records_at c.pages.result.now c.wires.result.now c.port_count.result c.args.base c.places_in-places.result (g.D.Disk.state c.args.disk.now).now.bytes)
    (is_cut g (goal.at.returns-in-Ok-clause-is g c).After-read_records base) (c.in_ok-cut.ensures.is k) c.in-Ok.field-0
    (ap (λ ws. flights_in t414_ends (network_of_cut ws c.in_ok-cut.cut) c.places_in-places.result.lines 0 (line_count t)) wires.0
    ∙ ap (λ n. flights_in t414_ends (network_of_cut t.wires c.in_ok-cut.cut) c.places_in-places.result.lines 0 n) (sym shape.lines)
    ∙ ap (λ ws. flights_in t414_ends (network_of_cut ws c.in_ok-cut.cut) c.places_in-places.result.lines 0 (length ws)) (sym wires.1)
    ∙ sym c.check_flights.ensures ∙ c.in-Ok.is)
    ∙ ap (λ ws. Ok (network_of_cut ws c.in_ok-cut.cut)) wires.0

pub returns-in-Err-clause-is : goal.returns-in-Err-clause-is
returns-in-Err-clause-is g c k base =
    let t = c.args.head.now.topology in
    let shape = has_shape t c.topology-topology.ensures.valid in
    let wires = wires_are g (goal.at.returns-in-Err-clause-is g c).After-wires-2 in
    cut_fault t414_ends c.places_in-places.result.lines (line_count t) (network_of_cut c.wires.result.now c.in_ok-cut.cut) _
    (records_at c.pages.result.now c.wires.result.now c.port_count.result c.args.base c.places_in-places.result (g.D.Disk.state c.args.disk.now).now.bytes) c.in-Err.fault
    (is_cut g (goal.at.returns-in-Err-clause-is g c).After-read_records base) (c.in_ok-cut.ensures.is k)
    (ap (λ ws. flights_in t414_ends (network_of_cut ws c.in_ok-cut.cut) c.places_in-places.result.lines 0 (line_count t)) wires.0
    ∙ ap (λ n. flights_in t414_ends (network_of_cut t.wires c.in_ok-cut.cut) c.places_in-places.result.lines 0 n) (sym shape.lines)
    ∙ ap (λ ws. flights_in t414_ends (network_of_cut ws c.in_ok-cut.cut) c.places_in-places.result.lines 0 (length ws)) (sym wires.1)
    ∙ sym c.check_flights.ensures ∙ c.in-Err.is)

-- the wires and the counts of what was read, which no device has to answer for
pub returns-in-Ok-clause-nodes : goal.returns-in-Ok-clause-nodes
returns-in-Ok-clause-nodes g c =
    c.in_ok-cut.ensures.nodes ∙ ap length c.pages.ensures.value ∙ ap (λ s. length s.pages) c.topology-topology.ensures.value

pub returns-in-Ok-clause-ports : goal.returns-in-Ok-clause-ports
returns-in-Ok-clause-ports g c = c.in_ok-cut.ensures.ports ∙ c.port_count.ensures.value ∙ ap (λ s. s.ports) c.topology-topology.ensures.value

pub returns-in-Ok-clause-images : goal.returns-in-Ok-clause-images
returns-in-Ok-clause-images g c = c.in_ok-cut.ensures.images.images

pub returns-in-Ok-clause-sound : goal.returns-in-Ok-clause-sound
returns-in-Ok-clause-sound g c =
    let t = c.args.head.now.topology in
    let shape = has_shape t c.topology-topology.ensures.valid in
    let wires : c.wires-2.result.now ≡ t.wires = c.wires-2.ensures.value ∙ ap (λ s. s.wires) c.topology-topology.ensures.value in (
      c.places_in-places.result.lines,
      ap (λ n. flights_in t414_ends (network_of_cut t.wires c.in_ok-cut.cut) c.places_in-places.result.lines 0 n) (sym shape.lines)
          ∙ ap (λ ws. flights_in t414_ends (network_of_cut ws c.in_ok-cut.cut) c.places_in-places.result.lines 0 (length ws)) (sym wires)
          ∙ sym c.check_flights.ensures ∙ c.in-Ok.is,
    )

pub returns-in-Ok-clause-cut : goal.returns-in-Ok-clause-cut
returns-in-Ok-clause-cut g c few =
    let t = c.args.head.now.topology in
    let shape = has_shape t c.topology-topology.ensures.valid in
    let wires = wires_are g (goal.at.returns-in-Ok-clause-cut g c).After-wires-2 in
    let cut = c.in_ok-cut.cut in
    parts_cut t414_ends t c.args.base c.places_in-places.result.lines (map live_node cut.nodes.items) (map (λ line. line.items) cut.lines.items) (map port_made cut.ports.items)
    (subst (λ pages. HaveImages pages (map live_node cut.nodes.items)) (c.pages.ensures.value ∙ ap (λ s. s.pages) c.topology-topology.ensures.value) c.in_ok-cut.ensures.images)
    (ap (λ ws. are_lines ws (map (λ line. line.items) cut.lines.items)) (sym wires.0) ∙ c.in_ok-cut.ensures.lines)
    (length-map cut.ports.items port_made ∙ c.in_ok-cut.ensures.ports ∙ c.port_count.ensures.value ∙ ap (λ s. s.ports) c.topology-topology.ensures.value)
    c.in_ok-cut.ensures.reached
    (ap (λ n. flights_in t414_ends (network_of_cut t.wires cut) c.places_in-places.result.lines 0 n) (sym shape.lines)
    ∙ ap (λ ws. flights_in t414_ends (network_of_cut ws cut) c.places_in-places.result.lines 0 (length ws)) (sym wires.1)
    ∙ sym c.check_flights.ensures ∙ c.in-Ok.is)
    few
