use Rattle.std.proofs.Common.{◌≡◌, ◌∙◌, ap, sym, rules, Err, Ok, drop, map}
use Rattle.tp_recover.proofs.Lower.{nodes_in, lines_in, ports_in, are_lines, port_made, tokens_on}
use Rattle.tp_recover.specs.Cuts.{network_of_cut, wired}
use Rattle.tp_recover.specs.Nodes.{live_node}
use Rattle.tp_recover.proofs.Cuts.{first_error, second_error, third_error, all_read, lines_then, ports_then}
use Rattle.tp_recover.proofs.Leaving.{then_leaves}
use Rattle.tp_recover.proofs.area.cut.read_records.Goals as goal

pub returns-in_err-nodes-clause-is : goal.returns-in_err-nodes-clause-is
returns-in_err-nodes-clause-is g c k =
    let xs = (g.D.Disk.state c.args.disk.now).now.bytes in
    let told : c.from_residual.result ≡ Err c.in_err-nodes.field-0.0 = search rules in
    first_error (network_of_cut c.args.wires.now) (nodes_in c.args.places.nodes c.args.pages.now (drop c.args.places.nodes xs)) (lines_in c.args.places.lines c.args.wires.now (drop c.args.places.lines xs))
    (ports_in c.args.base c.args.places.ports c.args.ports (drop c.args.places.ports xs)) (wired c.args.wires.now) c.in_err-nodes.field-0.0 c.from_residual.result (c.in_err-nodes.ensures.is k) told

pub returns-in_err-found-clause-is : goal.returns-in_err-found-clause-is
returns-in_err-found-clause-is g c k =
    let old = (g.D.Disk.state c.args.disk.now).now in
    let now = (g.D.Disk.state c.read_nodes.new.disk).now in
    let told : c.from_residual-in_err-found.result ≡ Err c.in_err-found.field-0.0 = search rules in
    second_error (network_of_cut c.args.wires.now) (nodes_in c.args.places.nodes c.args.pages.now (drop c.args.places.nodes old.bytes)) (map live_node c.in_ok-nodes.nodes.items)
    (lines_in c.args.places.lines c.args.wires.now (drop c.args.places.lines old.bytes)) (lines_in c.args.places.lines c.args.wires.now (drop c.args.places.lines now.bytes))
    (ports_in c.args.base c.args.places.ports c.args.ports (drop c.args.places.ports old.bytes)) (wired c.args.wires.now) c.in_err-found.field-0.0 c.from_residual-in_err-found.result
    (c.in_ok-nodes.ensures.is (c.read_lines.ensures.premise k))
    (lines_then c.args.places.lines c.args.wires.now old now c.in_ok-nodes.ensures.kept) (c.in_err-found.ensures.is k) told

pub returns-in_err-ports-clause-is : goal.returns-in_err-ports-clause-is
returns-in_err-ports-clause-is g c k =
    let old = (g.D.Disk.state c.args.disk.now).now in
    let then = (g.D.Disk.state c.read_nodes.new.disk).now in
    let now = (g.D.Disk.state c.read_lines.new.disk).now in
    let told : c.from_residual-in_err-ports.result ≡ Err c.in_err-ports.field-0.0 = search rules in
    third_error (network_of_cut c.args.wires.now) (nodes_in c.args.places.nodes c.args.pages.now (drop c.args.places.nodes old.bytes)) (map live_node c.in_ok-nodes.nodes.items)
    (lines_in c.args.places.lines c.args.wires.now (drop c.args.places.lines old.bytes)) (map tokens_on c.in_ok-found.found.items)
    (ports_in c.args.base c.args.places.ports c.args.ports (drop c.args.places.ports old.bytes)) (ports_in c.args.base c.args.places.ports c.args.ports (drop c.args.places.ports now.bytes)) (wired c.args.wires.now) c.in_err-ports.field-0.0 c.from_residual-in_err-ports.result
    (c.in_ok-nodes.ensures.is (c.read_lines.ensures.premise (c.read_ports.ensures.premise k)))
    (sym (lines_then c.args.places.lines c.args.wires.now old then c.in_ok-nodes.ensures.kept) ∙ c.in_ok-found.ensures.is (c.read_ports.ensures.premise k))
    (ports_then c.args.base c.args.places.ports c.args.ports old now (c.in_ok-found.ensures.kept ∙ c.in_ok-nodes.ensures.kept)) (c.in_err-ports.ensures.is k) told

pub returns-in-Ok-clause-is : goal.returns-in-Ok-clause-is
returns-in-Ok-clause-is g c k =
    let old = (g.D.Disk.state c.args.disk.now).now in
    let then = (g.D.Disk.state c.read_nodes.new.disk).now in
    let now = (g.D.Disk.state c.read_lines.new.disk).now in
    all_read (nodes_in c.args.places.nodes c.args.pages.now (drop c.args.places.nodes old.bytes)) (map live_node c.in_ok-nodes.nodes.items)
    (lines_in c.args.places.lines c.args.wires.now (drop c.args.places.lines old.bytes)) (map (λ list. list.items) c.in-Ok.lines.items)
    (ports_in c.args.base c.args.places.ports c.args.ports (drop c.args.places.ports old.bytes)) (map port_made c.in_ok-ports.ports.items) (wired c.args.wires.now)
    (c.in_ok-nodes.ensures.is (c.read_lines.ensures.premise (c.read_ports.ensures.premise k)))
    (sym (lines_then c.args.places.lines c.args.wires.now old then c.in_ok-nodes.ensures.kept) ∙ c.in_ok-found.ensures.is (c.read_ports.ensures.premise k) ∙ ap Ok (sym (c.in-Ok.ensures ∙ ap (map tokens_on) c.deref.ensures.value)))
    (sym (ports_then c.args.base c.args.places.ports c.args.ports old now (c.in_ok-found.ensures.kept ∙ c.in_ok-nodes.ensures.kept)) ∙ c.in_ok-ports.ensures.is k)

pub returns-in-Ok-clause-lines : goal.returns-in-Ok-clause-lines
returns-in-Ok-clause-lines g c =
    ap (are_lines c.args.wires.now) (c.in-Ok.ensures ∙ ap (map tokens_on) c.deref.ensures.value) ∙ c.in_ok-found.ensures.lines

pub returns-in_err-found-clause-leaves : goal.returns-in_err-found-clause-leaves
returns-in_err-found-clause-leaves g c = then_leaves _ _ _ c.read_nodes.ensures.leaves c.read_lines.ensures.leaves

pub returns-in_err-ports-clause-leaves : goal.returns-in_err-ports-clause-leaves
returns-in_err-ports-clause-leaves g c = then_leaves _ _ _ (then_leaves _ _ _ c.read_nodes.ensures.leaves c.read_lines.ensures.leaves) c.read_ports.ensures.leaves

pub returns-in-Ok-clause-leaves : goal.returns-in-Ok-clause-leaves
returns-in-Ok-clause-leaves g c = then_leaves _ _ _ (then_leaves _ _ _ c.read_nodes.ensures.leaves c.read_lines.ensures.leaves) c.read_ports.ensures.leaves

pub returns-in-Err-clause-leaves : goal.returns-in-Err-clause-leaves
returns-in-Err-clause-leaves g c = then_leaves _ _ _ (then_leaves _ _ _ c.read_nodes.ensures.leaves c.read_lines.ensures.leaves) c.read_ports.ensures.leaves
