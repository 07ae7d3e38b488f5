use Rattle.std.proofs.Common.{◌∙◌, sym, arith, inl, inr, None}
use Rattle.std.proofs.lemmas.Bool.{cond-true, cond-false}
use Rattle.tp_area.proofs.Heads.{not_numbers, not_said, topology_at-none, topology_at-read, topology_at-said, topology_at-unsaid}
use Rattle.tp_area.proofs.encoding.head.topology_in.Goals as goal
use Rattle.tp_area.proofs.encoding.head.topology_in.Goals.{then-count-head_nodes-via-then-count-head_nodes, then-count-head_nodes-via-else-count-head_nodes+then-from-gt-MAX_PORTS}

pub returns-then-count-head_nodes : goal.returns-then-count-head_nodes
returns-then-count-head_nodes c =
    topology_at-none c.args.version c.args.bytes.now (not_said c.args.version c.args.bytes.now (elim c.then-count-head_nodes.branch [
      | then-count-head_nodes-via-then-count-head_nodes w ↦ inl (omega (arith, c.head_nodes.ensures.value, c.from-count.ensures))
      | then-count-head_nodes-via-else-count-head_nodes+then-from-gt-MAX_PORTS w ↦ inr (omega arith)
    ]))

pub returns-then-not-are_numbers : goal.returns-then-not-are_numbers
returns-then-not-are_numbers c =
    topology_at-none c.args.version c.args.bytes.now
    (not_numbers c.args.version c.args.bytes.now c.link_line.result c.ends_place.result c.as_slice.result.now (omega (arith, c.link_line.ensures, c.from-count.ensures)) c.ends_place.ensures
    (c.as_slice.ensures.value ∙ c.numbers_in-numbers.ensures.value) (sym c.are_numbers.ensures ∙ c.if-not-are_numbers.true))

pub returns-in_err-topology : goal.returns-in_err-topology
returns-in_err-topology c =
    c.from_residual.ensures
    ∙ topology_at-unsaid c.args.version c.args.bytes.now _
    (topology_at-read c.args.version c.args.bytes.now c.from-count.result c.link_line.result c.ends_place.result c.u16s_in-pages.result.items c.as_slice-2.result.now c.wires_in-wires.result.items
    c.from-count.ensures c.link_line.ensures c.ends_place.ensures c.u16s_in-pages.ensures.value (c.as_slice-2.ensures.value ∙ c.numbers_in-numbers.ensures.value) c.wires_in-wires.ensures)
    (sym c.of_parts.ensures ∙ c.in_err-topology.was)

pub returns-then-keeps_limits : goal.returns-then-keeps_limits
returns-then-keeps_limits c =
    sym (topology_at-said c.args.version c.args.bytes.now _ c.in_ok-topology.topology c.keeps_limits.result
    (topology_at-read c.args.version c.args.bytes.now c.from-count.result c.link_line.result c.ends_place.result c.u16s_in-pages.result.items c.as_slice-2.result.now c.wires_in-wires.result.items
    c.from-count.ensures c.link_line.ensures c.ends_place.ensures c.u16s_in-pages.ensures.value (c.as_slice-2.ensures.value ∙ c.numbers_in-numbers.ensures.value) c.wires_in-wires.ensures)
    (sym c.of_parts.ensures ∙ c.in_ok-topology.was) c.keeps_limits.ensures.value
    ∙ cond-true c.keeps_limits.result _ None c.if-keeps_limits.true)

pub returns-else-keeps_limits : goal.returns-else-keeps_limits
returns-else-keeps_limits c =
    sym (topology_at-said c.args.version c.args.bytes.now _ c.in_ok-topology.topology c.keeps_limits.result
    (topology_at-read c.args.version c.args.bytes.now c.from-count.result c.link_line.result c.ends_place.result c.u16s_in-pages.result.items c.as_slice-2.result.now c.wires_in-wires.result.items
    c.from-count.ensures c.link_line.ensures c.ends_place.ensures c.u16s_in-pages.ensures.value (c.as_slice-2.ensures.value ∙ c.numbers_in-numbers.ensures.value) c.wires_in-wires.ensures)
    (sym c.of_parts.ensures ∙ c.in_ok-topology.was) c.keeps_limits.ensures.value
    ∙ cond-false c.keeps_limits.result _ None c.if-keeps_limits.false)
