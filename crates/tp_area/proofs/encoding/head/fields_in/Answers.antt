use Rattle.std.proofs.Common.{ap, ◌∙◌, sym, None}
use Rattle.tp_area.proofs.Lower.{cond-true, cond-false, areas_of_length}
use Rattle.tp_area.proofs.Heads.{fields_in-none, fields_in-said}
use Rattle.tp_area.proofs.encoding.head.fields_in.Goals as goal

pub returns-in_err-topology-clause-value : goal.returns-in_err-topology-clause-value
returns-in_err-topology-clause-value c = c.from_residual.ensures ∙ fields_in-none c.args.version c.args.len c.args.bytes.now (sym c.topology_in.ensures ∙ c.in_err-topology.was)

pub returns-then-is_whole-clause-value : goal.returns-then-is_whole-clause-value
returns-then-is_whole-clause-value c =
    sym (fields_in-said c.args.version c.args.len c.args.bytes.now c.in_ok-topology.topology c.areas_of_length-areas.result c.is_whole.result (sym c.topology_in.ensures ∙ c.in_ok-topology.was)
    (c.areas_of_length-areas.ensures ∙ ap (areas_of_length c.args.version) c.u64_at.ensures) c.is_whole.ensures
    ∙ cond-true c.is_whole.result _ None c.if-is_whole.true)

pub returns-else-is_whole-clause-value : goal.returns-else-is_whole-clause-value
returns-else-is_whole-clause-value c =
    sym (fields_in-said c.args.version c.args.len c.args.bytes.now c.in_ok-topology.topology c.areas_of_length-areas.result c.is_whole.result (sym c.topology_in.ensures ∙ c.in_ok-topology.was)
    (c.areas_of_length-areas.ensures ∙ ap (areas_of_length c.args.version) c.u64_at.ensures) c.is_whole.ensures
    ∙ cond-false c.is_whole.result _ None c.if-is_whole.false)
