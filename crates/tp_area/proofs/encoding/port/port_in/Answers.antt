use Rattle.std.proofs.Common.{◌∙◌, sym}
use Rattle.tp_area.specs.Ports.{port_said}
use Rattle.tp_area.proofs.Ports.{port_with-copied, held_few, shown_few}
use Rattle.tp_area.proofs.encoding.port.port_in.Goals as goal

pub record_in-requires-clause-few : goal.record_in-requires-clause-few
record_in-requires-clause-few c = held_few c.args.base c.from-held.result c.args.bytes.now (sym c.is_port_at.ensures ∙ c.if-not-is_port_at.false) (c.from-held.ensures ∙ c.u16_at.ensures)

pub record_in-requires-clause-few_outputs : goal.record_in-requires-clause-few_outputs
record_in-requires-clause-few_outputs c = shown_few c.args.base c.from-shown.result c.args.bytes.now (sym c.is_port_at.ensures ∙ c.if-not-is_port_at.false) (c.from-shown.ensures ∙ c.u16_at-2.ensures)

pub returns : goal.returns
returns c =
    port_with-copied c.args.base c.from-held.result c.from-shown.result c.args.bytes.now (port_said c.record_in.result) (sym c.is_port_at.ensures ∙ c.if-not-is_port_at.false)
    (c.from-held.ensures ∙ c.u16_at.ensures) (c.from-shown.ensures ∙ c.u16_at-2.ensures) c.record_in.ensures
