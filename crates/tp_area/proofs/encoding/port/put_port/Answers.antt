use Rattle.std.proofs.Common.{◌++◌, ap, ◌∙◌}
use Rattle.tp_area.specs.Ports.{port_said}
use Rattle.tp_area.proofs.PortBytes.{port_bytes-put}
use Rattle.tp_area.proofs.encoding.port.put_port.Goals as goal

pub returns-clause-bytes : goal.returns-clause-bytes
returns-clause-bytes c =
    c.pad-2.ensures.bytes
    ∙ port_bytes-put (port_said c.args.port) c.clear.new.self.items c.put.new.out.items c.put-2.new.out.items c.put-3.new.out.items c.put-4.new.out.items c.put-5.new.out.items c.pad.new.out.items c.put-6.new.out.items
    c.requires.few c.requires.few_outputs c.clear.ensures
    (c.put.ensures.bytes ∙ ap (λ xs. c.clear.new.self.items ++ xs) c.to_le_bytes.ensures)
    (c.put-2.ensures.bytes ∙ ap (λ xs. c.put.new.out.items ++ xs) c.to_le_bytes-2.ensures)
    (c.put-3.ensures.bytes ∙ ap (λ xs. c.put-2.new.out.items ++ xs) c.to_le_bytes-3.ensures)
    (c.put-4.ensures.bytes ∙ ap (λ xs. c.put-3.new.out.items ++ xs) c.to_le_bytes-4.ensures)
    c.put-5.ensures.bytes c.pad.ensures.bytes c.put-6.ensures.bytes
