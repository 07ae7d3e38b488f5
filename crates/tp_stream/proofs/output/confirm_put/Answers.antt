use Rattle.tp_stream.proofs.Confirms.{confirms_otherwise}
use Rattle.tp_stream.proofs.output.confirm_put.Goals as goal

pub returns-in-Err-clause-room : goal.returns-in-Err-clause-room
returns-in-Err-clause-room g c shown room =
    c.fault_of.ensures.full
    (confirms_otherwise _ c.args.held.now.book c.args.output.now.port c.args.flusher.now.world.mark c.args.output.now.next c.port.result c.mark.result c.put.result c.in-Err.fault
    c.port.ensures c.mark.ensures c.put.ensures shown room c.in-Err.ensures.answer)
