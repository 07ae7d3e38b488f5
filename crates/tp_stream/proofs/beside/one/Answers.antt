use Rattle.tp_stream.proofs.Accounted.{worker_made}
use Rattle.tp_stream.proofs.beside.one.Goals as goal

pub returns-clause-made : goal.returns-clause-made
returns-clause-made g c =
    worker_made g.J.Naming.start c.args.net.now.quantum c.turn-done.result c.args.seat.now.slips c.turn-done.new.seat.slips c.requires.made c.turn-done.ensures.turned
