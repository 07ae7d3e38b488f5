use Rattle.tp_model.specs.Network.{on_line}
use Rattle.tp_book.proofs.InFront.{by_two-before}
use Rattle.tp_book.proofs.received.waiting.Goals as goal

pub returns : goal.returns
returns c = rw (c.by_two.ensures, c.get.ensures, c.get-2.ensures) (by_two-before (on_line c.args.lines.now c.args.line) c.requires.data c.requires.ack)
