use Rattle.std.proofs.Common.{refl, arith}
use Rattle.tp_stream.proofs.Quiets.{none_rested}
use Rattle.tp_stream.proofs.serving.Going.new.Goals as goal

pub returns : goal.returns
returns g c = record { rested = none_rested g.J.Naming.start c.new.result.whose c.new.result.idle (omega arith) c.new.ensures.idle; seats = (refl, refl, refl) }
