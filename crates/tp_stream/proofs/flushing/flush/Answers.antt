use Rattle.std.proofs.Common.{sym, subst}
use Rattle.tp_stream.specs.Failures.{FailedWhere, fault_failed}
use Rattle.tp_stream.proofs.Failures.{turn_done, turn_refused}
use Rattle.tp_stream.proofs.flushing.flush.Goals as goal

pub returns-in-Ok-clause-failures : goal.returns-in-Ok-clause-failures
returns-in-Ok-clause-failures g c rests = turn_done c.turn.result c.in-Ok.flushed c.args.flusher.now c.turn.new.self c.in-Ok.is c.turn.ensures.ended

pub returns-in-Err-clause-failures : goal.returns-in-Err-clause-failures
returns-in-Err-clause-failures g c rests =
    subst (λ f. FailedWhere (fault_failed f) c.args.flusher.now c.turn.new.self) (sym c.fault_in.ensures.value)
    (turn_refused c.turn.result c.in-Err.fault c.args.flusher.now c.turn.new.self c.in-Err.is c.turn.ensures.ended rests)
