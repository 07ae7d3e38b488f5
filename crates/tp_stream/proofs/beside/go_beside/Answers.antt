use Rattle.std.proofs.Common.{Bool, sym, subst}
use Rattle.tp_stream.specs.Failures.{FailedWhere}
use Rattle.tp_stream.proofs.beside.go_beside.Goals as goal

pub returns-clause-failures : goal.returns-clause-failures
returns-clause-failures g c rests =
    subst (λ (failed : Bool). FailedWhere failed c.args.flusher.now c.flush_beside-flushed.new.flusher) (sym c.outcome_of.ensures.failed) (c.flush_beside-flushed.ensures.failures rests)
