use Rattle.tp_run.proofs.Failures.{outcome_refused, outcome_rests, turn_failures}
use Rattle.tp_run.proofs.flushing.flush.Goals as goal

pub returns-clause-failures : goal.returns-clause-failures
returns-clause-failures g c = turn_failures c.turn.result c.args.flusher.now c.turn.new.self c.turn.ensures.ended

pub returns-clause-rests : goal.returns-clause-rests
returns-clause-rests g c = outcome_rests c.turn.result c.outcome_of.result c.args.fault c.args.flusher.now c.turn.new.self c.outcome_of.ensures c.turn.ensures.ended

pub returns-clause-refused : goal.returns-clause-refused
returns-clause-refused g c = outcome_refused c.turn.result c.outcome_of.result c.args.fault c.args.flusher.now c.turn.new.self c.outcome_of.ensures c.turn.ensures.ended
