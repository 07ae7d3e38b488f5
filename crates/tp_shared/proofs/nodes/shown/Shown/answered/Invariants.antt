use Rattle.tp_shared.specs.Agreement.{answered_with}
use Rattle.tp_shared.proofs.nodes.shown.Shown.answered.Given as goal

abbrev pub ghost-of : goal.ghost-of
ghost-of a = answered_with a._value.now.0.0.now a._value.now.1.0 a._value.now.0.1.now a._value.now.1.1.now
