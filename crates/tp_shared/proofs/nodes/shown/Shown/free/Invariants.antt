use Rattle.tp_shared.specs.Agreement.{at_rest}
use Rattle.tp_shared.proofs.nodes.shown.Shown.free.Given as goal

abbrev pub ghost-of : goal.ghost-of
ghost-of a = at_rest a._value.now
