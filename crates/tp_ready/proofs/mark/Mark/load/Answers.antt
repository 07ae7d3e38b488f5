use Rattle.std.proofs.Common.{rules, arith}
use Rattle.tp_ready.proofs.Steps.{loads}
use Rattle.tp_ready.proofs.mark.Mark.load.Goals as goal

pub load-shown-requires : goal.load-shown-requires
load-shown-requires c = (search rules, omega (arith, c.self.invariant), loads _ _ _)
