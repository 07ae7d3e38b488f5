use Rattle.std.proofs.Common.{rules, arith}
use Rattle.tp_ready.proofs.Steps.{audits}
use Rattle.tp_ready.proofs.mark.Mark.settle.Goals as goal

pub load-requires : goal.load-requires
load-requires c = (search rules, omega (arith, c.self.invariant), audits _ _ _ (search rules))
