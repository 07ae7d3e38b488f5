use Rattle.std.proofs.Common.{refl}
use Rattle.std.specs.Int.{int_wrap}
use Rattle.tp_law_machine.proofs.examples.instructions.sums_wrap.Goals as goal

pub returns-clause-add : goal.returns-clause-add
unfolding int_wrap
returns-clause-add c = refl
