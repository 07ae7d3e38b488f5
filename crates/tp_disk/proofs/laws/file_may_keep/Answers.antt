use Rattle.std.proofs.Common.{refl}
use Rattle.tp_disk.proofs.laws.file_may_keep.Goals as goal

pub returns-clause-met : goal.returns-clause-met
returns-clause-met c = (refl, tt)

pub returns-clause-unmet : goal.returns-clause-unmet
returns-clause-unmet c k = let is = k.0 in cc
