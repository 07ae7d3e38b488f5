use Rattle.tp_disk.proofs.Calls.{before_or_after_may, may_before_or_after}
use Rattle.tp_disk.proofs.laws.moments_within_calls.Goals as goal

pub returns-clause-is_done : goal.returns-clause-is_done
returns-clause-is_done c = λ call m left inside. (before_or_after_may call m left inside, may_before_or_after call m left inside)
