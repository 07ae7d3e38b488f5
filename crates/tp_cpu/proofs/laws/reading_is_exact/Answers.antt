use Rattle.tp_cpu.proofs.Exact.{allowed_given, given_if_allowed, spelt_once}
use Rattle.tp_cpu.proofs.laws.reading_is_exact.Goals as goal

pub returns-clause-exactly : goal.returns-clause-exactly
returns-clause-exactly c bytes r small = (allowed_given bytes r, given_if_allowed bytes r small)

pub returns-clause-once : goal.returns-clause-once
returns-clause-once c = spelt_once
