use Rattle.tp_law_processes.proofs.Lower.{t414, has_four_links}
use Rattle.tp_law_processes.proofs.Inputs.{after_absent, after_taken}
use Rattle.tp_law_processes.proofs.ports_take_in.Goals as goal

pub returns-clause-taken : goal.returns-clause-taken
returns-clause-taken c = after_taken t414 has_four_links

pub returns-clause-absent : goal.returns-clause-absent
returns-clause-absent c = after_absent t414 has_four_links
