use Rattle.tp_model.specs.Node.{t414}
use Rattle.tp_law_network.proofs.SmallHolds.{small_holds}
use Rattle.tp_law_network.proofs.SmallRun.{each_answers, one_port_formatted, one_port_stores}
use Rattle.tp_law_network.proofs.all_runs.areas_can_hold.Goals as goal

pub returns-clause-hold : goal.returns-clause-hold
returns-clause-hold c = small_holds t414

pub returns-clause-answers : goal.returns-clause-answers
returns-clause-answers c = each_answers t414

pub returns-clause-formatted : goal.returns-clause-formatted
returns-clause-formatted c = one_port_formatted t414

pub returns-clause-stores : goal.returns-clause-stores
returns-clause-stores c = one_port_stores t414
