use Rattle.tp_law_processes.proofs.Histories.{one_history}
use Rattle.tp_law_processes.proofs.Joined.{formatted_first}
use Rattle.tp_law_processes.proofs.OneInput.{one_input}
use Rattle.tp_law_processes.proofs.processes_show_one_history.Goals as goal

pub returns-clause-history : goal.returns-clause-history
returns-clause-history c = λ start before was began processes order. one_history start before was began processes order

pub returns-clause-formatted : goal.returns-clause-formatted
returns-clause-formatted c = λ start w formatted opened is. formatted_first start w formatted opened is

pub returns-clause-input : goal.returns-clause-input
returns-clause-input c = one_input
