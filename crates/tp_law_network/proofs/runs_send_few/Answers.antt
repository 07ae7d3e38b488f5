use Rattle.tp_law_machine.proofs.LinkLaws.{has_four_links, never_marks, keeps_flight}
use Rattle.tp_law_network.proofs.Room.{run_bounded}
use Rattle.tp_law_network.proofs.runs_send_few.Goals as goal

pub returns : goal.returns
returns c = run_bounded has_four_links keeps_flight never_marks
