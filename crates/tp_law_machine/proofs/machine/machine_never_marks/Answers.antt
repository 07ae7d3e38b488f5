use Rattle.tp_law_machine.proofs.LinkLaws.{never_marks}
use Rattle.tp_law_machine.proofs.machine.machine_never_marks.Goals as goal

pub returns : goal.returns
returns c = never_marks
