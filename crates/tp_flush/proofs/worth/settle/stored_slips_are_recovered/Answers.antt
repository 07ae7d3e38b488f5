use Rattle.tp_flush.proofs.Settling.{recovers_with}
use Rattle.tp_flush.proofs.worth.settle.stored_slips_are_recovered.Goals as goal

pub returns : goal.returns
returns c = recovers_with
