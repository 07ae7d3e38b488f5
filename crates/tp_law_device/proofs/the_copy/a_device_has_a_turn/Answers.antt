use Rattle.tp_law_device.proofs.OneTurn.{one_turn}
use Rattle.tp_law_device.proofs.the_copy.a_device_has_a_turn.Goals as goal

pub returns : goal.returns
returns c = one_turn
