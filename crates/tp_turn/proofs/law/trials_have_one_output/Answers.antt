use Rattle.tp_turn.proofs.OneWay.{one_output}
use Rattle.tp_turn.proofs.law.trials_have_one_output.Goals as goal

pub returns : goal.returns
returns c = record { one = one_output }
