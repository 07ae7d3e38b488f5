use Rattle.std.proofs.Common.{refl}
use Rattle.tp_model.specs.Network.{sent}
use Rattle.tp_replay.proofs.pieces.lanes.Lanes.send_some.Goals as goal

pub returns-in-Some-clause-sends : goal.returns-in-Some-clause-sends
unfolding sent
returns-in-Some-clause-sends c = rw c.in-Some.is c.send.ensures.sends

pub returns-in-None-clause-sends : goal.returns-in-None-clause-sends
unfolding sent
returns-in-None-clause-sends c = rw c.in-None.is refl
