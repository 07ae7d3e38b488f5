-- Its entries are of no thread.
use denote.RattleType.{RattleType}
use denote.Param.Send.{IsSend}
use Rattle.tp_ready.specs.contracts.slips.Slips.{the_row}
use Rattle.tp_ready.proofs.Rolls.{slips_keyless}

pub send : (T : RattleType) → IsSend (the_row T)
send T = record { owned = λ d vs. ((λ vss. (tt, ((λ uss. (tt, tt)), tt))), slips_keyless T.coded.code d.name d.items); leaving = λ k f vs. tt }
