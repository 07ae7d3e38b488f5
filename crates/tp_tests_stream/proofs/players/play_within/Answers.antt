use contract.BorrowLft.{⊑_static}
use denote.Param.Send.{sendable}
use Rattle.std.proofs.Common.{rules}
use Rattle.tp_tests_stream.proofs.players.play_within.Goals as goal

-- what is lent to the stream outlives what was lent to this, and the device may go to another thread
pub stream-requires : goal.stream-requires
stream-requires g c κs within =
    (within.0, (within.1.0, (within.1.1.0, (within.1.1.1.0, (⊑_static _, (within.1.1.1.1, (search (rules, sendable), (search (rules, sendable), (c.requires.quantum, c.requires.allowed)))))))))
