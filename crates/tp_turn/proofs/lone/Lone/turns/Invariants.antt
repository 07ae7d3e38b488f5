use Rattle.std.proofs.Common.{◌*◌}
use Rattle.tp_turn.specs.Lone.{WentByAct}
use Rattle.tp_turn.specs.TrialTurns.{AreTurns}
use Rattle.tp_turn.specs.declared.take.TheConstants.{TURN_ENTRIES}
use Rattle.tp_turn.proofs.lone.Lone.turns.Given as goal

abbrev pub invariant-loop-number : goal.invariant-loop-number
invariant-loop-number l = record { turned : WentByAct (AreTurns l.quantum l.number) (TURN_ENTRIES * l.number) l.fn.self l.self }
