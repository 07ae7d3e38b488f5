use Rattle.std.proofs.Common.{◌≡◌, take}
use Rattle.tp_model.specs.Network.{on_line}
use Rattle.tp_replay.proofs.parts.tokens_on.Given as goal

abbrev pub invariant-loop-at : goal.invariant-loop-at
invariant-loop-at l = l.tokens.items ≡ take l.at (on_line l.lines l.line)
