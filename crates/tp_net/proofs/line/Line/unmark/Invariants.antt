-- The tokens that are left, and then those that went round, without Markers.
use Rattle.std.proofs.Common.{◌≡◌, ◌++◌, drop, take}
use Rattle.tp_model.specs.Markers.{plain}
use Rattle.tp_net.proofs.line.Line.unmark.Given as goal

abbrev pub invariant-loop-at : goal.invariant-loop-at
invariant-loop-at l = l.self ≡ drop l.at l.fn.self ++ plain (take l.at l.fn.self)
