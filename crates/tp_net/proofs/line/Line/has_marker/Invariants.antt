-- None of the tokens so far is a Marker.
use Rattle.std.proofs.Common.{◌≡◌, drop}
use Rattle.tp_model.specs.Markers.{has_marker}
use Rattle.tp_net.proofs.line.Line.has_marker.Given as goal

abbrev pub invariant-loop-at : goal.invariant-loop-at
invariant-loop-at l = has_marker l.self ≡ has_marker (drop l.at l.self)
