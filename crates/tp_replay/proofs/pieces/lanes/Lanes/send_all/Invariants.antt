use Rattle.std.proofs.Common.{◌≡◌, take}
use Rattle.tp_replay.proofs.Lower.{has_wire, sent, from_line}
use Rattle.tp_replay.specs.Lanes.{SameLanes}
use Rattle.tp_replay.proofs.pieces.lanes.Lanes.send_all.Given as goal

abbrev pub invariant-loop-m : goal.invariant-loop-m
invariant-loop-m l =
    SameLanes l.initial.self l.self
    × (l.self.lines ≡ sent (has_wire l.initial.self.wires) l.initial.self.lines (from_line l.first (take l.m-index l.tokens)))
