use Rattle.std.proofs.Common.{◌≡◌, true, length, take}
use Rattle.tp_model.specs.Turn.{by_line}
use Rattle.tp_replay.specs.Behind.{TakesTokens}
use Rattle.tp_replay.proofs.pieces.host_part.HostPart.take_fronts.Given as goal

abbrev pub invariant-loop-m : goal.invariant-loop-m
invariant-loop-m l =
    TakesTokens l.initial.self (by_line l.initial.self.network.wires (length l.initial.self.network.nodes) l.node (take l.m-index l.tokens)) true l.self
    × (l.self.network.ports ≡ l.initial.self.network.ports)
