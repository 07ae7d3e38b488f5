use Rattle.std.proofs.Common.{◌≡◌, drop}
use Rattle.tp_model.specs.Turn.{comes_in}
use Rattle.tp_replay.proofs.pieces.lanes.Lanes.comes_in.Given as goal

abbrev pub invariant-loop-m : goal.invariant-loop-m
invariant-loop-m l = comes_in l.self.wires l.nodes l.node l.tokens ≡ comes_in l.self.wires l.nodes l.node (drop l.m-index l.tokens)
