use Rattle.std.proofs.Common.{◌≡◌, ◌≤◌, length, take, Some}
use Rattle.tp_replay.proofs.Lower.{t414, took_all}
use Rattle.tp_replay.specs.NodesInside.{IsLive}
use Rattle.tp_replay.proofs.pieces.turns.take_all.Given as goal

abbrev pub invariant-loop-m : goal.invariant-loop-m
invariant-loop-m l =
    IsLive l.node × (length l.out.items ≤ l.m-index)
    × (took_all t414 (take l.m-index l.tokens) l.initial.node.live ≡ Some (l.node.live, l.out.items))
