-- The tokens that are left can be taken, and lead where all of them lead.
use Rattle.std.proofs.Common.{◌≡◌, IsSome, drop}
use Rattle.tp_replay.proofs.Lower.{taken, by_line}
use Rattle.tp_replay.proofs.received.take_off.Given as goal

abbrev pub invariant-loop-m : goal.invariant-loop-m
invariant-loop-m l = record {
  some : IsSome (taken l.lines (by_line l.wires l.nodes l.node (drop l.m-index l.tokens)));
  is : taken l.lines (by_line l.wires l.nodes l.node (drop l.m-index l.tokens)) ≡ taken l.initial.lines (by_line l.wires l.nodes l.node l.tokens);
}
