-- The node can take the tokens that are left, and what it has answered and answers to them is what it answers to all.
use Rattle.std.proofs.Common.{◌≡◌, ◌≤◌, IsSome, None, length, drop}
use Rattle.tp_replay.proofs.Lower.{option_map, t414, took_all}
use Rattle.tp_replay.proofs.TakenAll.{with_answers}
use Rattle.tp_replay.proofs.received.take_all.Given as goal

abbrev pub invariant-loop-m : goal.invariant-loop-m
invariant-loop-m l = record {
  few : length l.answers.items ≤ l.m-index;
  thawed : l.node.frozen ≡ None;
  some : IsSome (took_all t414 (drop l.m-index l.tokens) l.node.live);
  is : option_map (with_answers l.answers.items) (took_all t414 (drop l.m-index l.tokens) l.node.live) ≡ took_all t414 l.tokens l.fn.node.live;
}
