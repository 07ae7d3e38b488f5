-- What comes from a link on decides for all of them.
use Rattle.std.proofs.Common.{◌≡◌, drop}
use Rattle.tp_replay.proofs.Stands.{all_stand}
use Rattle.tp_replay.proofs.received.are_there.Given as goal

abbrev pub invariant-loop-link : goal.invariant-loop-link
invariant-loop-link l = all_stand l.wires l.nodes l.node l.lines l.link (drop l.link l.takes) ≡ all_stand l.wires l.nodes l.node l.lines 0 l.takes
