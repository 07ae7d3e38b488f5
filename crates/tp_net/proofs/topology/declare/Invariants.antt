use Rattle.std.proofs.Common.{◌≡◌, ◌+◌, ◌≤◌, length}
use Rattle.tp_net.proofs.Lower.{lines, read_lines}
use Rattle.tp_net.proofs.topology.declare.Given as goal

abbrev pub invariant-loop-line : goal.invariant-loop-line
invariant-loop-line l = record {
  count : l.number + length l.rest ≤ length l.text + 1;
  left : read_lines l.declared l.number (lines l.rest) ≡ read_lines l.initial.declared 1 (lines l.text);
}

abbrev pub decreases-loop-line : goal.decreases-loop-line
decreases-loop-line l = length l.rest
