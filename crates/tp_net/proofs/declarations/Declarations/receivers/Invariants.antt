use Rattle.std.proofs.Common.{◌≡◌, length, map}
use Rattle.tp_net.proofs.Lower.{range_with_len, end_of, other_end}
use Rattle.tp_net.proofs.declarations.Declarations.receivers.Given as goal

abbrev pub invariant-loop-line : goal.invariant-loop-line
invariant-loop-line l = record {
  ends : l.ends.items ≡ map (λ line. other_end (end_of l.nodes line) l.self.wires) (range_with_len 0 l.line);
  count : length l.ends.items ≡ l.line;
}
