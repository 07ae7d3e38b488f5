use Rattle.std.proofs.Common.{◌≡◌, [], replicate}
use Rattle.tp_net.proofs.line.Lines.new.Given as goal

abbrev pub invariant-loop : goal.invariant-loop
invariant-loop l = l.lines.items ≡ replicate l.counter []
