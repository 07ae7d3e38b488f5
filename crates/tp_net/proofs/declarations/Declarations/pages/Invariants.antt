use Rattle.std.proofs.Common.{◌≡◌}
use Rattle.tp_net.proofs.declarations.Declarations.pages.Given as goal

abbrev pub invariant-loop-count : goal.invariant-loop-count
invariant-loop-count l = l.pages.items ≡ l.yielded
