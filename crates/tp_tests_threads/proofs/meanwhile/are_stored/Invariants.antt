use Rattle.std.proofs.Common.{◌≡◌}
use Rattle.tp_tests_threads.proofs.meanwhile.are_stored.Given as goal

abbrev pub invariant-loop-receipt : goal.invariant-loop-receipt
invariant-loop-receipt g l = l.pass.mark ≡ g.J.Naming.mark
