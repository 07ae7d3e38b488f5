use Rattle.std.proofs.Common.{◌≡◌}
use Rattle.tp_tests_threads.proofs.meanwhile.comes_stored.Given as goal

abbrev pub invariant-loop : goal.invariant-loop
invariant-loop g l = l.pass.mark ≡ g.J.Naming.mark
