use Rattle.std.proofs.Common.{◌≡◌}
use Rattle.tp_tests_threads.proofs.meanwhile.store_pairs.Given as goal

abbrev pub invariant-loop-place : goal.invariant-loop-place
invariant-loop-place g l = l.pass.mark ≡ g.J.Naming.mark
