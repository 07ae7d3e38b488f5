use Rattle.std.proofs.Common.{◌≡◌, Some}
use Rattle.tp_tests_opening.proofs.numbers.all_come.Given as goal

abbrev pub invariant-loop : goal.invariant-loop
invariant-loop g l = l.hand.of ≡ Some l.queue
