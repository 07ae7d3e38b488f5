use Rattle.std.proofs.Common.{◌≡◌, Some}
use Rattle.tp_tests_opening.proofs.numbers.come_in_order.Given as goal

abbrev pub invariant-loop-number : goal.invariant-loop-number
invariant-loop-number g l = l.hand.of ≡ Some l.queue
