use Rattle.std.proofs.Common.{◌≡◌, [], Some}
use Rattle.std.specs.Prelude.{All}
use Rattle.tp_tests_threads.proofs.limits.are_made.Given as goal

abbrev pub invariant-loop-place : goal.invariant-loop-place
invariant-loop-place g l = All (λ seat. (seat.hand.of ≡ Some l.net.queue) × (seat.slips ≡ [])) l.seats.items
