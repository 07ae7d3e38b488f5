use Rattle.std.proofs.Common.{◌≡◌, [], Some, sym, subst}
use Rattle.std.specs.Prelude.{All}
use Rattle.tp_tests_threads.proofs.scenes.play.Goals as goal

pub act-is_so-requires-clause-seats : goal.act-is_so-requires-clause-seats
act-is_so-requires-clause-seats g c κs within =
    subst (λ q. All (λ seat. (seat.hand.of ≡ Some q) × (seat.slips ≡ [])) c.in_ok-net.seats.items) (sym c.seat-slips.ensures.same.1) c.in_ok-net.ensures.seats
